-- What is read of the sections of a text is a certificate with the parts of the text.
use Rattle.std.proofs.Common.{◌≡◌, ◌≢◌, ◌∙◌, ℕ, ◌+◌, ◌≤◌, true, List, [], ◌∷◌, ◌++◌, Option, None, length, map, refl, sym, ap, ap₂, subst}
use Rattle.std.specs.Prelude.{All, AllPairs, ◌==◌, nat_le}
use Rattle.std.specs.List.{zip}
use Rattle.std.specs.Option.{option_or}
use Rattle.std.proofs.lemmas.Bool.{eqb-true, leb-true}
use Rattle.std.proofs.lemmas.List.{length-map, map-id}
use Rattle.std.proofs.lemmas.List.Elements.{All-head, All-tail, All-map, All-weaker}
use mathlib.Core.List.{map-map}
use Rattle.alg_core.specs.PolynomialSpaces.{marked_space}
use Rattle.alg_core.specs.Vectors.{Entry}
use Rattle.alg_core.specs.declared.term.Term.{Term as CodeTerm}
use Rattle.alg_core.specs.declared.value_kind.ValueKind.{ValueKind}
use Rattle.alg_core.specs.declared.value_kind.ValueKind.TheVariants as kinds
use Rattle.lin_algebra.specs.declared.matrix.Matrix.{Matrix}
use Rattle.poly_module.specs.GreatestExponents.{total, greatest}
use Rattle.poly_text.specs.Syntax.{Term}
use Rattle.poly_text.specs.Values.{entry_of}
use Rattle.prime_field.specs.ListedPrimes.{is_listed}
use Rattle.prime_field.specs.PrimeFields.{IsPrimeField}
use Rattle.certificate_io.specs.Certificates.{EvidenceOf, Averages, Members, CertificateOf, matrix_of, evidence_of}
use Rattle.certificate_io.specs.Conditions.{degree_of, degrees, secondary_degrees, irreducible_degrees, plain, marked, combined, worded, AreEvidence, IsCertificate, IsImage, IsMember, IsPolynomialIn, IsPower, IsSquare}
use Rattle.certificate_io.specs.LineReadings.{IsImageIn, IsMemberIn, IsPowerIn, power_kind}
use Rattle.certificate_io.specs.PartFaults.{heading_seen, heading_end, degrees_of, plain_of, marked_of, combined_of, worded_of, module_end, evidence_begin, evidence_faults, evidence_end, words_begin, text_end, module_faults, generator_faults}
use Rattle.certificate_io.specs.Parts.{EvidenceTree, Images, Kernel, TextParts, AreParts, IsEvidenceTree, tree_in, power_in, evidence_in, parts_of}
use Rattle.certificate_io.specs.ReadParts.{ArePolynomials, ArePowers, IsEvidence, IsReady, IsHeading, IsModule, AreGenerators}
use Rattle.certificate_io.specs.Readings.{AreReadBy, CanRead, matrix_cells, on_line, poly_kind, run_fault}
use Rattle.certificate_io.specs.Spaces.{field_at, combination_space, word_space, plain_names, marked_names, word_names}
use Rattle.certificate_io.specs.Syntax.{IsSome}
use Rattle.certificate_io.specs.Values.{checked, tree_degree}
use Rattle.certificate_io.specs.declared.values.Generators.{Generators}
use Rattle.certificate_io.specs.declared.values.Heading.{Heading}
use Rattle.certificate_io.specs.declared.values.Module.{Module}
use Rattle.certificate_io.proofs.PrintedTrees.{tree_entries}
use Rattle.certificate_io.proofs.ReadingRuns.{line_passes}
use Rattle.certificate_io.proofs.SectionsRead.{none_of_two, holds_of_checked, read_length, some_read, trees_read, powers_read, members_read, images_read}
use Rattle.certificate_io.proofs.TextSpaces.{prime_at, can_plain, can_marked, can_worded}

-- parts of which each list is the same
same_parts : (t : TextParts) (ms : List (List _)) (ps ls ss is ds : List (List Term)) (ws : List _) (e : EvidenceTree)
    → ms ≡ t.matrices → ps ≡ t.primaries → ls ≡ t.lifts → ws ≡ t.powers → ss ≡ t.secondaries → e ≡ t.evidence → is ≡ t.irreducibles → ds ≡ t.words
    → record t { matrices = ms; primaries = ps; lifts = ls; powers = ws; secondaries = ss; evidence = e; irreducibles = is; words = ds } ≡ t
same_parts t ms ps ls ss is ds ws e matrices primaries lifts powers secondaries evidence irreducibles words =
    ap (λ x. record t { matrices = x; primaries = ps; lifts = ls; powers = ws; secondaries = ss; evidence = e; irreducibles = is; words = ds }) matrices
    ∙ ap (λ x. record t { primaries = x; lifts = ls; powers = ws; secondaries = ss; evidence = e; irreducibles = is; words = ds }) primaries
    ∙ ap (λ x. record t { lifts = x; powers = ws; secondaries = ss; evidence = e; irreducibles = is; words = ds }) lifts
    ∙ ap (λ x. record t { powers = x; secondaries = ss; evidence = e; irreducibles = is; words = ds }) powers
    ∙ ap (λ x. record t { secondaries = x; evidence = e; irreducibles = is; words = ds }) secondaries
    ∙ ap (λ x. record t { evidence = x; irreducibles = is; words = ds }) evidence
    ∙ ap (λ x. record t { irreducibles = x; words = ds }) irreducibles
    ∙ ap (λ x. record t { words = x }) words

-- what is read of the sections
record AreRead (t : TextParts) (c : CertificateOf ℕ) : Type 0 where
  matrices : AreReadBy (IsSquare t.characteristic (length t.names)) (matrix_cells t.characteristic) (λ x. x) t.matrices c.matrices
  primaries : ArePolynomials (plain_of t) (plain_names t.names) t.primaries c.primaries
  lifts : ArePolynomials (marked_of t) (marked_names t.names (length t.primaries)) t.lifts c.lifts
  powers : ArePowers (marked_of t) (marked_names t.names (length t.primaries)) t.powers c.powers
  secondaries : ArePolynomials (plain_of t) (plain_names t.names) t.secondaries c.secondaries
  evidence : IsEvidence t t.evidence c.evidence
  irreducibles : ArePolynomials (plain_of t) (plain_names t.names) t.irreducibles c.irreducibles
  words : ArePolynomials (worded_of t) (word_names (length t.primaries) (length t.irreducibles)) t.words c.words

module _ (t : TextParts) (are : AreParts t) (listed : is_listed t.characteristic ≡ true) (few : length t.names ≤ 8) (distinct : AllPairs (λ v w. v ≢ w) t.names)
    (no_module_fault : module_faults t ≡ None) (no_generator_fault : generator_faults t ≡ None) (d : CertificateOf ℕ) (read : AreRead t d) where
  abbrev p : ℕ
  p = t.characteristic

  abbrev n : ℕ
  n = length t.names

  abbrev r : ℕ
  r = length t.primaries

  -- the certificate with the numbers and the names of the text
  abbrev c : CertificateOf ℕ
  c = record d { characteristic = t.characteristic; names = t.names; order = t.order; rank = t.rank }

  prime : IsPrimeField p (field_at p)
  prime = prime_at p listed

  reads_plain : CanRead (plain_of t) (plain_names t.names)
  reads_plain = can_plain (field_at p) t.names are.names.1 distinct

  reads_marked : CanRead (marked_of t) (marked_names t.names r)
  reads_marked = subst (λ k. CanRead (marked_of t) (marked_names t.names k)) (length-map t.primaries (tree_degree (heading_seen t))) (can_marked (field_at p) t.names are.names.1 distinct (degrees_of t t.primaries))

  reads_worded : CanRead (worded_of t) (word_names r (length t.irreducibles))
  reads_worded =
      subst (λ k. CanRead (worded_of t) (word_names k (length t.irreducibles))) (length-map t.primaries (tree_degree (heading_seen t)))
      (subst (λ k. CanRead (worded_of t) (word_names (length (degrees_of t t.primaries)) k)) (length-map t.irreducibles (tree_degree (heading_seen t))) (can_worded (field_at p) (degrees_of t t.primaries) (degrees_of t t.irreducibles)))

  -- the degrees
  degree_read : (f : List (CodeTerm ℕ (List ℕ))) → IsPolynomialIn (plain_of t) (plain_names t.names) f → tree_degree (heading_seen t) (tree_in p t.names 0 f) ≡ degree_of f
  degree_read f reads =
      let height : Entry ℕ → ℕ = λ e. total e.0.1 in
      ap greatest (sym (map-map height (entry_of None (plain_of t) (plain_names t.names)) (tree_in p t.names 0 f)) ∙ ap (map height) (tree_entries (plain_of t) (plain_names t.names) p prime reads_plain f reads))

  degrees_from : (fs : List (List (CodeTerm ℕ (List ℕ)))) → All (IsPolynomialIn (plain_of t) (plain_names t.names)) fs → degrees_of t (map (tree_in p t.names 0) fs) ≡ map degree_of fs
  degrees_from [] all = refl
  degrees_from (f ∷ fs) all =
      ap₂ (λ x xs. x ∷ xs) (degree_read f (All-head (IsPolynomialIn (plain_of t) (plain_names t.names)) f fs all)) (degrees_from fs (All-tail (IsPolynomialIn (plain_of t) (plain_names t.names)) f fs all))

  abbrev trees_plain : (xs : List (List Term)) (fs : List (List (CodeTerm ℕ (List ℕ)))) → ArePolynomials (plain_of t) (plain_names t.names) xs fs → map (tree_in p t.names 0) fs ≡ xs
  trees_plain = trees_read (plain_of t) (plain_names t.names) p prime reads_plain

  degrees_read : (xs : List (List Term)) (fs : List (List (CodeTerm ℕ (List ℕ)))) → ArePolynomials (plain_of t) (plain_names t.names) xs fs → degrees_of t xs ≡ map degree_of fs
  degrees_read xs fs read = ap (degrees_of t) (sym (trees_plain xs fs read)) ∙ degrees_from fs read.0

  in_primaries : length d.primaries ≡ r
  in_primaries = read_length _ _ d.primaries t.primaries read.primaries.1

  in_secondaries : length d.secondaries ≡ length t.secondaries
  in_secondaries = read_length _ _ d.secondaries t.secondaries read.secondaries.1

  in_irreducibles : length d.irreducibles ≡ length t.irreducibles
  in_irreducibles = read_length _ _ d.irreducibles t.irreducibles read.irreducibles.1

  primary_degrees : degrees_of t t.primaries ≡ map degree_of d.primaries
  primary_degrees = degrees_read t.primaries d.primaries read.primaries

  -- the powers and the words are as many as they have to be
  powers_are : (length d.powers ≡ n) × (map (power_in p t.names r) (zip t.names d.powers) ≡ t.powers)
  powers_are =
      let names = marked_names t.names r in
      let line = heading_end t + length t.primaries + length t.lifts + 1 in
      let primaries = run_fault (λ _ ts. poly_kind (plain_of t) (plain_names t.names) ts) (heading_end t + 1) 0 t.primaries in
      let lifts = run_fault (λ _ ts. poly_kind (marked_of t) names ts) (heading_end t + length t.primaries + 1) 0 t.lifts in
      let powers = run_fault (power_kind (marked_of t) names) line 0 t.powers in
      let count = on_line (module_end t) (checked kinds.Count (nat_le n (length t.powers))) in
      let passed = none_of_two powers count (none_of_two lifts (option_or powers count) (none_of_two primaries (option_or lifts (option_or powers count)) no_module_fault).1).1 in
      let low : n ≤ length t.powers = leb-true n (length t.powers) (holds_of_checked kinds.Count (nat_le n (length t.powers)) (line_passes (module_end t) _ passed.1)) in
      powers_read (marked_of t) names p prime reads_marked line t.powers d.powers passed.0 low read.powers

  words_are : length d.words ≡ length d.secondaries
  words_are =
      let plain : ℕ → List Term → Option ValueKind = λ _ ts. poly_kind (plain_of t) (plain_names t.names) ts in
      let secondaries = run_fault plain (module_end t + 1) 0 t.secondaries in
      let evidence = evidence_faults t (evidence_begin t + 1) t.evidence in
      let irreducibles = run_fault plain (evidence_end t + 1) 0 t.irreducibles in
      let words = run_fault (λ _ ts. poly_kind (worded_of t) (word_names r (length t.irreducibles)) ts) (words_begin t + 1) 0 t.words in
      let count = on_line (text_end t) (checked kinds.Count (length t.words == length t.secondaries)) in
      let from_irreducibles = option_or irreducibles (option_or words count) in
      let after_evidence = (none_of_two evidence from_irreducibles (none_of_two secondaries (option_or evidence from_irreducibles) no_generator_fault).1).1 in
      let after_words = (none_of_two words count (none_of_two irreducibles (option_or words count) after_evidence).1).1 in
      let same : length t.words ≡ length t.secondaries = eqb-true (length t.words) (length t.secondaries) (holds_of_checked kinds.Count (length t.words == length t.secondaries) (line_passes (text_end t) _ after_words)) in
      read_length _ _ d.words t.words read.words.1 ∙ same ∙ sym in_secondaries

  -- the parts that it prints
  evidence_read : (x : EvidenceTree) (e : EvidenceOf ℕ) → IsEvidence t x e → evidence_in p t.names r (length (degrees_of t t.secondaries)) e ≡ x
  evidence_read (Images xs) (Averages ys) h = ap Images (images_read (combined_of t) t.names p prime xs ys h.1)
  evidence_read (Images xs) (Members ys) h = absurd h
  evidence_read (Kernel xs) (Averages ys) h = absurd h
  evidence_read (Kernel xs) (Members ys) h = ap Kernel (members_read (marked_of t) (marked_names t.names r) p prime reads_marked (combined_of t) prime xs ys h.1)

  parts_same : parts_of c ≡ t
  unfolding parts_of
  parts_same =
      let names = marked_names t.names r in
      let counted : length (degrees_of t t.secondaries) ≡ length d.secondaries = length-map t.secondaries (tree_degree (heading_seen t)) ∙ sym in_secondaries in
      same_parts t _ _ _ _ _ _ _ _
      (read.matrices.1 ∙ map-id t.matrices)
      (trees_plain t.primaries d.primaries read.primaries)
      (ap (λ k. map (tree_in p t.names k) d.lifts) in_primaries ∙ trees_read (marked_of t) names p prime reads_marked t.lifts d.lifts read.lifts)
      (ap (λ k. map (power_in p t.names k) (zip t.names d.powers)) in_primaries ∙ powers_are.1)
      (trees_plain t.secondaries d.secondaries read.secondaries)
      (ap₂ (λ k m. evidence_in p t.names k m d.evidence) in_primaries (sym counted) ∙ evidence_read t.evidence d.evidence read.evidence)
      (trees_plain t.irreducibles d.irreducibles read.irreducibles)
      (ap (λ k. map (tree_in p [] k) d.words) in_primaries ∙ trees_read (worded_of t) (word_names r (length t.irreducibles)) p prime reads_worded t.words d.words read.words)

  -- the conditions on it
  abbrev EvidenceAt : List ℕ → List ℕ → ℕ → EvidenceOf ℕ → Type 0
  EvidenceAt ds es k (Averages ys) = IsSome ys × All (IsImageIn (plain_of t) (combination_space (field_at p) ds es) (plain_names t.names)) ys
  EvidenceAt ds es k (Members ys) = IsSome ys × All (IsMemberIn (marked_space (field_at p) n ds) (combination_space (field_at p) ds es) (marked_names t.names k)) ys

  evidence_at : (x : EvidenceTree) (e : EvidenceOf ℕ) → IsEvidenceTree x → IsEvidence t x e → EvidenceAt (degrees_of t t.primaries) (degrees_of t t.secondaries) r e
  evidence_at (Images xs) (Averages ys) is h = (some_read ys xs (read_length _ _ ys xs h.1) is.0, h.0)
  evidence_at (Images xs) (Members ys) is h = absurd h
  evidence_at (Kernel xs) (Averages ys) is h = absurd h
  evidence_at (Kernel xs) (Members ys) is h = (some_read ys xs (read_length _ _ ys xs h.1) is.0, h.0)

  evidence_is : (e : EvidenceOf ℕ) → EvidenceAt (degrees c) (secondary_degrees c) (length d.primaries) e → AreEvidence c e
  evidence_is (Averages ys) h =
      (h.0, All-weaker (IsImageIn (plain c) (combined c) (plain_names t.names)) (IsImage c) (λ y i. record { place = i.place; monomial = i.monomial; combination = i.combination }) ys h.1)
  evidence_is (Members ys) h =
      (h.0, All-weaker (IsMemberIn (marked c) (combined c) (marked_names t.names (length d.primaries))) (IsMember c) (λ y i. record { polynomial = i.polynomial; combination = i.combination }) ys h.1)

  -- what holds at the degrees and the number that the text tells
  at_degrees : (P : List ℕ → ℕ → Type 0) → P (degrees_of t t.primaries) r → P (degrees c) (length d.primaries)
  at_degrees P h = subst (λ k. P (degrees c) k) (sym in_primaries) (subst (λ ds. P ds r) primary_degrees h)

  conditions : IsCertificate c
  conditions =
      let secondary : degrees_of t t.secondaries ≡ secondary_degrees c = degrees_read t.secondaries d.secondaries read.secondaries in
      let irreducible : degrees_of t t.irreducibles ≡ irreducible_degrees c = degrees_read t.irreducibles d.irreducibles read.irreducibles in
      let powers : All (IsPowerIn (marked c) (marked_names t.names (length d.primaries))) d.powers =
      at_degrees (λ ds k. All (IsPowerIn (marked_space (field_at p) n ds) (marked_names t.names k)) d.powers) read.powers.0 in
      let words : All (IsPolynomialIn (word_space (field_at p) (degrees c ++ degrees_of t t.irreducibles)) (word_names (length d.primaries) (length t.irreducibles))) d.words =
      at_degrees (λ ds k. All (IsPolynomialIn (word_space (field_at p) (ds ++ degrees_of t t.irreducibles)) (word_names k (length t.irreducibles))) d.words) read.words.0 in
      let evidence : EvidenceAt (degrees c) (degrees_of t t.secondaries) (length d.primaries) d.evidence = at_degrees (λ ds k. EvidenceAt ds (degrees_of t t.secondaries) k d.evidence) (evidence_at t.evidence d.evidence are.evidence read.evidence) in
      record {
        listed = listed;
        variables = (are.names.0, few);
        names = are.names.1;
        distinct = distinct;
        matrices = (some_read d.matrices t.matrices (read_length _ _ d.matrices t.matrices read.matrices.1) are.matrices.0, read.matrices.0);
        order = are.order;
        primaries = (some_read d.primaries t.primaries in_primaries are.primaries.0, read.primaries.0);
        lifts = (some_read d.lifts t.lifts (read_length _ _ d.lifts t.lifts read.lifts.1) are.lifts.0, at_degrees (λ ds k. All (IsPolynomialIn (marked_space (field_at p) n ds) (marked_names t.names k)) d.lifts) read.lifts.0);
        powers = All-weaker (IsPowerIn (marked c) (marked_names t.names (length d.primaries))) (IsPower c) (λ x i. record { exponent = i.exponent; form = i.form }) d.powers powers;
        power_each = powers_are.0;
        rank = are.rank;
        secondaries = (some_read d.secondaries t.secondaries in_secondaries are.secondaries.0, read.secondaries.0);
        evidence = evidence_is d.evidence (subst (λ es. EvidenceAt (degrees c) es (length d.primaries) d.evidence) secondary evidence);
        irreducibles = read.irreducibles.0;
        words = subst (λ k. All (IsPolynomialIn (worded c) (word_names (length d.primaries) k)) d.words) (sym in_irreducibles)
            (subst (λ es. All (IsPolynomialIn (word_space (field_at p) (degrees c ++ es)) (word_names (length d.primaries) (length t.irreducibles))) d.words) irreducible words);
        word_each = words_are;
      }

-- the certificate of what is read
abbrev pub certificate_of : Heading → Module → Generators → CertificateOf ℕ
certificate_of h m g = record {
  characteristic = h.characteristic;
  names = h.names.items;
  matrices = map matrix_of h.matrices.items;
  order = h.order;
  primaries = m.primaries.items;
  lifts = m.lifts.items;
  powers = m.powers.items;
  rank = m.rank;
  secondaries = g.secondaries.items;
  evidence = evidence_of g.evidence;
  irreducibles = g.irreducibles.items;
  words = g.words.items;
}

module _ (t : TextParts) (h : Heading) (m : Module) (g : Generators) where
  matrices_read : (xs : List (Matrix ℕ)) → AreReadBy (λ (x : Matrix ℕ). IsSquare t.characteristic (length t.names) (matrix_of x)) (λ x. matrix_cells t.characteristic (matrix_of x)) (λ x. x) t.matrices xs
      → AreReadBy (IsSquare t.characteristic (length t.names)) (matrix_cells t.characteristic) (λ x. x) t.matrices (map matrix_of xs)
  matrices_read xs read = (All-map (IsSquare t.characteristic (length t.names)) matrix_of xs read.0, map-map (matrix_cells t.characteristic) matrix_of xs ∙ read.1)

  pub certificate_made : AreParts t → IsReady h → IsHeading t h → IsModule t m → AreGenerators t g → module_faults t ≡ None → generator_faults t ≡ None → IsCertificate (certificate_of h m g) × (parts_of (certificate_of h m g) ≡ t)
  certificate_made are ready heading second third no_module_fault no_generator_fault =
      let d = certificate_of h m g in
      let read : AreRead t d = record {
        matrices = matrices_read h.matrices.items heading.matrices;
        primaries = second.primaries;
        lifts = second.lifts;
        powers = second.powers;
        secondaries = third.secondaries;
        evidence = third.evidence;
        irreducibles = third.irreducibles;
        words = third.words;
      } in
      let few : length t.names ≤ 8 = subst (λ ns. length ns ≤ 8) heading.names ready.few in
      let distinct : AllPairs (λ v w. v ≢ w) t.names = subst (λ ns. AllPairs (λ v w. v ≢ w) ns) heading.names ready.distinct in
      let same : record d { characteristic = t.characteristic; names = t.names; order = t.order; rank = t.rank } ≡ d =
      ap (λ x. record d { characteristic = x; names = t.names; order = t.order; rank = t.rank }) (sym heading.characteristic)
      ∙ ap (λ x. record d { names = x; order = t.order; rank = t.rank }) (sym heading.names)
      ∙ ap (λ x. record d { order = x; rank = t.rank }) (sym heading.order)
      ∙ ap (λ x. record d { rank = x }) (sym second.rank) in
      subst (λ c. IsCertificate c × (parts_of c ≡ t)) same
      (conditions t are heading.field.0 few distinct no_module_fault no_generator_fault d read, parts_same t are heading.field.0 few distinct no_module_fault no_generator_fault d read)
