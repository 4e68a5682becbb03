-- The parts that a certificate prints are those of a text, whose values have no fault.
use Rattle.std.proofs.Common.{◌≡◌, ◌∙◌, ℕ, ◌+◌, ◌≤◌, List, [], ◌∷◌, ◌++◌, Option, None, length, map, refl, sym, ap, ap₂, subst, arith}
use Rattle.std.specs.Prelude.{All, ◌==◌, nat_le}
use Rattle.std.specs.List.{zip}
use Rattle.std.specs.Option.{option_or}
use Rattle.std.proofs.lemmas.Bool.{eq-eqb, le-leb}
use Rattle.std.proofs.lemmas.List.{length-map}
use Rattle.std.proofs.lemmas.List.Elements.{All-head, All-tail, All-weaker}
use mathlib.Core.List.{map-map}
use Rattle.alg_core.specs.PolynomialSpaces.{marked_space}
use Rattle.alg_core.specs.Spaces.{SpaceOver}
use Rattle.alg_core.specs.Vectors.{Entry}
use Rattle.alg_core.specs.declared.term.Term.{Term as CodeTerm}
use Rattle.alg_core.specs.declared.value_kind.ValueKind.{ValueKind}
use Rattle.alg_core.specs.declared.value_kind.ValueKind.TheVariants as kinds
use Rattle.poly_module.specs.GreatestExponents.{total, greatest}
use Rattle.poly_text.specs.Values.{entry_of}
use Rattle.poly_text.specs.declared.names.Names.{Names}
use Rattle.prime_field.specs.PrimeFields.{IsPrimeField}
use Rattle.prime_field.specs.ListedPrimes.{is_listed}
use Rattle.certificate_io.specs.Certificates.{EvidenceOf, Averages, Members, CertificateOf}
use Rattle.certificate_io.specs.Conditions.{degree_of, degrees, secondary_degrees, irreducible_degrees, plain, marked, combined, worded, size, IsPolynomialIn, IsSquare, IsPower, IsImage, IsMember, AreEvidence, IsCertificate}
use Rattle.certificate_io.specs.LineReadings.{power_kind, image_kind, member_kind, IsImageIn, IsMemberIn, IsPowerIn}
use Rattle.certificate_io.specs.PartFaults.{heading_seen, degrees_of, heading_end, heading_faults, module_end, module_faults, evidence_begin, evidence_end, words_begin, text_end, generator_faults}
use Rattle.certificate_io.specs.Parts.{EvidenceTree, Images, Kernel, AreParts, IsSomeOf, IsImageTree, IsMemberTree, IsEvidenceTree, cell_in, tree_in, power_in, image_in, member_in, evidence_in, lines_in, parts_of}
use Rattle.certificate_io.specs.Readings.{CanRead, on_line, run_fault, matrix_kind, poly_kind}
use Rattle.certificate_io.specs.Spaces.{field_at, combination_space, word_space, plain_names, marked_names, word_names}
use Rattle.certificate_io.specs.Syntax.{IsCell, IsText}
use Rattle.certificate_io.specs.Texts.{certificate_text}
use Rattle.certificate_io.specs.Values.{nothing_seen, first_fault, tree_degree}
use Rattle.certificate_io.specs.declared.evidence.Image.{Image}
use Rattle.certificate_io.specs.declared.evidence.Line.{Line}
use Rattle.certificate_io.proofs.CertificateTrees.{certificate_spelled}
use Rattle.certificate_io.proofs.ClassCells.{names_distinct}
use Rattle.certificate_io.proofs.LineLaws.{pairs}
use Rattle.certificate_io.proofs.PartsShaped.{parts_shaped}
use Rattle.certificate_io.proofs.PrintedSections.{some_map, checked_passes, matrix_is, matrix_passes, trees_are, trees_pass, powers_are, powers_pass, member_is, member_passes, image_is, image_passes}
use Rattle.certificate_io.proofs.PrintedTrees.{all_parts, run_passes, tree_entries}
use Rattle.certificate_io.proofs.TextFaults.{text_faults}
use Rattle.certificate_io.proofs.TextSpaces.{prime_at, listed_digits, can_plain, can_marked, can_worded}

module _ (c : CertificateOf ℕ) (is : IsCertificate c) where
  abbrev p : ℕ
  p = c.characteristic

  abbrev r : ℕ
  r = length c.primaries

  abbrev m : ℕ
  m = length c.secondaries

  abbrev pub prime : IsPrimeField c.characteristic (field_at c.characteristic)
  prime = prime_at c.characteristic is.listed

  abbrev pub names_plain : Names
  names_plain = plain_names c.names

  abbrev pub names_marked : Names
  names_marked = marked_names c.names (length c.primaries)

  abbrev pub names_worded : Names
  names_worded = word_names (length c.primaries) (length c.irreducibles)

  pub reads_plain : CanRead (plain c) names_plain
  reads_plain = can_plain (field_at p) c.names is.names is.distinct

  pub reads_marked : CanRead (marked c) names_marked
  reads_marked = subst (λ k. CanRead (marked c) (marked_names c.names k)) (length-map c.primaries degree_of) (can_marked (field_at p) c.names is.names is.distinct (degrees c))

  pub reads_worded : CanRead (worded c) names_worded
  reads_worded =
      subst (λ k. CanRead (worded c) (word_names k (length c.irreducibles))) (length-map c.primaries degree_of)
      (subst (λ k. CanRead (worded c) (word_names (length (degrees c)) k)) (length-map c.irreducibles degree_of) (can_worded (field_at p) (degrees c) (irreducible_degrees c)))

  -- the conditions of the sections
  pub powers_in : All (IsPowerIn (marked c) names_marked) c.powers
  powers_in = All-weaker (IsPower c) (IsPowerIn (marked c) names_marked) (λ x h. record { exponent = h.exponent; form = h.form }) c.powers is.powers

  pub images_in : (xs : List (Image ℕ)) → All (IsImage c) xs → All (IsImageIn (plain c) (combined c) names_plain) xs
  images_in xs all = All-weaker (IsImage c) (IsImageIn (plain c) (combined c) names_plain) (λ x h. record { place = h.place; monomial = h.monomial; combination = h.combination }) xs all

  pub members_in : (xs : List (Line ℕ)) → All (IsMember c) xs → All (IsMemberIn (marked c) (combined c) names_marked) xs
  members_in xs all = All-weaker (IsMember c) (IsMemberIn (marked c) (combined c) names_marked) (λ x h. record { polynomial = h.polynomial; combination = h.combination }) xs all

  pub counted : length (secondary_degrees c) ≡ m
  counted = length-map c.secondaries degree_of

  evidence_is : (e : EvidenceOf ℕ) → AreEvidence c e → IsEvidenceTree (evidence_in p c.names r m e)
  evidence_is (Averages xs) h = (
    some_map (image_in p c.names m) xs h.0,
    subst (λ k. All IsImageTree (map (image_in p c.names k) xs)) counted
        (all_parts (image_in p c.names (length (secondary_degrees c))) (IsImageIn (plain c) (combined c) names_plain) IsImageTree (λ x i. image_is (plain c) (combined c) c.names p prime reads_plain prime x i) xs (images_in xs h.1)),
  )
  evidence_is (Members xs) h = (
    some_map (member_in p c.names r m) xs h.0,
    subst (λ k. All IsMemberTree (map (member_in p c.names r k) xs)) counted
        (all_parts (member_in p c.names r (length (secondary_degrees c))) (IsMemberIn (marked c) (combined c) names_marked) IsMemberTree (λ x i. member_is (marked c) names_marked p prime reads_marked (combined c) prime x i) xs (members_in xs h.1)),
  )

  pub parts_are : AreParts (parts_of c)
  unfolding parts_of
  parts_are =
      let some = is.variables.0 in
      let powers : length (zip c.names c.powers) ≡ size c = pairs c.names c.powers is.power_each ∙ is.power_each in
      record {
        characteristic = listed_digits p is.listed;
        names = (is.variables.0, is.names);
        matrices = (
          some_map (λ g. map (cell_in p) g.cells) c.matrices is.matrices.0,
          all_parts (λ g. map (cell_in p) g.cells) (IsSquare p (size c)) (IsSomeOf IsCell) (λ g square. matrix_is p (size c) is.listed some g square) c.matrices is.matrices.1,
        );
        order = is.order;
        primaries = (some_map (tree_in p c.names 0) c.primaries is.primaries.0, trees_are (plain c) names_plain p prime reads_plain c.primaries is.primaries.1);
        lifts = (some_map (tree_in p c.names r) c.lifts is.lifts.0, trees_are (marked c) names_marked p prime reads_marked c.lifts is.lifts.1);
        powers = (some_map (power_in p c.names r) (zip c.names c.powers) (subst (λ (k : ℕ). 1 ≤ k) (sym powers) some), powers_are (marked c) names_marked p prime reads_marked c.names c.powers is.names powers_in);
        rank = is.rank;
        secondaries = (some_map (tree_in p c.names 0) c.secondaries is.secondaries.0, trees_are (plain c) names_plain p prime reads_plain c.secondaries is.secondaries.1);
        evidence = evidence_is c.evidence is.evidence;
        irreducibles = trees_are (plain c) names_plain p prime reads_plain c.irreducibles is.irreducibles;
        words = (some_map (tree_in p [] r) c.words (subst (λ (k : ℕ). 1 ≤ k) (sym is.word_each) is.secondaries.0), trees_are (worded c) names_worded p prime reads_worded c.words is.words);
      }

  -- the lines that are printed spell the text
  pub printed_text : IsText (lines_in (parts_of c)) (certificate_text c)
  printed_text = record { shape = parts_shaped (parts_of c) parts_are; spelled = certificate_spelled c }

  -- the lines tell the degrees
  degree_told : (f : List (CodeTerm ℕ (List ℕ))) → IsPolynomialIn (plain c) names_plain f → tree_degree (heading_seen (parts_of c)) (tree_in p c.names 0 f) ≡ degree_of f
  unfolding parts_of
  degree_told f reads =
      let height : Entry ℕ → ℕ = λ e. total e.0.1 in
      ap greatest (sym (map-map height (entry_of None (plain c) names_plain) (tree_in p c.names 0 f)) ∙ ap (map height) (tree_entries (plain c) names_plain p prime reads_plain f reads))

  pub degrees_told : (fs : List (List (CodeTerm ℕ (List ℕ)))) → All (IsPolynomialIn (plain c) names_plain) fs → degrees_of (parts_of c) (map (tree_in p c.names 0) fs) ≡ map degree_of fs
  degrees_told [] all = refl
  degrees_told (f ∷ fs) all =
      ap₂ (λ d ds. d ∷ ds) (degree_told f (All-head (IsPolynomialIn (plain c) names_plain) f fs all)) (degrees_told fs (All-tail (IsPolynomialIn (plain c) names_plain) f fs all))

  -- no fault of the lines up to that of the order
  heading_passes : heading_faults (parts_of c) ≡ None
  unfolding parts_of
  heading_passes =
      ap₂ option_or (ap (on_line 2) (checked_passes kinds.Field (is_listed p) is.listed))
      (ap₂ option_or (ap (on_line 3) (ap₂ option_or (checked_passes kinds.Variables (nat_le (size c) 8) (le-leb (size c) 8 is.variables.1)) (checked_passes kinds.Twice _ (names_distinct c.names is.distinct))))
      (run_passes (λ _ cs. matrix_kind p (size c) cs) (λ g. map (cell_in p) g.cells) (IsSquare p (size c)) (λ k g square. matrix_passes p (size c) is.listed g square) 4 0 c.matrices is.matrices.1))

  -- nor of those up to that of the rank
  module_passes : module_faults (parts_of c) ≡ None
  unfolding parts_of
  module_passes =
      let t = parts_of c in
      let ds = degrees_of t (map (tree_in p c.names 0) c.primaries) in
      let told : ds ≡ degrees c = degrees_told c.primaries is.primaries.1 in
      let many : length (map (tree_in p c.names 0) c.primaries) ≡ r = length-map c.primaries (tree_in p c.names 0) in
      let powers : length (map (power_in p c.names r) (zip c.names c.powers)) ≡ size c = length-map (zip c.names c.powers) (power_in p c.names r) ∙ pairs c.names c.powers is.power_each ∙ is.power_each in
      let at_lifts = heading_end t + length t.primaries + 1 in
      let at_powers = heading_end t + length t.primaries + length t.lifts + 1 in
      let space : List ℕ → SpaceOver ℕ = λ ds. marked_space (field_at p) (size c) ds in
      ap₂ option_or (trees_pass (plain c) names_plain p prime reads_plain (heading_end t + 1) c.primaries is.primaries.1)
      (ap₂ option_or (ap₂ (λ ds k. run_fault (λ _ ts. poly_kind (space ds) (marked_names c.names k) ts) at_lifts 0 (map (tree_in p c.names r) c.lifts)) told many ∙ trees_pass (marked c) names_marked p prime reads_marked at_lifts c.lifts is.lifts.1)
      (ap₂ option_or (ap₂ (λ ds k. run_fault (power_kind (space ds) (marked_names c.names k)) at_powers 0 (map (power_in p c.names r) (zip c.names c.powers))) told many ∙ powers_pass (marked c) names_marked p prime reads_marked at_powers c.powers powers_in)
      (ap (on_line (module_end t)) (checked_passes kinds.Count (nat_le (size c) (length (map (power_in p c.names r) (zip c.names c.powers)))) (le-leb (size c) (length (map (power_in p c.names r) (zip c.names c.powers))) (omega (arith, powers)))))))

  -- the faults of the evidence over the spaces of these degrees
  abbrev faults_with : ℕ → List ℕ → List ℕ → ℕ → EvidenceTree → Option (ℕ × ValueKind)
  faults_with i ds es k (Images xs) = run_fault (λ _ x. image_kind (plain c) (combination_space (field_at p) ds es) names_plain x) i 0 xs
  faults_with i ds es k (Kernel xs) = run_fault (λ _ x. member_kind (marked_space (field_at p) (size c) ds) (combination_space (field_at p) ds es) (marked_names c.names k) x) i 0 xs

  evidence_passes : (i : ℕ) (ds es : List ℕ) (k : ℕ) → ds ≡ degrees c → es ≡ secondary_degrees c → k ≡ r → (e : EvidenceOf ℕ) → AreEvidence c e → faults_with i ds es k (evidence_in p c.names r m e) ≡ None
  evidence_passes i ds es k at_ds at_es at_k (Averages xs) h =
      ap₂ (λ ds es. run_fault (λ _ x. image_kind (plain c) (combination_space (field_at p) ds es) names_plain x) i 0 (map (image_in p c.names m) xs)) at_ds at_es
      ∙ ap (λ j. run_fault (λ _ x. image_kind (plain c) (combined c) names_plain x) i 0 (map (image_in p c.names j) xs)) (sym counted)
      ∙ run_passes (λ _ x. image_kind (plain c) (combined c) names_plain x) (image_in p c.names (length (secondary_degrees c))) (IsImageIn (plain c) (combined c) names_plain)
      (λ k x i. image_passes (plain c) (combined c) c.names p prime reads_plain prime x i) i 0 xs (images_in xs h.1)
  evidence_passes i ds es k at_ds at_es at_k (Members xs) h =
      ap₂ (λ ds es. run_fault (λ _ x. member_kind (marked_space (field_at p) (size c) ds) (combination_space (field_at p) ds es) (marked_names c.names k) x) i 0 (map (member_in p c.names r m) xs)) at_ds at_es
      ∙ ap₂ (λ k j. run_fault (λ _ x. member_kind (marked c) (combined c) (marked_names c.names k) x) i 0 (map (member_in p c.names r j) xs)) at_k (sym counted)
      ∙ run_passes (λ _ x. member_kind (marked c) (combined c) names_marked x) (member_in p c.names r (length (secondary_degrees c))) (IsMemberIn (marked c) (combined c) names_marked)
      (λ k x i. member_passes (marked c) names_marked p prime reads_marked (combined c) prime x i) i 0 xs (members_in xs h.1)

  -- nor of the others
  generators_pass : generator_faults (parts_of c) ≡ None
  unfolding parts_of
  generators_pass =
      let t = parts_of c in
      let ds_told : degrees_of t (map (tree_in p c.names 0) c.primaries) ≡ degrees c = degrees_told c.primaries is.primaries.1 in
      let es_told : degrees_of t (map (tree_in p c.names 0) c.secondaries) ≡ secondary_degrees c = degrees_told c.secondaries is.secondaries.1 in
      let is_told : degrees_of t (map (tree_in p c.names 0) c.irreducibles) ≡ irreducible_degrees c = degrees_told c.irreducibles is.irreducibles in
      let in_primaries : length (map (tree_in p c.names 0) c.primaries) ≡ r = length-map c.primaries (tree_in p c.names 0) in
      let in_secondaries : length (map (tree_in p c.names 0) c.secondaries) ≡ m = length-map c.secondaries (tree_in p c.names 0) in
      let in_irreducibles : length (map (tree_in p c.names 0) c.irreducibles) ≡ length c.irreducibles = length-map c.irreducibles (tree_in p c.names 0) in
      let in_words : length (map (tree_in p [] r) c.words) ≡ m = length-map c.words (tree_in p [] r) ∙ is.word_each in
      let at_words = words_begin t + 1 in
      let words : run_fault (λ _ ts. poly_kind (word_space (field_at p) (degrees_of t t.primaries ++ degrees_of t t.irreducibles)) (word_names (length t.primaries) (length t.irreducibles)) ts) at_words 0 (map (tree_in p [] r) c.words) ≡ None =
      ap₂ (λ ds es. run_fault (λ _ ts. poly_kind (word_space (field_at p) (ds ++ es)) (word_names (length t.primaries) (length t.irreducibles)) ts) at_words 0 (map (tree_in p [] r) c.words)) ds_told is_told
      ∙ ap₂ (λ a b. run_fault (λ _ ts. poly_kind (worded c) (word_names a b) ts) at_words 0 (map (tree_in p [] r) c.words)) in_primaries in_irreducibles
      ∙ trees_pass (worded c) names_worded p prime reads_worded at_words c.words is.words in
      ap₂ option_or (trees_pass (plain c) names_plain p prime reads_plain (module_end t + 1) c.secondaries is.secondaries.1)
      (ap₂ option_or (evidence_passes (evidence_begin t + 1) (degrees_of t t.primaries) (degrees_of t t.secondaries) (length t.primaries) ds_told es_told in_primaries c.evidence is.evidence)
      (ap₂ option_or (trees_pass (plain c) names_plain p prime reads_plain (evidence_end t + 1) c.irreducibles is.irreducibles)
      (ap₂ option_or words (ap (on_line (text_end t)) (checked_passes kinds.Count (length t.words == length t.secondaries) (eq-eqb (length t.words) (length t.secondaries) (in_words ∙ sym in_secondaries)))))))

  -- no condition on the values fails
  pub printed_passes : first_fault 1 nothing_seen (lines_in (parts_of c)) ≡ None
  printed_passes = text_faults (parts_of c) ∙ ap₂ option_or heading_passes (ap₂ option_or module_passes generators_pass)
