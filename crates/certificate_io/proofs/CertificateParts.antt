-- The parts that a certificate prints tell the certificate.
use Rattle.std.proofs.Common.{◌≡◌, ◌∙◌, ℕ, ◌<◌, true, List, [], ◌∷◌, ◌++◌, Option, Some, None, length, map, refl, sym, ap, ap₂, subst, arith}
use Rattle.std.specs.Prelude.{All, IfSome}
use Rattle.std.specs.List.{zip}
use Rattle.std.specs.Option.{option_map}
use Rattle.std.proofs.lemmas.List.{length-map}
use Rattle.std.proofs.lemmas.List.Elements.{All-head, All-tail}
use Rattle.alg_core.specs.PolynomialSpaces.{marked_space}
use Rattle.alg_core.specs.Spaces.{SpaceOver}
use Rattle.alg_core.specs.declared.term.Term.{Term as CodeTerm}
use Rattle.finite_certificate.specs.declared.power.Power.{Power}
use Rattle.poly_module.specs.declared.vector.Comb.{Comb}
use Rattle.poly_text.specs.Syntax.{Term}
use Rattle.poly_text.specs.Texts.{count_of, place_count}
use Rattle.poly_text.specs.Values.{exponents_from}
use Rattle.poly_text.specs.declared.names.Names.{Names}
use Rattle.prime_field.specs.ListedPrimes.{is_listed}
use Rattle.prime_field.specs.PrimeFields.{IsPrimeField}
use Rattle.certificate_io.specs.Certificates.{MatrixOf, EvidenceOf, Averages, Members, CertificateOf}
use Rattle.certificate_io.specs.Conditions.{degrees, irreducible_degrees, plain, marked, combined, worded, size, AreEvidence, IsPolynomialIn, IsCombinationIn, IsSquare, IsCertificate}
use Rattle.certificate_io.specs.LineReadings.{IsImageIn, IsMemberIn, IsPowerIn}
use Rattle.certificate_io.specs.PartFaults.{degrees_of, plain_of, marked_of, worded_of}
use Rattle.certificate_io.specs.Parts.{TextParts, PowerTree, ImageTree, MemberTree, cell_in, tree_in, combination_in, power_in, image_in, member_in, evidence_in, lines_in, parts_of}
use Rattle.certificate_io.specs.Readings.{CanRead, class_of}
use Rattle.certificate_io.specs.Spaces.{field_at, word_space, plain_names, marked_names, word_names}
use Rattle.certificate_io.specs.Syntax.{IsText}
use Rattle.certificate_io.specs.Texts.{certificate_text}
use Rattle.certificate_io.specs.declared.evidence.Image.{Image}
use Rattle.certificate_io.specs.declared.evidence.Line.{Line}
use Rattle.certificate_io.proofs.ClassCells.{class_again}
use Rattle.certificate_io.proofs.LineTrees.{lines_are_one}
use Rattle.certificate_io.proofs.PartsOfLines.{parts_are_one}
use Rattle.certificate_io.proofs.PrintedParts.{prime, reads_plain, reads_marked, reads_worded, powers_in, images_in, members_in, counted, degrees_told, printed_text}
use Rattle.certificate_io.proofs.PrintedTrees.{told_back, polynomial_of, tree_back, mono_back, comb_one}

abbrev square : ℕ → List ℕ → MatrixOf ℕ
square n xs = record { rows = n; cols = n; cells = xs }

matrix_back : (p n : ℕ) → is_listed p ≡ true → (g : MatrixOf ℕ) → IsSquare p n g → square n (map (class_of p) (map (cell_in p) g.cells)) ≡ g
matrix_back p n listed g is =
    ap (square n) (told_back (cell_in p) (class_of p) (λ x. x < p) (λ x small. class_again p x listed small) g.cells is.classes)
    ∙ ap₂ (λ a b. record { rows = a; cols = b; cells = g.cells }) (sym is.rows) (sym is.cols)

-- lists of which the parts are the same
all_one : {X T : Type 0} (part : X → T) (P : X → Type 0) → ((x y : X) → P x → P y → part x ≡ part y → x ≡ y) → (xs ys : List X) → All P xs → All P ys → map part xs ≡ map part ys → xs ≡ ys
all_one part P one [] [] all each e = refl
all_one part P one [] (y ∷ ys) all each e = absurd cc
all_one part P one (x ∷ xs) [] all each e = absurd cc
all_one part P one (x ∷ xs) (y ∷ ys) all each e =
    let first : part x ≡ part y = cc in
    let rest : map part xs ≡ map part ys = cc in
    ap₂ (λ z zs. z ∷ zs) (one x y (All-head P x xs all) (All-head P y ys each) first) (all_one part P one xs ys (All-tail P x xs all) (All-tail P y ys each) rest)

abbrev power_of : SpaceOver ℕ → Names → PowerTree → Power ℕ
power_of S names x = record { exponent = x.exponent; form = polynomial_of S names x.form }

module _ (S : SpaceOver ℕ) (names : Names) (p : ℕ) (prime : IsPrimeField p S.field) (can : CanRead S names) where
  powers_back : (vs : List (List ℕ)) (xs : List (Power ℕ)) → length xs ≡ length vs → All (IsPowerIn S names) xs → map (power_of S names) (map (power_in p names.vars (count_of names.primaries)) (zip vs xs)) ≡ xs
  powers_back [] [] same all = refl
  powers_back [] (x ∷ xs) same all = absurd (omega (arith, same))
  powers_back (v ∷ vs) [] same all = absurd (omega (arith, same))
  powers_back (v ∷ vs) (x ∷ xs) same all =
      ap₂ (λ y ys. y ∷ ys) (ap (λ f. record { exponent = x.exponent; form = f }) (tree_back S names p prime can x.form (All-head (IsPowerIn S names) x xs all).form))
      (powers_back vs xs (omega (arith, same)) (All-tail (IsPowerIn S names) x xs all))

-- the evidence in its spaces: plain, marked, combined
abbrev AreIn : SpaceOver ℕ → SpaceOver ℕ → SpaceOver ℕ → List (List ℕ) → ℕ → EvidenceOf ℕ → Type 0
AreIn S M T ns r (Averages xs) = All (IsImageIn S T (plain_names ns)) xs
AreIn S M T ns r (Members xs) = All (IsMemberIn M T (marked_names ns r)) xs

module _ (S M T : SpaceOver ℕ) (ns : List (List ℕ)) (p r : ℕ) (in_plain : IsPrimeField p S.field) (in_marked : IsPrimeField p M.field) (in_combined : IsPrimeField p T.field)
    (can_plain : CanRead S (plain_names ns)) (can_marked : CanRead M (marked_names ns r)) where
  abbrev count : ℕ
  count = length T.shifts

  image_one : (x y : Image ℕ) → IsImageIn S T (plain_names ns) x → IsImageIn S T (plain_names ns) y → image_in p ns count x ≡ image_in p ns count y → x ≡ y
  image_one x y is has e =
      let names = plain_names ns in
      let monos : x.mono ≡ y.mono = sym (mono_back S names p in_plain can_plain x.mono is.place is.monomial) ∙ ap (λ (z : ImageTree). exponents_from names (place_count names) 0 z.monomial) e ∙ mono_back S names p in_plain can_plain y.mono has.place has.monomial in
      let combs : x.comb ≡ y.comb = comb_one T p in_combined x.comb y.comb is.combination has.combination (ap (λ (z : ImageTree). z.combination) e) in
      ap₂ (λ a b. record { mono = a; comb = b }) monos combs

  comb_of : (a b : Option (Comb ℕ)) → IfSome a (λ c. IsCombinationIn T c.vector) → IfSome b (λ c. IsCombinationIn T c.vector) → option_map (combination_in p count) a ≡ option_map (combination_in p count) b → a ≡ b
  comb_of None None is has e = refl
  comb_of None (Some d) is has e = absurd cc
  comb_of (Some c) None is has e = absurd cc
  comb_of (Some c) (Some d) is has e = let same : combination_in p count c ≡ combination_in p count d = cc in ap Some (comb_one T p in_combined c d is has same)

  member_one : (x y : Line ℕ) → IsMemberIn M T (marked_names ns r) x → IsMemberIn M T (marked_names ns r) y → member_in p ns r count x ≡ member_in p ns r count y → x ≡ y
  member_one x y is has e =
      let names = marked_names ns r in
      let us : x.u ≡ y.u = sym (tree_back M names p in_marked can_marked x.u is.polynomial) ∙ ap (λ (z : MemberTree). polynomial_of M names z.polynomial) e ∙ tree_back M names p in_marked can_marked y.u has.polynomial in
      let combs : x.comb ≡ y.comb = comb_of x.comb y.comb is.combination has.combination (ap (λ (z : MemberTree). z.combination) e) in
      ap₂ (λ a b. record { u = a; comb = b }) us combs

  evidence_one : (e f : EvidenceOf ℕ) → AreIn S M T ns r e → AreIn S M T ns r f → evidence_in p ns r count e ≡ evidence_in p ns r count f → e ≡ f
  evidence_one (Averages xs) (Averages ys) is has e =
      let same : map (image_in p ns count) xs ≡ map (image_in p ns count) ys = cc in
      ap Averages (all_one (image_in p ns count) (IsImageIn S T (plain_names ns)) image_one xs ys is has same)
  evidence_one (Averages xs) (Members ys) is has e = absurd cc
  evidence_one (Members xs) (Averages ys) is has e = absurd cc
  evidence_one (Members xs) (Members ys) is has e =
      let same : map (member_in p ns r count) xs ≡ map (member_in p ns r count) ys = cc in
      ap Members (all_one (member_in p ns r count) (IsMemberIn M T (marked_names ns r)) member_one xs ys is has same)

-- the certificate of parts, but for its evidence
abbrev certificate_in : TextParts → EvidenceOf ℕ → CertificateOf ℕ
certificate_in t e =
    let r = length t.primaries in
    record {
      characteristic = t.characteristic;
      names = t.names;
      matrices = map (λ cs. square (length t.names) (map (class_of t.characteristic) cs)) t.matrices;
      order = t.order;
      primaries = map (polynomial_of (plain_of t) (plain_names t.names)) t.primaries;
      lifts = map (polynomial_of (marked_of t) (marked_names t.names r)) t.lifts;
      powers = map (power_of (marked_of t) (marked_names t.names r)) t.powers;
      rank = t.rank;
      secondaries = map (polynomial_of (plain_of t) (plain_names t.names)) t.secondaries;
      evidence = e;
      irreducibles = map (polynomial_of (plain_of t) (plain_names t.names)) t.irreducibles;
      words = map (polynomial_of (worded_of t) (word_names r (length t.irreducibles))) t.words;
    }

-- certificates of which each list is the same
same_lists : (c : CertificateOf ℕ) (ms : List (MatrixOf ℕ)) (ps ls ss is ds : List (List (CodeTerm ℕ (List ℕ)))) (ws : List (Power ℕ))
    → ms ≡ c.matrices → ps ≡ c.primaries → ls ≡ c.lifts → ws ≡ c.powers → ss ≡ c.secondaries → is ≡ c.irreducibles → ds ≡ c.words
    → record c { matrices = ms; primaries = ps; lifts = ls; powers = ws; secondaries = ss; irreducibles = is; words = ds } ≡ c
same_lists c ms ps ls ss is ds ws matrices primaries lifts powers secondaries irreducibles words =
    ap (λ x. record c { matrices = x; primaries = ps; lifts = ls; powers = ws; secondaries = ss; irreducibles = is; words = ds }) matrices
    ∙ ap (λ x. record c { primaries = x; lifts = ls; powers = ws; secondaries = ss; irreducibles = is; words = ds }) primaries
    ∙ ap (λ x. record c { lifts = x; powers = ws; secondaries = ss; irreducibles = is; words = ds }) lifts
    ∙ ap (λ x. record c { powers = x; secondaries = ss; irreducibles = is; words = ds }) powers
    ∙ ap (λ x. record c { secondaries = x; irreducibles = is; words = ds }) secondaries
    ∙ ap (λ x. record c { irreducibles = x; words = ds }) irreducibles
    ∙ ap (λ x. record c { words = x }) words

module _ (c : CertificateOf ℕ) (is : IsCertificate c) where
  abbrev p : ℕ
  p = c.characteristic

  abbrev r : ℕ
  r = length c.primaries

  abbrev trees : List (List (CodeTerm ℕ (List ℕ))) → List (List Term)
  trees fs = map (tree_in c.characteristic c.names 0) fs

  plains_back : (fs : List (List (CodeTerm ℕ (List ℕ)))) → All (IsPolynomialIn (plain c) (plain_names c.names)) fs → map (polynomial_of (plain c) (plain_names c.names)) (trees fs) ≡ fs
  plains_back fs all = told_back (tree_in p c.names 0) (polynomial_of (plain c) (plain_names c.names)) (IsPolynomialIn (plain c) (plain_names c.names)) (tree_back (plain c) (plain_names c.names) p (prime c is) (reads_plain c is)) fs all

  -- its parts give it back, with any evidence
  certificate_back : (e : EvidenceOf ℕ) → certificate_in (parts_of c) e ≡ record c { evidence = e }
  unfolding parts_of
  certificate_back e =
      let t = parts_of c in
      let space : List ℕ → SpaceOver ℕ = λ ds. marked_space (field_at p) (size c) ds in
      let ds_told : degrees_of t (trees c.primaries) ≡ degrees c = degrees_told c is c.primaries is.primaries.1 in
      let is_told : degrees_of t (trees c.irreducibles) ≡ irreducible_degrees c = degrees_told c is c.irreducibles is.irreducibles in
      let in_primaries : length (trees c.primaries) ≡ r = length-map c.primaries (tree_in p c.names 0) in
      let in_irreducibles : length (trees c.irreducibles) ≡ length c.irreducibles = length-map c.irreducibles (tree_in p c.names 0) in
      let names = marked_names c.names r in
      let named = word_names r (length c.irreducibles) in
      let matrices : map (λ cs. square (size c) (map (class_of p) cs)) (map (λ g. map (cell_in p) g.cells) c.matrices) ≡ c.matrices =
      told_back (λ (g : MatrixOf ℕ). map (cell_in p) g.cells) (λ cs. square (size c) (map (class_of p) cs)) (IsSquare p (size c)) (λ g square. matrix_back p (size c) is.listed g square) c.matrices is.matrices.1 in
      let lifts : map (polynomial_of (space (degrees_of t (trees c.primaries))) (marked_names c.names (length (trees c.primaries)))) (map (tree_in p c.names r) c.lifts) ≡ c.lifts =
      ap₂ (λ ds k. map (polynomial_of (space ds) (marked_names c.names k)) (map (tree_in p c.names r) c.lifts)) ds_told in_primaries
      ∙ told_back (tree_in p c.names r) (polynomial_of (marked c) names) (IsPolynomialIn (marked c) names) (tree_back (marked c) names p (prime c is) (reads_marked c is)) c.lifts is.lifts.1 in
      let powers : map (power_of (space (degrees_of t (trees c.primaries))) (marked_names c.names (length (trees c.primaries)))) (map (power_in p c.names r) (zip c.names c.powers)) ≡ c.powers =
      ap₂ (λ ds k. map (power_of (space ds) (marked_names c.names k)) (map (power_in p c.names r) (zip c.names c.powers))) ds_told in_primaries
      ∙ powers_back (marked c) names p (prime c is) (reads_marked c is) c.names c.powers is.power_each (powers_in c is) in
      let words : map (polynomial_of (word_space (field_at p) (degrees_of t (trees c.primaries) ++ degrees_of t (trees c.irreducibles))) (word_names (length (trees c.primaries)) (length (trees c.irreducibles)))) (map (tree_in p [] r) c.words) ≡ c.words =
      ap₂ (λ ds es. map (polynomial_of (word_space (field_at p) (ds ++ es)) (word_names (length (trees c.primaries)) (length (trees c.irreducibles)))) (map (tree_in p [] r) c.words)) ds_told is_told
      ∙ ap₂ (λ a b. map (polynomial_of (worded c) (word_names a b)) (map (tree_in p [] r) c.words)) in_primaries in_irreducibles
      ∙ told_back (tree_in p [] r) (polynomial_of (worded c) named) (IsPolynomialIn (worded c) named) (tree_back (worded c) named p (prime c is) (reads_worded c is)) c.words is.words in
      same_lists (record c { evidence = e }) _ _ _ _ _ _ _ matrices (plains_back c.primaries is.primaries.1) lifts powers (plains_back c.secondaries is.secondaries.1) (plains_back c.irreducibles is.irreducibles) words

  evidence_in_spaces : (e : EvidenceOf ℕ) → AreEvidence c e → AreIn (plain c) (marked c) (combined c) c.names r e
  evidence_in_spaces (Averages xs) h = images_in c is xs h.1
  evidence_in_spaces (Members xs) h = members_in c is xs h.1

same_evidence : (c d : CertificateOf ℕ) → parts_of c ≡ parts_of d
    → evidence_in c.characteristic c.names (length c.primaries) (length c.secondaries) c.evidence ≡ evidence_in d.characteristic d.names (length d.primaries) (length d.secondaries) d.evidence
unfolding parts_of
same_evidence c d q = ap (λ (t : TextParts). t.evidence) q

-- certificates with the same parts are the same
parts_one : (c d : CertificateOf ℕ) → IsCertificate c → IsCertificate d → parts_of c ≡ parts_of d → c ≡ d
parts_one c d is has q =
    let e = c.evidence in
    let but_evidence : record d { evidence = e } ≡ c = sym (certificate_back d has e) ∙ ap (λ t. certificate_in t e) (sym q) ∙ certificate_back c is e in
    let f = d.evidence in
    let theirs : AreIn (plain c) (marked c) (combined c) c.names (length c.primaries) f =
    subst (λ (z : CertificateOf ℕ). AreIn (plain z) (marked z) (combined z) z.names (length z.primaries) f) but_evidence (evidence_in_spaces d has f has.evidence) in
    let trees : evidence_in c.characteristic c.names (length c.primaries) (length c.secondaries) e ≡ evidence_in c.characteristic c.names (length c.primaries) (length c.secondaries) f =
    same_evidence c d q ∙ ap (λ (z : CertificateOf ℕ). evidence_in z.characteristic z.names (length z.primaries) (length z.secondaries) f) but_evidence in
    let same : e ≡ f =
    evidence_one (plain c) (marked c) (combined c) c.names c.characteristic (length c.primaries) (prime c is) (prime c is) (prime c is) (reads_plain c is) (reads_marked c is) e f (evidence_in_spaces c is e is.evidence) theirs
    (subst (λ (k : ℕ). evidence_in c.characteristic c.names (length c.primaries) k e ≡ evidence_in c.characteristic c.names (length c.primaries) k f) (sym (counted c is)) trees) in
    sym but_evidence ∙ ap (λ x. record d { evidence = x }) same

-- certificates with one text are the same
pub certificates_are_one : (c d : CertificateOf ℕ) → IsCertificate c → IsCertificate d → certificate_text c ≡ certificate_text d → c ≡ d
certificates_are_one c d is has e =
    let lines = lines_are_one (certificate_text c) (lines_in (parts_of c)) (lines_in (parts_of d)) (printed_text c is) (subst (IsText (lines_in (parts_of d))) (sym e) (printed_text d has)) in
    parts_one c d is has (parts_are_one (parts_of c) (parts_of d) lines)
