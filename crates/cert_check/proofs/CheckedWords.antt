-- The condition on words at a step of a check: generators that are no secondary invariants, and words of other values.
use Rattle.std.proofs.Common.{◌≡◌, ◌∙◌, ◌⊎◌, ℕ, ◌+◌, ◌^◌, ◌<◌, ◌≤◌, Fits, w64, List, [], ◌∷◌, ◌++◌, length, map, inl, inr, refl, sym, ap, ap₂, subst, lit≤, arith}
use Rattle.std.specs.Prelude.{All, Option, Some, None}
use Rattle.std.proofs.lemmas.Bool.{cases_lt}
use Rattle.std.proofs.lemmas.List.{length-map, length-append, map-append}
use Rattle.std.proofs.lemmas.List.Elements.{All-append, All-head, All-tail, All-weaker}
use Rattle.alg_core.specs.Fields.{FieldOn}
use Rattle.alg_core.specs.Lists.{In, map_in}
use Rattle.alg_core.specs.SpaceGrading.{AllPositive}
use Rattle.alg_core.specs.Spaces.{SpaceOver, entries}
use Rattle.alg_core.specs.Vectors.{Vect}
use Rattle.alg_core.proofs.MonomialCounts.{positive_ones}
use Rattle.alg_core.specs.declared.limits.Limits.{Limits}
use Rattle.alg_core.specs.declared.term.Term.{Term}
use Rattle.poly_module.specs.Sizes.{HasRoomIn}
use Rattle.poly_module.specs.SpaceVectors.{IsPoly, ArePolys, HasVariables, IsVector, IsUpTo, vector_of, vectors_of}
use Rattle.poly_module.specs.Substitutions.{substitute}
use Rattle.poly_module.proofs.Room.{low, room_in}
use Rattle.lin_algebra.specs.declared.matrix.Matrix.{Matrix}
use Rattle.module_groebner.proofs.Families.{all_in}
use Rattle.finite_certificate.proofs.PowerTests.{form_variables}
use Rattle.secondary_gens.specs.Forms.{degree_of, degrees_of, IsSmallForm, IsPositiveForm}
use Rattle.irreducible_gens.specs.Irreducibles.{IsOfPositiveDegree}
use Rattle.certificate_io.specs.Certificates.{CertificateOf}
use Rattle.cert_check.specs.Conditions.{IsNonzeroForm, Primaries, Secondaries, Words, Reducibility, K2, K7}
use Rattle.cert_check.specs.Endings.{IsGiven, IsFirstFailing, IsTold}
use Rattle.cert_check.specs.Parts.{At, size, ones, degrees, irreducible_degrees, polynomial, primaries, secondaries, irreducibles, words}
use Rattle.cert_check.specs.SmallPolynomials.{most_degree, IsSmallPoly}
use Rattle.cert_check.specs.WellFormed.{plain, worded}
use Rattle.cert_check.specs.Work.{Reached}
use Rattle.cert_check.specs.declared.ending.Ending.TheVariants.{Rejected}
use Rattle.cert_check.proofs.CheckedForms.{secondary_forms}
use Rattle.cert_check.proofs.CheckedPrimaries.{positive_forms}
use Rattle.cert_check.proofs.CheckedLast.{rejected}
use Rattle.cert_check.proofs.GivenParts.{given_well, given_primaries, given_irreducibles, given_words}
use Rattle.cert_check.proofs.HoldsParts.{all_at}
use Rattle.cert_check.proofs.Items.{at_back, at_past, in_back}
use Rattle.cert_check.proofs.MadeForms.{degree_known}
use Rattle.cert_check.proofs.MadeLists.{one_terms, term_of, terms_back}
use Rattle.cert_check.proofs.MadePlaces.{place_in, place_map}
use Rattle.cert_check.proofs.WordItems.{Item, HasValue}
use Rattle.cert_check.proofs.WorkSteps.{plain_fails, words_passed}

abbrev Terms : Type 0
Terms = List (Term ℕ (List ℕ))

lists_back : (ps : List Terms) → map (map term_of) (map (entries (λ m. m)) ps) ≡ ps
lists_back [] = refl
lists_back (p ∷ ps) = ap₂ ◌∷◌ (terms_back p) (lists_back ps)

-- copies are the same
pub same_copies : (ps qs : List Terms) → map (entries (λ m. m)) ps ≡ map (entries (λ m. m)) qs → ps ≡ qs
same_copies ps qs e = sym (lists_back ps) ∙ ap (map (map term_of)) e ∙ lists_back qs

-- degrees of both lists
positive_degrees : (ps qs : List Terms) → All (λ p. 0 < degree_of p) ps → All (λ p. 0 < degree_of p) qs → AllPositive (degrees_of ps ++ degrees_of qs)
positive_degrees [] [] h g = tt
positive_degrees [] (q ∷ qs) h g = (All-head (λ p. 0 < degree_of p) q qs g, positive_degrees [] qs h (All-tail (λ p. 0 < degree_of p) q qs g))
positive_degrees (p ∷ ps) qs h g = (All-head (λ p. 0 < degree_of p) p ps h, positive_degrees ps qs (All-tail (λ p. 0 < degree_of p) p ps h) g)

-- the first that fails has its place in the list
pub within_list : (P : ℕ → Type 0) (xs : List Terms) (i : ℕ) → (((x : Terms) → ¬ At xs i x) → P i) → ¬ P i → i ≤ length xs
within_list P xs i past fails = go (cases_lt (length xs) i)
  where
    go : (length xs < i) ⊎ (i ≤ length xs) → i ≤ length xs
    go (inl l) = absurd (fails (past (λ x. at_past xs (length xs) i x (omega arith) l)))
    go (inr l) = l

module _ (S : SpaceOver ℕ) (gens : List (Matrix ℕ)) (c : CertificateOf ℕ) (l : Limits) (given : IsGiven S gens c) (reached : Reached S.field gens c l (Words, 0)) where
  abbrev k : FieldOn ℕ
  k = S.field

  abbrev P : SpaceOver ℕ
  P = plain S.field c

  met-primaries : (j : ℕ) → K2 S.field gens c j
  met-primaries j = reached.met Primaries j (inl (omega arith))

  met-secondaries : (j : ℕ) → K7 S.field gens c j
  met-secondaries j = reached.met Secondaries j (inl (omega arith))

  pub are_forms : All (IsSmallForm S) c.secondaries
  are_forms = secondary_forms S gens c given met-secondaries

  pub are_polys : ArePolys S (λ m. m) c.irreducibles
  are_polys = All-weaker (IsSmallPoly S) (IsPoly S (λ m. m)) (λ v h. h.poly) c.irreducibles (given_irreducibles S gens c given)

  primary_polys : ArePolys S (λ m. m) c.primaries
  primary_polys = All-weaker (IsSmallPoly S) (IsPoly S (λ m. m)) (λ v h. h.poly) c.primaries (given_primaries S gens c given)

  pub secondary_polys : ArePolys S (λ m. m) c.secondaries
  secondary_polys = All-weaker (IsSmallForm S) (IsPoly S (λ m. m)) (λ v h. h.polynomial) c.secondaries are_forms

  -- a secondary invariant of positive degree
  abbrev pub IsGenerator : Terms → Type 0
  IsGenerator q = In q c.secondaries × (0 < degree_of q)

  abbrev pub IsGeneratorAt : ℕ → Type 0
  IsGeneratorAt = Item IsGenerator c.irreducibles

  known_degree : (q : Terms) → IsPoly S (λ m. m) q → (h : IsNonzeroForm k (ones c) (polynomial k q)) → degree_of q ≡ h.degree
  known_degree q poly h = degree_known k (size c) q h.degree (subst (λ T. IsPoly T (λ m. m) q) given.space.is poly) h.form h.not_zero

  generator_up : (i : ℕ) → IsGeneratorAt i → (q : Vect S.field) → At (irreducibles S.field c) i q → In q (secondaries S.field c) × IsOfPositiveDegree S.field (ones c) q
  generator_up i h q at =
      let r = at_back (polynomial k) c.irreducibles i q at in
      let is = h r.0 r.1 in
      let poly = all_in (IsPoly S (λ m. m)) c.secondaries secondary_polys r.0 is.0 in
      let form = all_in (λ f. IsNonzeroForm k (ones c) f) (secondaries k c) (all_at (IsNonzeroForm k (ones c)) (secondaries k c) (λ j f a. (met-secondaries j f a).0))
      (polynomial k r.0) (map_in (polynomial k) r.0 c.secondaries is.0) in
      let e = known_degree r.0 poly form in
      let up : In (polynomial k r.0) (secondaries k c) × IsOfPositiveDegree k (ones c) (polynomial k r.0) =
      (map_in (polynomial k) r.0 c.secondaries is.0, record { degree = form.degree; positive = subst (λ d. 0 < d) e is.1; form = form.form; not_zero = form.not_zero }) in
      subst (λ f. In f (secondaries k c) × IsOfPositiveDegree k (ones c) f) r.2 up

  generator_down : (i : ℕ) → ((q : Vect S.field) → At (irreducibles S.field c) i q → In q (secondaries S.field c) × IsOfPositiveDegree S.field (ones c) q) → IsGeneratorAt i
  generator_down i h q at =
      let is = h (polynomial k q) (at.0, at.1, place_map (polynomial k) c.irreducibles at.0 q at.2) in
      let poly = all_in (IsPoly S (λ m. m)) c.irreducibles are_polys q (place_in c.irreducibles at.0 q at.2) in
      let r = in_back (polynomial k) c.secondaries (polynomial k q) is.0 in
      let same = one_terms S r.0 q (all_in (IsPoly S (λ m. m)) c.secondaries secondary_polys r.0 r.1).fits poly.fits r.2 in
      let e = known_degree q poly (record { not_zero = is.1.not_zero; degree = is.1.degree; form = is.1.form }) in
      (subst (λ p. In p c.secondaries) same r.1, subst (λ d. 0 < d) (sym e) is.1.positive)

  -- a generator that is none
  pub stranger_told : (i : ℕ) → IsFirstFailing IsGeneratorAt (Some i) → IsTold c l (Rejected 10 i)
  stranger_told i first =
      let within = within_list IsGeneratorAt c.irreducibles i (λ none x at. absurd (none x at)) first.1 in
      rejected S gens c l Words i given (plain_fails k gens c l Words i (λ e. omega (arith, e)) (λ e. omega (arith, e)) (λ e. omega (arith, e)) reached
      (λ j b. record { generator = generator_up j (first.0 j b); word = early j (omega (arith, within, b)) })
      (λ m. first.1 (generator_down i m.generator)))
    where
      early : (j : ℕ) → j < length c.irreducibles → (n : ℕ) (u s : Vect k) → j ≡ length (irreducibles k c) + n → At (words k c) n u → At (secondaries k c) n s
          → substitute k (primaries k c ++ irreducibles k c) u ≡ s
      early j b n u s e at by = let w = length-map c.irreducibles (polynomial k) in absurd (omega (arith, b, e, w))

  -- the words
  module _ (each : (i : ℕ) → IsGeneratorAt i) (images : List Terms) (are : images ≡ c.primaries ++ c.irreducibles) where
    pub image_polys : ArePolys S (λ m. m) images
    image_polys = subst (ArePolys S (λ m. m)) (sym are) (All-append (IsPoly S (λ m. m)) c.primaries c.irreducibles primary_polys are_polys)

    image_values : vectors_of S (λ m. m) images ≡ primaries S.field c ++ irreducibles S.field c
    image_values = ap (vectors_of S (λ m. m)) are ∙ map-append (vector_of S (λ m. m)) c.primaries c.irreducibles

    image_count : length images ≡ length (degrees c ++ irreducible_degrees c)
    image_count =
        let a = ap length are in
        let b = length-append c.primaries c.irreducibles in
        let d = length-append (degrees c) (irreducible_degrees c) in
        let e = length-map c.primaries degree_of in
        let f = length-map c.irreducibles degree_of in
        omega (arith, a, b, d, e, f)

    pub word_variables : All (HasVariables S.field (λ m. m) (length images)) c.words
    word_variables = All-weaker (IsSmallPoly (worded k c)) (HasVariables k (λ m. m) (length images))
        (λ p h. form_variables (worded k c) (length images) p image_count h.poly.fits) c.words (given_words S gens c given)

    positive : AllPositive (degrees c ++ irreducible_degrees c)
    positive = positive_degrees c.primaries c.irreducibles
        (All-weaker (IsPositiveForm S) (λ p. 0 < degree_of p) (λ p h. h.positive) c.primaries (positive_forms S gens c given met-primaries))
        (all_at (λ p. 0 < degree_of p) c.irreducibles (λ i q at. (each i q at).1))

    small-images : All (IsSmallPoly S) images
    small-images = subst (All (IsSmallPoly S)) (sym are)
        (All-append (IsSmallPoly S) c.primaries c.irreducibles (given_primaries S gens c given) (given_irreducibles S gens c given))

    plain-positive : AllPositive S.weights
    plain-positive = subst (λ T. AllPositive T.weights) (sym given.space.is) (positive_ones (size c))

    pub word_room : All (λ w. HasRoomIn 4294967295 (λ m. m) w images) c.words
    word_room = All-weaker (IsSmallPoly (worded k c)) (λ w. HasRoomIn 4294967295 (λ m. m) w images)
        (λ w h. room_in S plain-positive (λ m. m) 4294967295 most_degree most_degree w images (lit≤ tt)
        (low (worded k c) positive (λ m. m) most_degree most_degree w (omega arith) h.poly.fits h.up_to)
        (All-weaker (IsSmallPoly S) (IsVector S (λ m. m)) (λ v g. g.poly.fits) images small-images)
        (All-weaker (IsSmallPoly S) (λ v. IsUpTo S most_degree (vector_of S (λ m. m) v)) (λ v g. g.up_to) images small-images)) c.words (given_words S gens c given)

    pub word_each : length c.words ≡ length c.secondaries
    word_each = (given_well S gens c given).word_each

    -- the value of word j, at the item after the generators
    abbrev IsWordAt : ℕ → Type 0
    IsWordAt i = (j : ℕ) (u s : Vect k) → i ≡ length (irreducibles k c) + j → At (words k c) j u → At (secondaries k c) j s → substitute k (primaries k c ++ irreducibles k c) u ≡ s

    abbrev pub IsValueAt : ℕ → Type 0
    IsValueAt = HasValue S c.words images c.secondaries

    word_up : (i : ℕ) → ((j : ℕ) → i ≡ length c.irreducibles + j → IsValueAt j) → IsWordAt i
    word_up i h j u s e at by =
        let a = at_back (polynomial k) c.words j u at in
        let b = at_back (polynomial k) c.secondaries j s by in
        let w = length-map c.irreducibles (polynomial k) in
        sym (ap₂ (substitute k) image_values a.2) ∙ h j (omega (arith, e, w)) a.0 b.0 a.1 b.1 ∙ b.2

    word_down : (j : ℕ) → IsWordAt (length c.irreducibles + j) → IsValueAt j
    word_down j h u s at by =
        let w = length-map c.irreducibles (polynomial k) in
        ap (λ vs. substitute k vs (polynomial k u)) image_values
        ∙ h j (polynomial k u) (polynomial k s) (omega (arith, w)) (at.0, at.1, place_map (polynomial k) c.words at.0 u at.2) (by.0, by.1, place_map (polynomial k) c.secondaries by.0 s by.2)

    -- a word of another value
    pub wrong_told : (j : ℕ) → IsFirstFailing IsValueAt (Some j) → IsTold c l (Rejected 10 (length c.irreducibles + j))
    wrong_told j first = rejected S gens c l Words (length c.irreducibles + j) given
        (plain_fails k gens c l Words (length c.irreducibles + j) (λ e. omega (arith, e)) (λ e. omega (arith, e)) (λ e. omega (arith, e)) reached
        (λ i b. record { generator = generator_up i (each i); word = word_up i (λ n e. first.0 n (omega (arith, b, e))) })
        (λ m. first.1 (word_down j m.word)))

    pub words_hold : ((j : ℕ) → IsValueAt j) → Reached S.field gens c l (Reducibility, 0)
    words_hold h = words_passed k gens c l reached (λ i. record { generator = generator_up i (each i); word = word_up i (λ n e. h n) })

    pub wrong_within : (j : ℕ) → IsFirstFailing IsValueAt (Some j) → j ≤ length c.words
    wrong_within j first = within_list IsValueAt c.words j (λ none u s at. absurd (none u at)) first.1

-- over the lists that are read from a certificate
module _ (S : SpaceOver ℕ) (gens : List (Matrix ℕ)) (c : CertificateOf ℕ) (l : Limits) (given : IsGiven S gens c) (reached : Reached S.field gens c l (Words, 0))
    (irr secs : List Terms) (irr-is : irr ≡ c.irreducibles) (secs-is : secs ≡ c.secondaries) where
  pub read_polys : ArePolys S (λ m. m) irr
  read_polys = subst (ArePolys S (λ m. m)) (sym irr-is) (are_polys S gens c l given reached)

  pub read_forms : All (IsSmallForm S) secs
  read_forms = subst (All (IsSmallForm S)) (sym secs-is) (are_forms S gens c l given reached)

  pub read_secondaries : ArePolys S (λ m. m) secs
  read_secondaries = subst (ArePolys S (λ m. m)) (sym secs-is) (secondary_polys S gens c l given reached)

  abbrev pub ReadAt : ℕ → Type 0
  ReadAt = Item (λ q. In q secs × (0 < degree_of q)) irr

  first-there : (o : Option ℕ) → IsFirstFailing ReadAt o → IsFirstFailing (Item (λ q. In q c.secondaries × (0 < degree_of q)) c.irreducibles) o
  first-there o h = subst (λ ss. IsFirstFailing (Item (λ q. In q ss × (0 < degree_of q)) c.irreducibles) o) secs-is
      (subst (λ qs. IsFirstFailing (Item (λ q. In q secs × (0 < degree_of q)) qs) o) irr-is h)

  pub read_stranger_told : (i : ℕ) → IsFirstFailing ReadAt (Some i) → IsTold c l (Rejected 10 i)
  read_stranger_told i first = stranger_told S gens c l given reached i (first-there (Some i) first)

  module _ (none : IsFirstFailing ReadAt None) (theta ws copies images : List Terms) (theta-is : theta ≡ c.primaries) (ws-is : ws ≡ c.words)
      (copied : map (entries (λ m. m)) copies ≡ map (entries (λ m. m)) (theta ++ irr)) (images-is : images ≡ copies) where
    each : (i : ℕ) → IsGeneratorAt S gens c l given reached i
    each = first-there None none

    are : images ≡ c.primaries ++ c.irreducibles
    are = images-is ∙ same_copies copies (theta ++ irr) copied ∙ ap₂ ◌++◌ theta-is irr-is

    pub read_variables : All (HasVariables S.field (λ m. m) (length images)) ws
    read_variables = subst (All (HasVariables S.field (λ m. m) (length images))) (sym ws-is) (word_variables S gens c l given reached each images are)

    pub read_room : All (λ w. HasRoomIn 4294967295 (λ m. m) w images) ws
    read_room = subst (All (λ w. HasRoomIn 4294967295 (λ m. m) w images)) (sym ws-is) (word_room S gens c l given reached each images are)

    pub read_images : ArePolys S (λ m. m) images
    read_images = image_polys S gens c l given reached each images are

    pub read_each : length ws ≡ length secs
    read_each = ap length ws-is ∙ word_each S gens c l given reached each images are ∙ ap length (sym secs-is)

    values-there : (o : Option ℕ) → IsFirstFailing (HasValue S ws images secs) o → IsFirstFailing (HasValue S c.words images c.secondaries) o
    values-there o h = subst (λ ss. IsFirstFailing (HasValue S c.words images ss) o) secs-is (subst (λ us. IsFirstFailing (HasValue S us images secs) o) ws-is h)

    pub read_wrong_told : (o : Option ℕ) (j : ℕ) → o ≡ Some j → IsFirstFailing (HasValue S ws images secs) o → IsTold c l (Rejected 10 (length irr + j))
    read_wrong_told o j e first = subst (λ qs. IsTold c l (Rejected 10 (length qs + j))) (sym irr-is)
        (wrong_told S gens c l given reached each images are j (values-there (Some j) (subst (IsFirstFailing (HasValue S ws images secs)) e first)))

    pub read_wrong_within : (o : Option ℕ) (j : ℕ) → o ≡ Some j → IsFirstFailing (HasValue S ws images secs) o → j ≤ length ws
    read_wrong_within o j e first = within_list (HasValue S ws images secs) ws j (λ no u s at. absurd (no u at))
        (subst (IsFirstFailing (HasValue S ws images secs)) e first).1

    pub read_words_hold : (o : Option ℕ) → o ≡ None → IsFirstFailing (HasValue S ws images secs) o → Reached S.field gens c l (Reducibility, 0)
    read_words_hold o e first = words_hold S gens c l given reached each images are (values-there None (subst (IsFirstFailing (HasValue S ws images secs)) e first))

-- the item of a word is a number of 64 bits
pub sum_fits : (n a len cap m b len' cap' j : ℕ) → n ≡ a → (len ≡ a) × (len ≤ cap) → cap < 2 ^ 63 → j ≤ m → m ≡ b → (len' ≡ b) × (len' ≤ cap') → cap' < 2 ^ 63
    → Fits w64 (n + j)
sum_fits n a len cap m b len' cap' j read h low within read' g low' =
    let x = h.0 in
    let y = h.1 in
    let z = g.0 in
    let w = g.1 in
    record { fits = omega (arith, read, x, y, low, within, read', z, w, low') }
