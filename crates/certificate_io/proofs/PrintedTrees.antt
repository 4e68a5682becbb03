-- The trees that polynomials, monomials and combinations print: their values pass, and they tell what printed them.
use Rattle.std.proofs.Common.{◌≡◌, ◌∙◌, ℕ, suc, List, [], ◌∷◌, Option, Some, None, length, map, append-nil, refl, sym, ap, ap₂, subst, arith}
use Rattle.std.specs.Prelude.{All}
use Rattle.std.specs.Option.{option_map}
use Rattle.std.proofs.lemmas.List.Elements.{All-nil, All-cons, All-head, All-tail}
use Rattle.alg_core.specs.Fields.{FieldOn}
use Rattle.alg_core.specs.Spaces.{SpaceOver, IsPlace, IsTerm as IsTermOf, entries}
use Rattle.alg_core.specs.Vectors.{Entry}
use Rattle.alg_core.specs.declared.term.Term.{Term as CodeTerm}
use Rattle.alg_core.specs.declared.value_kind.ValueKind.{ValueKind}
use Rattle.poly_module.specs.declared.vector.Comb.{Comb}
use Rattle.prime_field.specs.PrimeFields.{IsPrimeField}
use Rattle.poly_text.specs.Syntax.{Factor, Term, IsFactor, IsTerm, IsMonomialText, monomial_term, product_text}
use Rattle.poly_text.specs.Texts.{by_position, combination_term, count_of, factors_from, place_count, term_in, variable_at}
use Rattle.poly_text.specs.Values.{IsReadable, IsReadableTerm, entry_of, exponents_from, mark_names}
use Rattle.poly_text.specs.declared.names.Names.{Names}
use Rattle.poly_text.proofs.CombinationReads.{mark_printed}
use Rattle.poly_text.proofs.MonomialSteps.{unit_fits, unit_all}
use Rattle.poly_text.proofs.CombinationTerms.{fits_low}
use Rattle.poly_text.proofs.PositionParts.{by_all, by_terms, by_unique}
use Rattle.poly_text.proofs.PrintedLaws.{printed_values}
use Rattle.certificate_io.specs.Conditions.{IsPolynomialIn, IsCombinationIn}
use Rattle.certificate_io.specs.Parts.{tree_in, combination_in}
use Rattle.certificate_io.specs.Readings.{CanRead, comb_kind, comb_tree, poly_kind, poly_tree, run_fault}
use Rattle.certificate_io.specs.Syntax.{IsPolynomial}
use Rattle.certificate_io.proofs.PartReadings.{monomial_read}
use Rattle.certificate_io.proofs.PolynomialReadings.{comb_passes, comb_text}
use Rattle.certificate_io.proofs.ReadingRuns.{line_passes, passes_on}

-- the term of an entry
abbrev pub untied : Entry ℕ → CodeTerm ℕ (List ℕ)
untied e = record { coef = e.1; at = record { pos = e.0.0; mono = e.0.1 } }

pub terms_back : (f : List (CodeTerm ℕ (List ℕ))) → map untied (entries (λ m. m) f) ≡ f
terms_back [] = refl
terms_back (t ∷ f) = ap (λ l. t ∷ l) (terms_back f)

-- the polynomial of a tree
abbrev pub polynomial_of : SpaceOver ℕ → Names → List Term → List (CodeTerm ℕ (List ℕ))
polynomial_of S names ts = map untied (map (entry_of None S names) ts)

-- lines whose conditions hold
pub run_passes : {X T : Type 0} (f : ℕ → T → Option ValueKind) (part : X → T) (P : X → Type 0) → ((k : ℕ) (x : X) → P x → f k (part x) ≡ None) → (i k : ℕ) (xs : List X) → All P xs → run_fault f i k (map part xs) ≡ None
run_passes f part P pass i k [] all = refl
run_passes f part P pass i k (x ∷ xs) all =
    passes_on i (f k (part x)) (run_fault f (suc i) (suc k) (map part xs)) (pass k x (All-head P x xs all)) ∙ run_passes f part P pass (suc i) (suc k) xs (All-tail P x xs all)

-- parts that tell what printed them
pub told_back : {X T : Type 0} (part : X → T) (back : T → X) (P : X → Type 0) → ((x : X) → P x → back (part x) ≡ x) → (xs : List X) → All P xs → map back (map part xs) ≡ xs
told_back part back P same [] all = refl
told_back part back P same (x ∷ xs) all = ap₂ (λ y ys. y ∷ ys) (same x (All-head P x xs all)) (told_back part back P same xs (All-tail P x xs all))

-- what holds of the parts of all
pub all_parts : {X T : Type 0} (part : X → T) (P : X → Type 0) (Q : T → Type 0) → ((x : X) → P x → Q (part x)) → (xs : List X) → All P xs → All Q (map part xs)
all_parts part P Q is [] all = All-nil Q
all_parts part P Q is (x ∷ xs) all = All-cons Q (part x) (map part xs) (is x (All-head P x xs all)) (all_parts part P Q is xs (All-tail P x xs all))

first_exponents : List (Entry ℕ) → List ℕ
first_exponents [] = []
first_exponents (e ∷ es) = e.0.1

module _ (S : SpaceOver ℕ) (names : Names) (p : ℕ) (prime : IsPrimeField p S.field) (can : CanRead S names) where
  abbrev pub tree : List (CodeTerm ℕ (List ℕ)) → List Term
  tree f = tree_in p names.vars (count_of names.primaries) f

  pub tree_same : (f : List (CodeTerm ℕ (List ℕ))) → poly_tree S names f ≡ tree f
  tree_same f = ap (λ (k : FieldOn ℕ). map (term_in names.vars (count_of names.primaries) k.characteristic) (entries (λ m. m) f)) prime.1

  tree_values : (f : List (CodeTerm ℕ (List ℕ))) → IsPolynomialIn S names f
      → (map (entry_of None S names) (tree f) ≡ entries (λ m. m) f) × (poly_kind S names (tree f) ≡ None) × IsPolynomial (tree f)
  tree_values f reads =
      let values = printed_values S names p (entries (λ m. m) f) prime can.places can.distinct can.variables reads.0.fits reads.0.position reads.1 in
      subst (λ ts. (map (entry_of None S names) ts ≡ entries (λ m. m) f) × (poly_kind S names ts ≡ None) × IsPolynomial ts) (tree_same f) (values.0, ap (option_map (λ x. x.1)) values.1, values.2)

  pub tree_entries : (f : List (CodeTerm ℕ (List ℕ))) → IsPolynomialIn S names f → map (entry_of None S names) (tree f) ≡ entries (λ m. m) f
  tree_entries f reads = (tree_values f reads).0

  pub tree_passes : (f : List (CodeTerm ℕ (List ℕ))) → IsPolynomialIn S names f → poly_kind S names (tree f) ≡ None
  tree_passes f reads = (tree_values f reads).1

  pub tree_is : (f : List (CodeTerm ℕ (List ℕ))) → IsPolynomialIn S names f → IsPolynomial (tree f)
  tree_is f reads = (tree_values f reads).2

  pub tree_back : (f : List (CodeTerm ℕ (List ℕ))) → IsPolynomialIn S names f → polynomial_of S names (tree f) ≡ f
  tree_back f reads = ap (map untied) (tree_entries f reads) ∙ terms_back f

  abbrev pub factors : List ℕ → List Factor
  factors m = factors_from (variable_at names) 0 m

  -- a monomial
  module _ (m : List ℕ) (place : IsPlace S (0, m)) (readable : IsReadable S names ((0, m), 1)) where
    abbrev unit : List (Entry ℕ)
    unit = ((0, m), 1) ∷ []

    mono_values : (map (entry_of None S names) (map (term_in names.vars (count_of names.primaries) S.field.characteristic) unit) ≡ unit) × All IsTerm (map (term_in names.vars (count_of names.primaries) S.field.characteristic) unit)
    mono_values =
        let zero_at : Entry ℕ → Type 0 = λ e. e.0.0 ≡ 0 in
        let values = printed_values S names p unit prime can.places can.distinct can.variables (unit_fits S p prime m place) (unit_all zero_at m refl) (unit_all (IsReadable S names) m readable) in
        (values.0, values.2)

    pub mono_is : All IsFactor (factors m)
    mono_is = (All-head IsTerm (term_in names.vars (count_of names.primaries) S.field.characteristic ((0, m), 1)) [] mono_values.1).factors

    pub mono_back : exponents_from names (place_count names) 0 (factors m) ≡ m
    unfolding first_exponents
    mono_back = ap first_exponents mono_values.0

    mono_text : IsMonomialText (factors m) (product_text 1 (factors m))
    mono_text = record {
      terms = All-cons IsTerm (monomial_term (factors m)) [] (record { coefficient = (omega arith, omega arith); factors = mono_is }) (All-nil IsTerm);
      spelled = append-nil (product_text 1 (factors m));
    }

    pub mono_passes : poly_kind S names (monomial_term (factors m) ∷ []) ≡ None
    mono_passes = line_passes 0 (poly_kind S names (monomial_term (factors m) ∷ [])) (monomial_read S p prime names can (product_text 1 (factors m)) (factors m) m 0 mono_text place readable refl).0

module _ (S : SpaceOver ℕ) (p : ℕ) (prime : IsPrimeField p S.field) where
  abbrev count : ℕ
  count = length S.shifts

  pub comb_same : (c : Comb ℕ) → comb_tree S c ≡ combination_in p count c
  comb_same c = ap (λ (k : FieldOn ℕ). map (combination_term k.characteristic) (by_position count (entries (λ m. m) c.vector))) prime.1

  pub comb_no_fault : (c : Comb ℕ) → IsCombinationIn S c.vector → comb_kind S (combination_in p count c) ≡ None
  comb_no_fault c reads = ap (comb_kind S) (sym (comb_same c)) ∙ comb_passes S p prime c reads

  pub comb_is : (c : Comb ℕ) → IsCombinationIn S c.vector → IsPolynomial (combination_in p count c)
  comb_is c reads = subst IsPolynomial (comb_same c) (comb_text S p prime c reads).terms

  marks_back : (es : List (Entry ℕ)) → All (IsTermOf S) es → All (IsReadableTerm S) es → map (entry_of (Some count) S (mark_names (length S.weights))) (map (combination_term S.field.characteristic) es) ≡ es
  marks_back [] terms readable = refl
  marks_back (e ∷ es) terms readable =
      ap₂ (λ x xs. x ∷ xs) (mark_printed S p e prime (All-head (IsTermOf S) e es terms) (All-head (IsReadableTerm S) e es readable)).same (marks_back es (All-tail (IsTermOf S) e es terms) (All-tail (IsReadableTerm S) e es readable))

  sorted_back : (c : Comb ℕ) → IsCombinationIn S c.vector → map (entry_of (Some count) S (mark_names (length S.weights))) (comb_tree S c) ≡ by_position count (entries (λ m. m) c.vector)
  sorted_back c reads =
      let es = entries (λ (m : List ℕ). m) c.vector in
      marks_back (by_position count es) (by_terms S count es reads.0) (λ k d w. (by_all S (IsReadableTerm S) count es reads.1 k d w).0)

  -- combinations with one tree are the same
  pub comb_one : (c d : Comb ℕ) → IsCombinationIn S c.vector → IsCombinationIn S d.vector → combination_in p count c ≡ combination_in p count d → c ≡ d
  comb_one c d is has e =
      let es = entries (λ (m : List ℕ). m) c.vector in
      let fs = entries (λ (m : List ℕ). m) d.vector in
      let trees : comb_tree S c ≡ comb_tree S d = comb_same c ∙ e ∙ sym (comb_same d) in
      let sorted : by_position count es ≡ by_position count fs = sym (sorted_back c is) ∙ ap (map (entry_of (Some count) S (mark_names (length S.weights)))) trees ∙ sorted_back d has in
      let same : es ≡ fs = by_unique S count es fs is.0 has.0 (fits_low S es is.0) (fits_low S fs has.0) sorted in
      let vectors : c.vector ≡ d.vector = sym (terms_back c.vector) ∙ ap (map untied) same ∙ terms_back d.vector in
      ap (λ v. record { vector = v }) vectors
