-- The polynomial 1 as the one secondary invariant, copies of two lists of polynomials, and the elimination of one degree.
use Rattle.std.proofs.Common.{◌≡◌, ℕ, ◌<◌, List, [], ◌∷◌, ◌++◌, map, sym, ap, ap₂, ◌∙◌, refl, subst, arith}
use Rattle.std.specs.Prelude.{All}
use Rattle.std.proofs.lemmas.List.{map-append}
use Rattle.std.proofs.lemmas.List.Elements.{All-nil, All-cons, All-head, All-tail, All-append}
use Rattle.alg_core.specs.SpaceOrder.{key_order}
use Rattle.alg_core.specs.Spaces.{SpaceOver, entries}
use Rattle.alg_core.specs.Vectors.{Vect, Entry}
use Rattle.alg_core.specs.declared.term.Term.{Term}
use Rattle.poly_module.specs.Combinations.{Over}
use Rattle.poly_module.specs.Forms.{IsForm, form_one}
use Rattle.poly_module.specs.GreatestExponents.{total, greatest}
use Rattle.poly_module.specs.Polynomials.{one_vector}
use Rattle.poly_module.specs.SpaceVectors.{vector_of, vectors_of, IsPoly, IsPolyOf}
use Rattle.poly_module.proofs.SpaceVectorLaws.{poly_of}
use Rattle.secondary_gens.specs.Columns.{IsColumns}
use Rattle.secondary_gens.specs.Eliminations.{Line, IsEchelonOf}
use Rattle.secondary_gens.specs.Forms.{degree_of, degrees_of, unit_weights, IsSmallForm, IsPositiveForm}
use Rattle.secondary_gens.specs.declared.columns.Column.{Column}
use Rattle.secondary_gens.proofs.FormDegrees.{are_forms, positive_small, same_lengths}
use Rattle.secondary_gens.proofs.KeepSteps.{form_degree}
use Rattle.secondary_gens.proofs.OverInDegree.{spanned_over, over_spanned}
use Rattle.secondary_gens.proofs.OverSteps.{copied_form, copied_vectors}
use Rattle.secondary_gens.proofs.TrackedSteps.{in_degree}
use Rattle.irreducible_gens.specs.Algebras.{IsAlgebraEchelon}
use Rattle.irreducible_gens.proofs.Generators.{unit, over_polynomial, polynomial_over}

module _ {E : Type 0} (S : SpaceOver E) where
  abbrev pub Terms : Type 0
  Terms = List (Term E (List ℕ))

  abbrev pub x : Terms → Vect S.field
  x v = vector_of S (λ m. m) v

  abbrev pub xs : List Terms → List (Vect S.field)
  xs vs = vectors_of S (λ m. m) vs

  abbrev pub all_entries : List Terms → List (List (Entry E))
  all_entries ps = map (entries (λ m. m)) ps

  -- the polynomial 1
  module _ (p : Terms) (is : IsPolyOf S (λ m. m) (one_vector S.field) p) where
    one_form : IsForm S.field (unit_weights S) 0 (x p)
    one_form = subst (IsForm S.field (unit_weights S) 0) (sym is.is) (form_one S.field (unit_weights S))

    pub one_degree : degree_of p ≡ 0
    one_degree = go p (poly_of S (λ m. m) (one_vector S.field) p is) one_form
      where
        go : (p : Terms) → IsPoly S (λ m. m) p → IsForm S.field (unit_weights S) 0 (x p) → degree_of p ≡ 0
        go [] a b = refl
        go (t ∷ p) a b = form_degree S 0 (t ∷ p) a b (λ e. cc)

    pub one_small : All (IsSmallForm S) (p ∷ [])
    one_small = All-cons (IsSmallForm S) p [] (record {
      polynomial = poly_of S (λ m. m) (one_vector S.field) p is;
      small = let e = one_degree in omega arith;
      form = subst (λ d. IsForm S.field (unit_weights S) d (x p)) (sym one_degree) one_form;
    }) (All-nil (IsSmallForm S))

    pub one_vectors : xs (p ∷ []) ≡ unit S.field
    one_vectors = ap (λ v. v ∷ []) is.is

    pub one_degrees : degrees_of (p ∷ []) ≡ 0 ∷ []
    one_degrees = ap (λ d. d ∷ []) one_degree

    -- the columns of one degree over 1, and their elimination
    pub algebra_echelon : (generators : List Terms) (d : ℕ) (columns : List (Column E)) (ls : List (Line S.field)) → All (IsPositiveForm S) generators
        → IsColumns S (xs generators) (degrees_of generators) (xs (p ∷ [])) (degrees_of (p ∷ [])) d columns → IsEchelonOf S.field (map (λ c. x c.value) columns) ls → IsAlgebraEchelon S (xs generators) d ls
    algebra_echelon generators d columns ls h are e =
        let G = xs generators in
        let ds = degrees_of generators in
        let T = xs (p ∷ []) in
        let es = degrees_of (p ∷ []) in
        let forms = are_forms S generators (positive_small S generators h) in
        let one = are_forms S (p ∷ []) one_small in
        let seen = in_degree S columns G T ds es d (same_lengths S generators) are ls e in
        record {
          values = _;
          echelon = seen.echelon;
          inside = λ f s. over_polynomial S.field G f (subst (λ l. Over S.field G l f) one_vectors (spanned_over S.field (key_order S) G ds (unit_weights S) forms d T es one ls seen f s));
          whole = λ f form a. over_spanned S.field (key_order S) G ds (unit_weights S) forms d T es one ls seen f form (subst (λ l. Over S.field G l f) (sym one_vectors) (polynomial_over S.field G f a));
        }

  -- copies
  pub copied_positive : (p q : Terms) → entries (λ m. m) q ≡ entries (λ m. m) p → IsPositiveForm S p → IsPositiveForm S q
  copied_positive p q e h = record { form = copied_form S p q e h.form; positive = subst (λ es. 0 < greatest (map (λ a. total a.0.1) es)) (sym e) h.positive }

  pub copied_positives : (ps qs : List Terms) → all_entries qs ≡ all_entries ps → All (IsPositiveForm S) ps → All (IsPositiveForm S) qs
  copied_positives [] [] e h = All-nil (IsPositiveForm S)
  copied_positives [] (q ∷ qs) e h = absurd (let c : ⊥ = cc in c)
  copied_positives (p ∷ ps) [] e h = All-nil (IsPositiveForm S)
  copied_positives (p ∷ ps) (q ∷ qs) e h =
      let heads : entries (λ m. m) q ≡ entries (λ m. m) p = cc in
      let tails : all_entries qs ≡ all_entries ps = cc in
      All-cons (IsPositiveForm S) q qs (copied_positive p q heads (All-head (IsPositiveForm S) p ps h)) (copied_positives ps qs tails (All-tail (IsPositiveForm S) p ps h))

  pub copied_degrees : (ps qs : List Terms) → all_entries qs ≡ all_entries ps → degrees_of qs ≡ degrees_of ps
  copied_degrees [] [] e = refl
  copied_degrees [] (q ∷ qs) e = absurd (let c : ⊥ = cc in c)
  copied_degrees (p ∷ ps) [] e = absurd (let c : ⊥ = cc in c)
  copied_degrees (p ∷ ps) (q ∷ qs) e =
      let heads : entries (λ m. m) q ≡ entries (λ m. m) p = cc in
      let tails : all_entries qs ≡ all_entries ps = cc in
      ap₂ ◌∷◌ (ap (λ es. greatest (map (λ a. total a.0.1) es)) heads) (copied_degrees ps qs tails)

  module _ (front back joined : List Terms) (copies : all_entries joined ≡ all_entries (front ++ back)) where
    pub joined_positive : All (IsPositiveForm S) front → All (IsPositiveForm S) back → All (IsPositiveForm S) joined
    joined_positive h g = copied_positives (front ++ back) joined copies (All-append (IsPositiveForm S) front back h g)

    pub joined_vectors : xs joined ≡ xs front ++ xs back
    joined_vectors = copied_vectors S (front ++ back) joined copies ∙ map-append x front back

    pub joined_degrees : degrees_of joined ≡ degrees_of front ++ degrees_of back
    joined_degrees = copied_degrees (front ++ back) joined copies ∙ map-append degree_of front back

-- a list with one member
pub pushed_one : {A : Type 0} (seen new old : List A) (p : A) → seen ≡ new → new ≡ old ++ p ∷ [] → old ≡ [] → seen ≡ p ∷ []
pushed_one seen new old p s n o = s ∙ n ∙ ap (λ l. l ++ p ∷ []) o
