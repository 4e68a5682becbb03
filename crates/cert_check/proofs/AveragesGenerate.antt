-- Where the averages of the standard monomials are given, every invariant is a combination over them.
use Rattle.std.proofs.Common.{◌≡◌, ◌∙◌, ◌<◌, ◌≤◌, ℕ, zero, suc, List, [], ◌∷◌, ◌++◌, length, replicate, refl, sym, ap, ap₂, subst, arith}
use Rattle.std.specs.Prelude.{All}
use Rattle.alg_core.specs.Fields.{FieldOn, Scalar, scalar_of_value}
use Rattle.alg_core.specs.Keys.{Key, keys}
use Rattle.alg_core.specs.Lists.{In}
use Rattle.alg_core.specs.ModuleLaws as modules
use Rattle.alg_core.specs.MonomialParts.{as_marks}
use Rattle.alg_core.specs.Monomials.{Mon, monomials, mono, exponents}
use Rattle.alg_core.specs.Rings.{Linear}
use Rattle.alg_core.specs.Vectors.{Vect, vectors, plus, scale}
use Rattle.alg_core.proofs.MonomialLists.{length_one}
use Rattle.poly_module.specs.Combinations.{IsCombination, combination_value, mark_value}
use Rattle.poly_module.specs.Forms.{form_one}
use Rattle.poly_module.specs.Modules.{listed}
use Rattle.poly_module.specs.Parts.{IsPolynomial, supp_single, linear_unique_supp}
use Rattle.poly_module.specs.Polynomials.{single_vector, product, vector_ring}
use Rattle.poly_module.specs.Products.{product_comm, product_single, ring_one, ring_product}
use Rattle.poly_module.specs.Substitutions.{monomial_value, substitute_product, substitute_single}
use Rattle.poly_module.specs.Variables.{monomial_value_has, product_polynomial, substitute_linear, variables}
use Rattle.poly_module.proofs.CombinationLaws.{combination_value_linear, combination_value_single}
use Rattle.poly_module.proofs.Marks.{in_marks_single, mark_value_in_marks}
use Rattle.poly_module.proofs.MarkValues.{mark_value_polynomial}
use Rattle.lin_algebra.specs.declared.matrix.Matrix.{Matrix}
use Rattle.matrix_group.specs.Actions.{Invariant, IsSquare}
use Rattle.matrix_group.specs.Groups.{cells_of, size, AreElements}
use Rattle.matrix_group.proofs.InvariantLaws.{invariant_one, invariant_product}
use Rattle.module_groebner.proofs.Families.{all_in}
use Rattle.reynolds_op.specs.Averages.{Averaging, IsAverage, IsAveraging, reynolds}
use Rattle.reynolds_op.proofs.AverageLaws.{average_plus, average_scale, average_unique, generated_fixed, generated_over}
use Rattle.finite_certificate.specs.MarkSpaces.{ArePositiveForms}
use Rattle.finite_certificate.specs.StandardMonomials.{AreStandardMonomials}
use Rattle.finite_certificate.proofs.Coordinates.{coordinates}
use Rattle.finite_certificate.proofs.ModuleTerms.{forms_at}
use Rattle.finite_certificate.proofs.StandardTests.{one_standard}
use Rattle.secondary_gens.specs.Lists.{Each}
use Rattle.secondary_gens.specs.Secondaries.{IsComplete}
use Rattle.secondary_gens.proofs.Lists.{place_of_in}
use Rattle.primary_module.specs.Positions.{at_positions, from_positions, part_at}
use Rattle.primary_module.proofs.Places.{part_wide, standard_parts}
use Rattle.primary_module.proofs.Translations.{at_keys, from_at, from_linear, from_single}

module _ {E : Type 0} (k : FieldOn E) (gens : List (Matrix E)) where
  -- the average of a monomial
  abbrev pub IsAverageOf : List ℕ → Vect k → Type 0
  IsAverageOf b f = IsAverage k gens (single_vector k (0, mono b)) f

  pub averages_count : (B : List (List ℕ)) (fs : List (Vect k)) → Each IsAverageOf B fs → length B ≡ length fs
  averages_count [] [] h = omega arith
  averages_count [] (f ∷ fs) h = absurd h
  averages_count (b ∷ B) [] h = absurd h
  averages_count (b ∷ B) (f ∷ fs) h = let e = averages_count B fs h.1 in omega arith

  some_average : (B : List (List ℕ)) (fs : List (Vect k)) → Each IsAverageOf B fs → (a : List ℕ) → In a B → (b : List ℕ) × (f : Vect k) × IsAverageOf b f
  some_average [] fs h a i = absurd i
  some_average (b ∷ B) [] h a i = absurd h
  some_average (b ∷ B) (f ∷ fs) h a i = (b, f, h.0)

  square_size : (n : ℕ) (ms : List (Matrix E)) → 0 < length ms → All (IsSquare k n) ms → n ≡ size ms
  square_size n [] h square = absurd (omega arith)
  square_size n (m ∷ ms) h square = sym (square 0 m (omega arith)).rows

  module _ (R : Averaging E) (group : IsAveraging k (size gens) R) (generated : AreElements k (size gens) (cells_of gens) (cells_of R.elements)) where
    abbrev mean : Vect k → Vect k
    mean = reynolds k (size gens) R

    mean_linear : Linear (vectors k) (vectors k) mean
    unfolding plus scale
    mean_linear = record {
      add = average_plus k (size gens) R.factor (cells_of R.elements);
      act = λ c u. subst (λ (d : Scalar k). mean ((vectors k).◌·◌ d u) ≡ (vectors k).◌·◌ d (mean u)) (scalar_of_value k c) (average_scale k (size gens) R.factor (cells_of R.elements) c.0 u);
    }

    mean_at : (B : List (List ℕ)) (fs : List (Vect k)) → Each IsAverageOf B fs → (i : ℕ) → i < length B → mean (single_vector k (0, part_at B i)) ≡ listed k fs i
    unfolding part_at
    mean_at [] fs h i l = absurd (omega arith)
    mean_at (b ∷ B) [] h i l = absurd h
    mean_at (b ∷ B) (f ∷ fs) h zero l =
        average_unique k gens (single_vector k (0, mono b)) (mean (single_vector k (0, mono b))) f (record { averaging = R; group = group; generated = generated; is = refl }) h.0
    mean_at (b ∷ B) (f ∷ fs) h (suc i) l = mean_at B fs h.1 i (omega arith)

    module _ (n : ℕ) (ds : List ℕ) (θ : List (Vect k)) (primaries : ArePositiveForms k n ds θ) (fixed : All (Invariant k gens) θ)
        (square : All (IsSquare k (size gens)) gens) (B : List (List ℕ)) (standard : AreStandardMonomials k n θ B) (fs : List (Vect k)) (averages : Each IsAverageOf B fs) where
      -- polynomials that the generators fix
      abbrev IsFixed : Vect k → Type 0
      IsFixed a = IsPolynomial k a × Invariant k gens a

      member_fixed : (f : Vect k) → In f θ → IsFixed f
      member_fixed f i =
          let p = place_of_in k θ f i in
          let form = forms_at k (replicate n 1) ds θ primaries.forms p.0 p.1 in
          (subst (IsPolynomial k) p.2 (λ t c. (form t c).0), all_in (Invariant k gens) θ fixed f i)

      value_fixed : (a : List ℕ) → IsFixed (monomial_value (vector_ring k) θ a)
      value_fixed = monomial_value_has (vector_ring k) IsFixed
          (subst IsFixed (sym (ring_one k)) ((λ t c. (form_one k [] t c).0), invariant_one k gens))
          (λ u v h g. subst IsFixed (sym (ring_product k u v)) (product_polynomial k u v h.0 g.0, invariant_product k gens u v h.1 g.1))
          θ member_fixed

      -- the polynomial of a vector at a single key: a polynomial in θ, times a standard monomial
      polynomial_at : (t : Key) → t.0 < length B → mark_value k n θ (from_positions k n B (single_vector k t)) ≡ product k (monomial_value (vector_ring k) θ t.1.0) (single_vector k (0, part_at B t.0))
      unfolding keys
      polynomial_at t h =
          let P : Mon = part_at B t.0 in
          let short : length (part_at B t.0).0 ≤ n = part_wide n B standard.wide t.0 h in
          let marks : mark_value k n θ (single_vector k (0, as_marks n t.1)) ≡ monomial_value (vector_ring k) θ t.1.0 =
          ap (mark_value k n θ) (sym (in_marks_single k n (0, t.1))) ∙ mark_value_in_marks k n θ (single_vector k (0, t.1)) ∙ substitute_single k θ (0, t.1) in
          let part : mark_value k n θ (single_vector k (0, P)) ≡ single_vector k (0, P) =
          mark_value_polynomial k n θ (single_vector k (0, P)) (supp_single k (λ s. s.0 ≡ 0) (0, P) refl) (supp_single k (λ s. length s.1.0 ≤ n) (0, P) short) in
          ap (mark_value k n θ) (from_single k n B t ∙ sym (product_single k (0, P) (0, as_marks n t.1)))
          ∙ substitute_product k _ (single_vector k (0, P)) (single_vector k (0, as_marks n t.1))
          ∙ ap₂ (product k) part marks ∙ product_comm k _ _

      value_at : (t : Key) → t.0 < length B → combination_value k θ fs (single_vector k t) ≡ mean (mark_value k n θ (from_positions k n B (single_vector k t)))
      value_at t h =
          let a : Vect k = monomial_value (vector_ring k) θ t.1.0 in
          let s : Vect k = single_vector k (0, part_at B t.0) in
          combination_value_single k θ fs t ∙ ap (product k a) (sym (mean_at B fs averages t.0 h))
          ∙ sym (generated_over k (size gens) R group gens square generated a s (value_fixed t.1.0).0 (value_fixed t.1.0).1)
          ∙ ap mean (sym (polynomial_at t h))

      value_of_vector : (c : Vect k) → IsCombination k (length θ) (length B) c → combination_value k θ fs c ≡ mean (mark_value k n θ (from_positions k n B c))
      value_of_vector c h = linear_unique_supp k (vectors k) (combination_value k θ fs) (λ c. mean (mark_value k n θ (from_positions k n B c)))
          (combination_value_linear k θ fs)
          (modules.linear_after (vectors k) (vectors k) (vectors k) (λ c. mark_value k n θ (from_positions k n B c)) mean
          (modules.linear_after (vectors k) (vectors k) (vectors k) (from_positions k n B) (mark_value k n θ) (from_linear k n B) (substitute_linear k (variables k n ++ θ))) mean_linear)
          (λ t. t.0 < length B) value_at c (λ t e. (h t e).1)

      by_averaging : IsComplete k n gens θ fs
      by_averaging f poly vars fixed_by =
          let u = coordinates k n ds θ primaries f poly vars in
          let is = u.1 in
          let parts = (standard_parts n k θ B standard u.0).0 is.standard in
          let c : Vect k = at_positions k n B u.0 in
          let h : IsCombination k (length θ) (length B) c = at_keys k n B (length θ) u.0 is.mixed parts in
          let back : mark_value k n θ (from_positions k n B c) ≡ f = ap (mark_value k n θ) (from_at k n B u.0 is.mixed.polynomial parts) ∙ is.value in (
            c,
            subst (λ (m : ℕ). IsCombination k (length θ) m c) (averages_count B fs averages) h,
            value_of_vector c h ∙ ap mean back ∙ (generated_fixed k (size gens) R group gens square generated f poly).0 fixed_by,
          )

  -- every invariant is a combination over θ and the averages
  pub averages_generate : (n : ℕ) (ds : List ℕ) (θ : List (Vect k)) → ArePositiveForms k n ds θ → All (Invariant k gens) θ
      → 0 < length gens → All (IsSquare k n) gens → (B : List (List ℕ)) → AreStandardMonomials k n θ B
      → (fs : List (Vect k)) → Each IsAverageOf B fs → IsComplete k n gens θ fs
  averages_generate n ds θ primaries fixed some square B standard fs averages =
      let a = some_average B fs averages (exponents n monomials.one.0) (standard.all monomials.one (length_one n) (one_standard k n θ ds primaries)) in
      let is = a.2 in
      by_averaging is.averaging is.group is.generated n ds θ primaries fixed (subst (λ (m : ℕ). All (IsSquare k m) gens) (square_size n gens some square) square)
      B standard fs averages
