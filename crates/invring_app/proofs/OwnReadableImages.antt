-- The averages of standard monomials, and the values of the fixed members of a kernel, are forms of small degrees.
use Rattle.std.proofs.Common.{◌≡◌, ◌∙◌, inl, inr, ℕ, ◌<◌, ◌≤◌, List, [], ◌∷◌, length, replicate, refl, sym, ap, subst, arith}
use Rattle.std.specs.Prelude.{All}
use Rattle.alg_core.specs.Fields.{FieldOn}
use Rattle.alg_core.specs.Lists.{In}
use Rattle.alg_core.specs.Monomials.{monomials, mono}
use Rattle.alg_core.specs.PolynomialSpaces.{plain_space}
use Rattle.alg_core.specs.Vectors.{Vect, coef_at, zero_vector}
use Rattle.alg_core.proofs.MonomialLists.{length_mono, length_one}
use Rattle.alg_core.proofs.VectorLaws.{coef_at_zero}
use Rattle.poly_module.specs.Combinations.{Over, combination_value}
use Rattle.poly_module.specs.Forms.{IsForm, OfDegree}
use Rattle.poly_module.specs.GreatestExponents.{total}
use Rattle.poly_module.specs.Parts.{InVariables, supp_single}
use Rattle.poly_module.specs.Polynomials.{single_vector, one_vector}
use Rattle.poly_module.specs.Products.{one_vector_single}
use Rattle.poly_module.proofs.CombinationLaws.{combination_value_zero}
use Rattle.poly_module.proofs.ModuleElements.{polynomial_one}
use Rattle.lin_algebra.specs.declared.matrix.Matrix.{Matrix}
use Rattle.matrix_group.specs.Actions.{IsSquare}
use Rattle.matrix_group.specs.Groups.{cells_of, size}
use Rattle.matrix_group.proofs.InvariantLaws.{invariant_one}
use Rattle.groebner_hom.proofs.Freeness.{no_keys}
use Rattle.primary_search.proofs.EndedLaws.{single_lead}
use Rattle.reynolds_op.specs.Averages.{IsAverage}
use Rattle.reynolds_op.proofs.AverageLaws.{average_form}
use Rattle.secondary_gens.specs.Lists.{Each}
use Rattle.secondary_gens.specs.Secondaries.{IsComplete}
use Rattle.primary_module.proofs.StandardDegrees.{total_weight}

-- the size of the matrices
same-size : {E : Type 0} (k : FieldOn E) (n : ℕ) (ms : List (Matrix E)) → 0 < length ms → All (IsSquare k n) ms → size ms ≡ n
same-size k n [] h square = absurd (omega arith)
same-size k n (m ∷ ms) h square = (square 0 m (omega arith)).rows

module _ {E : Type 0} (k : FieldOn E) (n : ℕ) (ms : List (Matrix E)) (some : 0 < length ms) (square : All (IsSquare k n) ms) where
  -- the average of a monomial is a form of its degree
  pub average-degree : (b : List ℕ) → length b ≡ n → (h : Vect k) → IsAverage k ms (single_vector k (0, mono b)) h → IsForm k (replicate n 1) (total b) h
  average-degree b wide h a =
      let short : length (mono b).0 ≤ n = let l = length_mono b in omega arith in
      let form : IsForm k (replicate n 1) (total b) (single_vector k (0, mono b)) = supp_single k (OfDegree k (replicate n 1) (total b)) (0, mono b) (refl, total_weight n b (omega arith)) in
      let e = same-size k n ms some square in
      subst (IsForm k (replicate n 1) (total b)) a.is
      (average_form k (size ms) a.averaging.factor (cells_of a.averaging.elements) n (omega arith) (total b) (single_vector k (0, mono b)) (supp_single k (λ t. length t.1.0 ≤ n) (0, mono b) short) form)

-- the member beside a member
pub beside : {A B : Type 0} (P : A → B → Type 0) (xs : List A) (ys : List B) → Each P xs ys → (y : B) → In y ys → (x : A) × In x xs × P x y
beside P [] [] h y i = absurd i
beside P [] (z ∷ ys) h y i = absurd h
beside P (x ∷ xs) [] h y i = absurd h
beside P (x ∷ xs) (z ∷ ys) h y (inl e) = (x, inl refl, subst (P x) e h.0)
beside P (x ∷ xs) (z ∷ ys) h y (inr i) = let r = beside P xs ys h.1 y i in (r.0, inr r.1, r.2)

-- where all invariants are combinations of some there is one of them: 1 is an invariant
module _ {E : Type 0} (k : FieldOn E) (n : ℕ) (gens : List (Matrix E)) (θ : List (Vect k)) where
  nothing-over : ¬ Over k θ [] (one_vector k)
  unfolding coef_at
  nothing-over o =
      let none : o.0 ≡ zero_vector k = no_keys k o.0 (λ t c. let h = (o.1 t c).1 in absurd (omega arith)) in
      let zero : one_vector k ≡ zero_vector k = sym o.2 ∙ ap (combination_value k θ []) none ∙ combination_value_zero k θ [] in
      let lead = single_lead (plain_space k n) (0, monomials.one) in
      lead.there (ap (λ v. coef_at k v (0, monomials.one)) (sym (one_vector_single k) ∙ zero) ∙ coef_at_zero k (0, monomials.one))

  pub complete-some : (T : List (Vect k)) → IsComplete k n gens θ T → 1 ≤ length T
  complete-some [] h =
      let short = subst (InVariables k n) (sym (one_vector_single k)) (supp_single k (λ t. length t.1.0 ≤ n) (0, monomials.one) (length_one n)) in
      absurd (nothing-over (h (one_vector k) (polynomial_one k) short (invariant_one k gens)))
  complete-some (f ∷ T) h = omega arith
