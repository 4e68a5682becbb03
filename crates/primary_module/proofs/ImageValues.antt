-- Where a matrix fixes the values of the marks, the value of an image is the image of the value.
use Rattle.std.proofs.Common.{◌≡◌, ◌∙◌, ◌+◌, ◌-◌, ◌<◌, ◌≤◌, ℕ, zero, suc, List, [], ◌∷◌, ◌++◌, length, refl, sym, ap, subst, inl, inr, ◌⊎◌, arith}
use Rattle.std.proofs.lemmas.Bool.{cases_lt}
use Rattle.alg_core.specs.Fields.{FieldOn, Scalar}
use Rattle.alg_core.specs.Vectors.{Vect}
use Rattle.poly_module.specs.Polynomials.{one_vector, vector_ring, vector_algebra}
use Rattle.poly_module.specs.Products.{ring_one}
use Rattle.poly_module.specs.Substitutions.{image as image_of, variable_vector, position_vector, substitute, substitute_homomorphism, substitute_one, substitute_position, substitute_variable, substitution_unique}
use Rattle.poly_module.specs.Values.{homomorphism_after}
use Rattle.poly_module.specs.Variables.{variables}
use Rattle.poly_module.specs.Combinations.{mark_value}
use Rattle.poly_module.specs.Modules.{listed}
use Rattle.poly_module.proofs.MarkValues.{mark_value_polynomial, mark_value_mark}
use Rattle.matrix_group.specs.Actions.{image, act}
use Rattle.matrix_group.proofs.ActionLaws.{act_homomorphism, act_variable, act_position, act_one, image_polynomial, image_in_variables}
use Rattle.matrix_group.proofs.LinearForms.{image_outside, variable_polynomial, variable_in_variables}
use Rattle.finite_certificate.proofs.ModuleTerms.{image_member}

module _ {E : Type 0} (k : FieldOn E) (n : ℕ) (θ : List (Vect k)) (rows : ℕ) (square : rows ≡ n) (a : ℕ → ℕ → Scalar k)
    (fixed : (j : ℕ) → j < length θ → act k rows a (listed k θ j) ≡ listed k θ j) where
  image_past : (fs : List (Vect k)) (j : ℕ) → length fs ≤ j → image_of (vector_ring k) fs j ≡ one_vector k
  image_past [] j h = ring_one k
  image_past (f ∷ fs) zero h = absurd (omega arith)
  image_past (f ∷ fs) (suc j) h = image_past fs j (omega arith)

  -- the values of the marks
  mark_fixed : (j : ℕ) → act k rows a (image_of (vector_ring k) θ j) ≡ image_of (vector_ring k) θ j
  mark_fixed j = go (cases_lt j (length θ))
    where
      go : (j < length θ) ⊎ (length θ ≤ j) → act k rows a (image_of (vector_ring k) θ j) ≡ image_of (vector_ring k) θ j
      go (inl h) = ap (act k rows a) (image_member k θ j h) ∙ fixed j h ∙ sym (image_member k θ j h)
      go (inr h) = ap (act k rows a) (image_past θ j h) ∙ act_one k rows a ∙ sym (image_past θ j h)

  at_variable : (i : ℕ) → mark_value k n θ (act k rows a (variable_vector k i)) ≡ act k rows a (mark_value k n θ (variable_vector k i))
  at_variable i = go (cases_lt i n)
    where
      go : (i < n) ⊎ (n ≤ i) → mark_value k n θ (act k rows a (variable_vector k i)) ≡ act k rows a (mark_value k n θ (variable_vector k i))
      go (inl h) = ap (mark_value k n θ) (act_variable k rows a i) ∙ mark_value_polynomial k n θ (image k rows a i) (image_polynomial k rows a i) (image_in_variables k rows a n (omega arith) i h)
          ∙ sym (act_variable k rows a i) ∙ ap (act k rows a) (sym (mark_value_polynomial k n θ (variable_vector k i) (variable_polynomial k i) (variable_in_variables k i n h)))
      go (inr h) =
          let j = i - n in
          let is : n + j ≡ i = omega arith in
          let mark : mark_value k n θ (variable_vector k i) ≡ image_of (vector_ring k) θ j = ap (λ (m : ℕ). mark_value k n θ (variable_vector k m)) (sym is) ∙ mark_value_mark k n θ j in
          ap (mark_value k n θ) (act_variable k rows a i ∙ image_outside k rows a i (omega arith)) ∙ mark ∙ sym (mark_fixed j) ∙ ap (act k rows a) (sym mark)

  pub value_of_image : (u : Vect k) → mark_value k n θ (act k rows a u) ≡ act k rows a (mark_value k n θ u)
  value_of_image = substitution_unique k (vector_algebra k) (λ u. mark_value k n θ (act k rows a u)) (λ u. act k rows a (mark_value k n θ u))
      (homomorphism_after (vector_algebra k) (vector_algebra k) (vector_algebra k) (act k rows a) (mark_value k n θ) (act_homomorphism k rows a) (substitute_homomorphism k (variables k n ++ θ)))
      (homomorphism_after (vector_algebra k) (vector_algebra k) (vector_algebra k) (mark_value k n θ) (act k rows a) (substitute_homomorphism k (variables k n ++ θ)) (act_homomorphism k rows a))
      at_variable
      (ap (mark_value k n θ) (act_position k rows a) ∙ substitute_one k (variables k n ++ θ) ∙ sym (ap (act k rows a) (substitute_position k (variables k n ++ θ)) ∙ act_one k rows a))

  -- and what is a polynomial in them is fixed
  pub marks_fixed : (c : Vect k) → act k rows a (substitute k θ c) ≡ substitute k θ c
  marks_fixed = substitution_unique k (vector_algebra k) (λ u. act k rows a (substitute k θ u)) (substitute k θ)
      (homomorphism_after (vector_algebra k) (vector_algebra k) (vector_algebra k) (substitute k θ) (act k rows a) (substitute_homomorphism k θ) (act_homomorphism k rows a))
      (substitute_homomorphism k θ)
      (λ i. ap (act k rows a) (substitute_variable k θ i) ∙ mark_fixed i ∙ sym (substitute_variable k θ i))
      (ap (act k rows a) (substitute_position k θ) ∙ act_one k rows a ∙ sym (substitute_position k θ))
