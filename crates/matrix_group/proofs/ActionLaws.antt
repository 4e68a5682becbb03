-- Laws of the action.
use Rattle.matrix_group.proofs.Common.{◌≡◌, ℕ, zero, suc, ◌<◌, ◌≤◌, List, replicate, ◌⊎◌, inl, inr, cases_lt, sym, ap, ap₂, ◌∙◌, arith, Linear, Homomorphism, FieldOn, Scalar, scalars, scalar, Vect, vectors, plus, zero_vector, scale, polynomials, polynomial_algebra, product, one_vector, vector_ring, vector_algebra, homomorphism_after, IsPolynomial, InVariables, IsForm, image_of, variable_vector, position_vector, substitute, dot, linear_form, image, act}
use Rattle.alg_core.specs.ModuleLaws as modules
use Rattle.lin_algebra.specs.Matrices as matrices
use Rattle.matrix_group.proofs.FamilyLaws.{family_homomorphism, family_linear, family_variable, family_position, family_polynomial, family_in_variables, family_form, family_substitute, family_unique, family_fixed}
use Rattle.matrix_group.proofs.LinearForms.{variable_polynomial, variable_in_variables, variable_form, linear_form_polynomial, linear_form_in_variables, linear_form_form, linear_form_agree, linear_form_zero, linear_form_plus, linear_form_act, linear_form_unit, image_inside, image_outside, image_has}

module _ {E : Type 0} (k : FieldOn E) (n : ℕ) (a : ℕ → ℕ → Scalar k) where
  -- it keeps sums, multiples, products and 1
  pub act_homomorphism : Homomorphism (vector_algebra k) (vector_algebra k) (act k n a)
  unfolding act
  act_homomorphism = family_homomorphism k (image k n a)

  pub act_linear : Linear (vectors k) (vectors k) (act k n a)
  unfolding act
  act_linear = family_linear k (image k n a)

  pub act_plus : (u v : Vect k) → act k n a (plus k u v) ≡ plus k (act k n a u) (act k n a v)
  unfolding plus
  act_plus = act_linear.add

  pub act_zero : act k n a (zero_vector k) ≡ zero_vector k
  unfolding zero_vector
  act_zero = modules.linear_zero (vectors k) (vectors k) (act k n a) act_linear

  pub act_scale : (c : E) (u : Vect k) → act k n a (scale k c u) ≡ scale k c (act k n a u)
  unfolding scale
  act_scale c = act_linear.act (scalar k c)

  pub act_product : (u v : Vect k) → act k n a (product k u v) ≡ product k (act k n a u) (act k n a v)
  unfolding product polynomial_algebra polynomials
  act_product = act_homomorphism.mul

  pub act_one : act k n a (one_vector k) ≡ one_vector k
  unfolding one_vector polynomial_algebra polynomials
  act_one = act_homomorphism.one

  -- a variable goes to its image, and positions are forgotten
  pub act_variable : (i : ℕ) → act k n a (variable_vector k i) ≡ image k n a i
  unfolding act
  act_variable = family_variable k (image k n a)

  pub act_position : act k n a (position_vector k) ≡ one_vector k
  unfolding act
  act_position = family_position k (image k n a)

  -- the images of the variables
  pub image_polynomial : (i : ℕ) → IsPolynomial k (image k n a i)
  image_polynomial i = image_has k (IsPolynomial k) n a i (λ h. linear_form_polynomial k n (a i)) (λ h. variable_polynomial k i)

  pub image_in_variables : (w : ℕ) → n ≤ w → (i : ℕ) → i < w → InVariables k w (image k n a i)
  image_in_variables w le i l = image_has k (InVariables k w) n a i (λ h. linear_form_in_variables k n w le (a i)) (λ h. variable_in_variables k i w l)

  pub image_form : (w : ℕ) → n ≤ w → (i : ℕ) → i < w → IsForm k (replicate w 1) 1 (image k n a i)
  image_form w le i l = image_has k (IsForm k (replicate w 1) 1) n a i (λ h. linear_form_form k n w le (a i)) (λ h. variable_form k i w l)

  -- polynomials go to polynomials, in the same variables, and forms to forms of their degree
  pub act_polynomial : (u : Vect k) → IsPolynomial k (act k n a u)
  unfolding act
  act_polynomial = family_polynomial k (image k n a) image_polynomial

  pub act_in_variables : (w : ℕ) → n ≤ w → (u : Vect k) → InVariables k w u → InVariables k w (act k n a u)
  unfolding act
  act_in_variables w le = family_in_variables k (image k n a) w (image_in_variables w le)

  pub act_form : (w : ℕ) → n ≤ w → (d : ℕ) (u : Vect k) → InVariables k w u → IsForm k (replicate w 1) d u → IsForm k (replicate w 1) d (act k n a u)
  unfolding act
  act_form w le = family_form k (image k n a) w (image_form w le)

  -- a list of the images of the first w variables
  pub act_substitute : (w : ℕ) (xs : List (Vect k)) → ((i : ℕ) → i < w → image_of (vector_ring k) xs i ≡ image k n a i) → (u : Vect k) → InVariables k w u → act k n a u ≡ substitute k xs u
  unfolding act
  act_substitute w xs e = family_substitute k (image k n a) w xs (λ i l. sym (e i l))

  -- the identity leaves polynomials alone
  pub act_identity : matrices.IsIdentity (scalars k) n a → (u : Vect k) → IsPolynomial k u → act k n a u ≡ u
  unfolding act
  act_identity is = family_fixed k (image k n a) (λ i. go i (cases_lt i n))
    where
      go : (i : ℕ) → (i < n) ⊎ (n ≤ i) → image k n a i ≡ variable_vector k i
      go i (inl h) = image_inside k n a i h ∙ linear_form_agree k n (a i) _ (λ j l. is i j h l) ∙ linear_form_unit k n i h
      go i (inr h) = image_outside k n a i h

  -- the image of a linear form in the first n variables
  act_linear_form : (m : ℕ) → m ≤ n → (c : ℕ → Scalar k) → act k n a (linear_form k m c) ≡ linear_form k n (λ l. dot (scalars k) m c (λ j. a j l))
  unfolding plus zero_vector
  act_linear_form zero le c = act_zero ∙ sym (linear_form_zero k n)
  act_linear_form (suc m) le c = act_plus _ _
      ∙ ap₂ (plus k) (act_linear_form m (omega arith) c) (act_linear.act (c m) _ ∙ ap ((vectors k).◌·◌ (c m)) (act_variable m ∙ image_inside k n a m (omega arith)) ∙ sym (linear_form_act k n (c m) (a m)))
      ∙ sym (linear_form_plus k n (λ l. dot (scalars k) m c (λ j. a j l)) (λ l. (scalars k).◌*◌ (c m) (a m l)))

module _ {E : Type 0} (k : FieldOn E) (n : ℕ) (a b : ℕ → ℕ → Scalar k) where
  -- one matrix after another acts as their product
  pub act_act : (u : Vect k) → act k n b (act k n a u) ≡ act k n (matrices.product (scalars k) n a b) u
  unfolding act
  act_act = family_unique k (image k n (matrices.product (scalars k) n a b)) (λ u. act k n b (act k n a u))
      (homomorphism_after (vector_algebra k) (vector_algebra k) (vector_algebra k) (act k n a) (act k n b) (act_homomorphism k n a) (act_homomorphism k n b))
      (λ i. ap (act k n b) (act_variable k n a i) ∙ go i (cases_lt i n))
      (ap (act k n b) (act_position k n a) ∙ act_one k n b)
    where
      go : (i : ℕ) → (i < n) ⊎ (n ≤ i) → act k n b (image k n a i) ≡ image k n (matrices.product (scalars k) n a b) i
      go i (inl h) = ap (act k n b) (image_inside k n a i h) ∙ act_linear_form k n b n (omega arith) (a i) ∙ sym (image_inside k n (matrices.product (scalars k) n a b) i h)
      go i (inr h) = ap (act k n b) (image_outside k n a i h) ∙ act_variable k n b i ∙ image_outside k n b i h ∙ sym (image_outside k n (matrices.product (scalars k) n a b) i h)
