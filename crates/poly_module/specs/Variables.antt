-- Substitutions that agree on variables or leave them alone, and what the keys of a value are.
--
--   variables_from k i n   n variables, from the i-th on, as polynomials
--   variables k n          the first n variables
use Rattle.std.specs.Prelude.{◌≡◌, ℕ, zero, suc, ◌+◌, ◌<◌, ◌≤◌, List, [], ◌∷◌, length}
use Rattle.std.proofs.Common.{inl, inr}
use mathlib.Core.Path.{sym, ap, ap₂, ◌∙◌, refl, subst}
use native.Mathlib.Decide.{ℕ_discrete, dec_le}
use native.Mathlib.Omega.{arith}
use Rattle.alg_core.specs.Rings.{Ring, Linear}
use Rattle.alg_core.specs.Fields.{FieldOn}
use Rattle.alg_core.specs.ModuleLaws as modules
use Rattle.alg_core.specs.Monomials.{Mon, monomials, mono, mono_mon}
use Rattle.poly_module.specs.MonomialVariables.{after_zeros, variable, mono_after_zeros, mono_variable_power, mono_zeros, mono_zeros_nothing}
use Rattle.alg_core.specs.Keys.{keys}
use Rattle.alg_core.specs.Lists.{In}
pub use Rattle.alg_core.proofs.MonomialLists.{exponent_past, length_mon, length_mul, length_one}
use Rattle.alg_core.specs.Vectors.{Vect, vectors}
use Rattle.poly_module.specs.Polynomials.{polynomials, polynomial_algebra, single_vector, product, vector_ring}
use Rattle.poly_module.specs.Products.{one_vector_single, product_single, ring_product, ring_one}
use Rattle.poly_module.specs.Substitutions.{power, image, monomial_value, substitute, substitute_homomorphism, substitute_single, variable_vector}
use Rattle.poly_module.specs.Parts.{Supp, IsPolynomial, InVariables, supp_single, supp_product, linear_supp, linear_unique_supp}

module _ {S : Type 0} (Y : Ring S) where
  -- the same value, by the images of all variables
  power_product : (ℕ → S) → List ℕ → S
  power_product f [] = Y.one
  power_product f (e ∷ a) = Y.◌*◌ (power Y (f 0) e) (power_product (λ i. f (suc i)) a)

  power_product_ones : (a : List ℕ) → power_product (λ i. Y.one) a ≡ Y.one
  unfolding power_product
  power_product_ones [] = refl
  power_product_ones (e ∷ a) = ap₂ Y.◌*◌ (ones e) (power_product_ones a) ∙ Y.mul_one Y.one
    where
      ones : (e : ℕ) → power Y Y.one e ≡ Y.one
      ones zero = refl
      ones (suc e) = ap (Y.◌*◌ Y.one) (ones e) ∙ Y.mul_one Y.one

  power_product_agree : (f g : ℕ → S) (a : List ℕ) → ((i : ℕ) → i < length a → f i ≡ g i) → power_product f a ≡ power_product g a
  unfolding power_product
  power_product_agree f g [] e = refl
  power_product_agree f g (n ∷ a) e = ap₂ Y.◌*◌ (ap (λ x. power Y x n) (e 0 (omega arith))) (power_product_agree (λ i. f (suc i)) (λ i. g (suc i)) a (λ i h. e (suc i) (omega arith)))

  monomial_value_images : (xs : List S) (a : List ℕ) → monomial_value Y xs a ≡ power_product (image Y xs) a
  unfolding power_product
  monomial_value_images [] a = sym (power_product_ones a)
  monomial_value_images (x ∷ xs) [] = refl
  monomial_value_images (x ∷ xs) (e ∷ a) = ap (Y.◌*◌ (power Y x e)) (monomial_value_images xs a)

  -- it depends on the images of the variables that occur
  pub monomial_value_agree : (xs ys : List S) (a : List ℕ) → ((i : ℕ) → i < length a → image Y xs i ≡ image Y ys i) → monomial_value Y xs a ≡ monomial_value Y ys a
  monomial_value_agree xs ys a e = monomial_value_images xs a ∙ power_product_agree (image Y xs) (image Y ys) a e ∙ sym (monomial_value_images ys a)

  -- a property of 1 and of the images that products keep
  pub monomial_value_has : (P : S → Type 0) → P Y.one → ((x y : S) → P x → P y → P (Y.◌*◌ x y)) → (xs : List S) → ((x : S) → In x xs → P x) → (a : List ℕ) → P (monomial_value Y xs a)
  monomial_value_has P one mul [] h a = one
  monomial_value_has P one mul (x ∷ xs) h [] = one
  monomial_value_has P one mul (x ∷ xs) h (e ∷ a) = mul _ _ (powers e) (monomial_value_has P one mul xs (λ y i. h y (inr i)) a)
    where
      powers : (e : ℕ) → P (power Y x e)
      powers zero = one
      powers (suc e) = mul _ _ (h x (inl refl)) (powers e)

module _ {E : Type 0} (k : FieldOn E) where
  -- n variables, from the i-th on
  unfoldable pub variables_from : ℕ → ℕ → List (Vect k)
  variables_from i zero = []
  variables_from i (suc n) = variable_vector k i ∷ variables_from (suc i) n

  -- the first n variables
  unfoldable pub variables : ℕ → List (Vect k)
  variables n = variables_from 0 n

  -- a polynomial times a vector keeps positions; a product has the variables of both
  pub product_positions : (P : ℕ → Type 0) → ((q : ℕ) → Dec (P q)) → (f v : Vect k) → IsPolynomial k f → Supp k (λ t. P t.0) v → Supp k (λ t. P t.0) (product k f v)
  unfolding keys
  product_positions P test = supp_product k (λ t. t.0 ≡ 0) (λ t. P t.0) (λ t. P t.0) (λ t. test t.0) (λ s t p q. let e : t.0 ≡ s.0 + t.0 = omega arith in subst P e q)

  pub product_polynomial : (f g : Vect k) → IsPolynomial k f → IsPolynomial k g → IsPolynomial k (product k f g)
  product_polynomial = product_positions (λ q. q ≡ 0) (λ q. ℕ_discrete q 0)

  pub product_in_variables : (n : ℕ) (u v : Vect k) → InVariables k n u → InVariables k n v → InVariables k n (product k u v)
  unfolding keys
  product_in_variables n = supp_product k (λ t. length t.1.0 ≤ n) (λ t. length t.1.0 ≤ n) (λ t. length t.1.0 ≤ n) (λ t. dec_le (length t.1.0) n) (λ s t. length_mul n s.1 t.1)

  single_mul : (a b : Mon) → (vector_ring k).◌*◌ (single_vector k (0, a)) (single_vector k (0, b)) ≡ single_vector k (0, monomials.◌·◌ a b)
  unfolding keys
  single_mul a b = ring_product k _ _ ∙ product_single k (0, a) (0, b)

  single_one : (vector_ring k).one ≡ single_vector k (0, monomials.one)
  single_one = ring_one k ∙ one_vector_single k

  power_variable : (i n : ℕ) → power (vector_ring k) (variable_vector k i) n ≡ single_vector k (0, mono (after_zeros i (n ∷ [])))
  unfolding variable_vector
  power_variable i zero = single_one ∙ ap (λ m. single_vector k (0, m)) (sym (mono_zeros i))
  power_variable i (suc n) = ap ((vector_ring k).◌*◌ (variable_vector k i)) (power_variable i n) ∙ single_mul (variable i) _ ∙ ap (λ m. single_vector k (0, m)) (sym (mono_variable_power i n))

  -- a monomial at the variables is itself
  monomial_at_variables : (i n : ℕ) (a : List ℕ) → length a ≤ n → monomial_value (vector_ring k) (variables_from i n) a ≡ single_vector k (0, mono (after_zeros i a))
  unfolding variables_from
  monomial_at_variables i zero [] h = single_one ∙ ap (λ m. single_vector k (0, m)) (sym (mono_zeros_nothing i))
  monomial_at_variables i zero (x ∷ a) h = absurd (omega arith)
  monomial_at_variables i (suc n) [] h = single_one ∙ ap (λ m. single_vector k (0, m)) (sym (mono_zeros_nothing i))
  monomial_at_variables i (suc n) (x ∷ a) h = ap₂ (vector_ring k).◌*◌ (power_variable i x) (monomial_at_variables (suc i) n a (omega arith)) ∙ single_mul _ _ ∙ ap (λ m. single_vector k (0, m)) (sym (mono_after_zeros i x a))

  image_variables : (i n j : ℕ) → j < n → image (vector_ring k) (variables_from i n) j ≡ variable_vector k (i + j)
  unfolding variables_from
  image_variables i zero j h = absurd (omega arith)
  image_variables i (suc n) zero h = ap (variable_vector k) (omega arith)
  image_variables i (suc n) (suc j) h = image_variables (suc i) n j (omega arith) ∙ ap (variable_vector k) (omega arith)

  -- their images, and how many they are
  pub variables_image : (n i : ℕ) → i < n → image (vector_ring k) (variables n) i ≡ variable_vector k i
  unfolding variables
  variables_image n i h = image_variables 0 n i h ∙ ap (variable_vector k) (omega arith)

  pub length_variables_from : (i n : ℕ) → length (variables_from i n) ≡ n
  unfolding variables_from
  length_variables_from i zero = refl
  length_variables_from i (suc n) = ap suc (length_variables_from (suc i) n)

  pub length_variables : (n : ℕ) → length (variables n) ≡ n
  unfolding variables
  length_variables n = length_variables_from 0 n

  pub substitute_linear : (xs : List (Vect k)) → Linear (vectors k) (vectors k) (substitute k xs)
  unfolding polynomial_algebra polynomials
  substitute_linear xs = record { add = (substitute_homomorphism k xs).add; act = (substitute_homomorphism k xs).act }

  -- substitutions that agree on the first n variables agree on vectors in them
  pub substitute_agree : (n : ℕ) (xs ys : List (Vect k)) → ((i : ℕ) → i < n → image (vector_ring k) xs i ≡ image (vector_ring k) ys i) → (u : Vect k) → InVariables k n u → substitute k xs u ≡ substitute k ys u
  substitute_agree n xs ys e = linear_unique_supp k (vectors k) (substitute k xs) (substitute k ys) (substitute_linear xs) (substitute_linear ys) (λ t. length t.1.0 ≤ n)
      (λ t h. substitute_single k xs t ∙ monomial_value_agree (vector_ring k) xs ys t.1.0 (λ i l. e i (omega arith)) ∙ sym (substitute_single k ys t))

  -- the variables for themselves
  pub substitute_variables : (n : ℕ) (u : Vect k) → IsPolynomial k u → InVariables k n u → substitute k (variables n) u ≡ u
  unfolding variables after_zeros
  substitute_variables n u p v = linear_unique_supp k (vectors k) (substitute k (variables n)) (λ w. w) (substitute_linear (variables n)) (modules.linear_same (vectors k)) (λ t. (t.0 ≡ 0) × (length t.1.0 ≤ n))
      (λ t h. substitute_single k (variables n) t ∙ monomial_at_variables 0 n t.1.0 h.1 ∙ ap (single_vector k) (ap₂ (λ i m. (i, m)) (sym h.0) (mono_mon t.1))) u (λ t c. (p t c, v t c))

  -- a substitution that leaves the first n variables alone leaves polynomials in them alone
  pub substitute_fixed : (n : ℕ) (xs : List (Vect k)) → ((i : ℕ) → i < n → image (vector_ring k) xs i ≡ variable_vector k i) → (u : Vect k) → IsPolynomial k u → InVariables k n u → substitute k xs u ≡ u
  substitute_fixed n xs e u p v = substitute_agree n xs (variables n) (λ i h. e i h ∙ sym (variables_image n i h)) u v ∙ substitute_variables n u p v

  -- polynomials for the variables give polynomials
  pub substitute_polynomial : (xs : List (Vect k)) → ((x : Vect k) → In x xs → IsPolynomial k x) → (u : Vect k) → IsPolynomial k (substitute k xs u)
  substitute_polynomial xs h u = linear_supp k (substitute k xs) (substitute_linear xs) (λ t. Unit {0}) (λ t. t.0 ≡ 0) (λ t. ℕ_discrete t.0 0)
      (λ t q. subst (IsPolynomial k) (sym (substitute_single k xs t)) (monomial_value_has (vector_ring k) (IsPolynomial k) one mul xs h t.1.0)) u (λ t c. tt)
    where
      one : IsPolynomial k (vector_ring k).one
      one = subst (IsPolynomial k) (sym single_one) (supp_single k (λ t. t.0 ≡ 0) (0, monomials.one) refl)

      mul : (x y : Vect k) → IsPolynomial k x → IsPolynomial k y → IsPolynomial k ((vector_ring k).◌*◌ x y)
      mul x y p q = subst (IsPolynomial k) (sym (ring_product k x y)) (product_polynomial x y p q)

  -- images in n variables give values in n variables
  pub substitute_in_variables : (n : ℕ) (xs : List (Vect k)) → ((x : Vect k) → In x xs → InVariables k n x) → (u : Vect k) → InVariables k n (substitute k xs u)
  substitute_in_variables n xs h u = linear_supp k (substitute k xs) (substitute_linear xs) (λ t. Unit {0}) (λ t. length t.1.0 ≤ n) (λ t. dec_le (length t.1.0) n)
      (λ t q. subst (InVariables k n) (sym (substitute_single k xs t)) (monomial_value_has (vector_ring k) (InVariables k n) one mul xs h t.1.0)) u (λ t c. tt)
    where
      one : InVariables k n (vector_ring k).one
      one = subst (InVariables k n) (sym single_one) (supp_single k (λ t. length t.1.0 ≤ n) (0, monomials.one) (length_one n))

      mul : (x y : Vect k) → InVariables k n x → InVariables k n y → InVariables k n ((vector_ring k).◌*◌ x y)
      mul x y p q = subst (InVariables k n) (sym (ring_product k x y)) (product_in_variables n x y p q)
