-- The value of a polynomial where each variable has a value: the one homomorphism with these values.
use Rattle.matrix_group.proofs.Common.{◌≡◌, ℕ, zero, suc, ◌+◌, ◌<◌, ◌≤◌, List, [], ◌∷◌, length, replicate, sym, ap, ap₂, ◌∙◌, refl, subst, ℕ_discrete, dec_le, arith, Ring, Linear, Homomorphism, Multiplicative, FieldOn, scalars, Mon, monomials, exponent, added, exponent_added, exponent_mul, exponent_mono, exponent_one, Key, key_same, keys, Vect, vectors, weight, variable, after_zeros, polynomials, polynomial_algebra, single_vector, one_vector, product, vector_ring, vector_algebra, value_single, value_homomorphism, power, power_add, monomial_value, substitute, substitute_single, variable_vector, position_vector, substitution_unique, variables_tell, substitute_linear, product_polynomial, product_in_variables, length_one, IsForm, OfDegree, of_degree, form_one, form_product, form_power, total, Supp, IsPolynomial, InVariables, supp_single, linear_supp, linear_unique_supp, power_product, family_value}
use Rattle.poly_module.specs.Products.{one_vector_single, ring_product, ring_one}
use Rattle.poly_module.specs.Substitutions.{image}
use Rattle.alg_core.specs.RingLaws as rings
use Rattle.alg_core.specs.ModuleLaws as modules

module _ {S : Type 0} (Y : Ring S) where
  power_product_added : (f : ℕ → S) (a b : List ℕ) → power_product Y f (added a b) ≡ Y.◌*◌ (power_product Y f a) (power_product Y f b)
  unfolding added
  power_product_added f [] b = sym (rings.one_mul Y _)
  power_product_added f (y ∷ a) [] = sym (Y.mul_one _)
  power_product_added f (y ∷ a) (z ∷ b) = ap₂ Y.◌*◌ (power_add Y (f 0) y z) (power_product_added (λ i. f (suc i)) a b) ∙ rings.mul_swap Y _ _ _ _

  -- it depends on the exponents alone
  pub power_product_ext : (f : ℕ → S) (a b : List ℕ) → ((i : ℕ) → exponent a i ≡ exponent b i) → power_product Y f a ≡ power_product Y f b
  power_product_ext f [] [] e = refl
  power_product_ext f [] (z ∷ b) e = sym (rings.one_mul Y Y.one) ∙ ap₂ Y.◌*◌ (ap (power Y (f 0)) (e 0)) (power_product_ext (λ i. f (suc i)) [] b (λ i. e (suc i)))
  power_product_ext f (y ∷ a) [] e = ap₂ Y.◌*◌ (ap (power Y (f 0)) (e 0)) (power_product_ext (λ i. f (suc i)) a [] (λ i. e (suc i))) ∙ rings.one_mul Y Y.one
  power_product_ext f (y ∷ a) (z ∷ b) e = ap₂ Y.◌*◌ (ap (power Y (f 0)) (e 0)) (power_product_ext (λ i. f (suc i)) a b (λ i. e (suc i)))

  pub power_product_mul : (f : ℕ → S) (a b : Mon) → power_product Y f (monomials.◌·◌ a b).0 ≡ Y.◌*◌ (power_product Y f a.0) (power_product Y f b.0)
  power_product_mul f a b = power_product_ext f _ (added a.0 b.0) (λ i. exponent_mul a b i ∙ sym (exponent_added a.0 b.0 i)) ∙ power_product_added f a.0 b.0

  pub power_product_one : (f : ℕ → S) → power_product Y f monomials.one.0 ≡ Y.one
  power_product_one f = power_product_ext f monomials.one.0 [] (λ i. exponent_one i)

  -- at a variable it is the value of the variable
  pub power_product_variable : (f : ℕ → S) (i : ℕ) → power_product Y f (variable i).0 ≡ f i
  unfolding variable after_zeros
  power_product_variable f i = power_product_ext f _ (after_zeros i (1 ∷ [])) (exponent_mono (after_zeros i (1 ∷ []))) ∙ go f i
    where
      go : (f : ℕ → S) (i : ℕ) → power_product Y f (after_zeros i (1 ∷ [])) ≡ f i
      go f zero = ap (λ x. Y.◌*◌ x Y.one) (Y.mul_one (f 0)) ∙ Y.mul_one (f 0)
      go f (suc i) = rings.one_mul Y _ ∙ go (λ j. f (suc j)) i

  -- it depends on the values of the variables that occur
  pub power_product_agree : (f g : ℕ → S) (a : List ℕ) → ((i : ℕ) → i < length a → f i ≡ g i) → power_product Y f a ≡ power_product Y g a
  power_product_agree f g [] e = refl
  power_product_agree f g (n ∷ a) e = ap₂ Y.◌*◌ (ap (λ x. power Y x n) (e 0 (omega arith))) (power_product_agree (λ i. f (suc i)) (λ i. g (suc i)) a (λ i h. e (suc i) (omega arith)))

  power_product_ones : (a : List ℕ) → power_product Y (λ i. Y.one) a ≡ Y.one
  power_product_ones [] = refl
  power_product_ones (e ∷ a) = ap₂ Y.◌*◌ (ones e) (power_product_ones a) ∙ Y.mul_one Y.one
    where
      ones : (e : ℕ) → power Y Y.one e ≡ Y.one
      ones zero = refl
      ones (suc e) = ap (Y.◌*◌ Y.one) (ones e) ∙ Y.mul_one Y.one

  -- the values of a list
  pub power_product_images : (xs : List S) (a : List ℕ) → monomial_value Y xs a ≡ power_product Y (image Y xs) a
  power_product_images [] a = sym (power_product_ones a)
  power_product_images (x ∷ xs) [] = refl
  power_product_images (x ∷ xs) (e ∷ a) = ap (Y.◌*◌ (power Y x e)) (power_product_images xs a)

  -- a property of 1 and of the values that products keep
  pub power_product_has : (P : S → Type 0) → P Y.one → ((x y : S) → P x → P y → P (Y.◌*◌ x y)) → (f : ℕ → S) (a : List ℕ) → ((i : ℕ) → i < length a → P (f i)) → P (power_product Y f a)
  power_product_has P one mul f [] h = one
  power_product_has P one mul f (e ∷ a) h = mul _ _ (powers e) (power_product_has P one mul (λ i. f (suc i)) a (λ i l. h (suc i) (omega arith)))
    where
      powers : (e : ℕ) → P (power Y (f 0) e)
      powers zero = one
      powers (suc e) = mul _ _ (h 0 (omega arith)) (powers e)

-- where each variable has the weight 1, the weight is the degree
pub weight_ones : (w i : ℕ) (a : List ℕ) → length a ≤ w → weight (replicate w 1) i a ≡ total a
unfolding weight
weight_ones zero i [] h = refl
weight_ones (suc w) i [] h = refl
weight_ones zero i (x ∷ a) h = absurd (omega arith)
weight_ones (suc w) i (x ∷ a) h = let r = weight_ones w (suc i) a (omega arith) in omega arith

module _ {E : Type 0} (k : FieldOn E) (f : ℕ → Vect k) where
  multiplicative : Multiplicative keys (vector_algebra k) (λ t. power_product (vector_ring k) f t.1.0)
  unfolding keys polynomial_algebra
  multiplicative = record { mul = λ s t. power_product_mul (vector_ring k) f s.1 t.1; one = power_product_one (vector_ring k) f }

  -- it keeps sums, multiples, products and 1
  pub family_homomorphism : Homomorphism (vector_algebra k) (vector_algebra k) (family_value k f)
  unfolding family_value
  family_homomorphism = value_homomorphism (scalars k) key_same keys (vector_algebra k) _ multiplicative

  pub family_linear : Linear (vectors k) (vectors k) (family_value k f)
  unfolding polynomial_algebra polynomials
  family_linear = record { add = family_homomorphism.add; act = family_homomorphism.act }

  pub family_single : (t : Key) → family_value k f (single_vector k t) ≡ power_product (vector_ring k) f t.1.0
  unfolding family_value single_vector
  family_single t = value_single (scalars k) key_same keys (vector_algebra k) _ t

  pub family_variable : (i : ℕ) → family_value k f (variable_vector k i) ≡ f i
  unfolding variable_vector
  family_variable i = family_single (0, variable i) ∙ power_product_variable (vector_ring k) f i

  pub family_position : family_value k f (position_vector k) ≡ one_vector k
  unfolding position_vector
  family_position = family_single (1, monomials.one) ∙ power_product_one (vector_ring k) f ∙ ring_one k

  -- the keys of a value, by those of the values of the variables that occur
  family_supp : (Q P : Key → Type 0) → ((t : Key) → Dec (P t)) → Supp k P (one_vector k) → ((u v : Vect k) → Supp k P u → Supp k P v → Supp k P (product k u v))
      → ((t : Key) → Q t → (i : ℕ) → i < length t.1.0 → Supp k P (f i)) → (u : Vect k) → Supp k Q u → Supp k P (family_value k f u)
  family_supp Q P test one mul each = linear_supp k (family_value k f) family_linear Q P test
      (λ t q. subst (Supp k P) (sym (family_single t)) (power_product_has (vector_ring k) (Supp k P) (subst (Supp k P) (sym (ring_one k)) one)
      (λ x y p r. subst (Supp k P) (sym (ring_product k x y)) (mul x y p r)) f t.1.0 (each t q)))

  -- polynomials for the variables give polynomials
  pub family_polynomial : ((i : ℕ) → IsPolynomial k (f i)) → (u : Vect k) → IsPolynomial k (family_value k f u)
  family_polynomial h u = family_supp (λ t. Unit {0}) (λ t. t.0 ≡ 0) (λ t. ℕ_discrete t.0 0)
      (subst (IsPolynomial k) (sym (one_vector_single k)) (supp_single k (λ t. t.0 ≡ 0) (0, monomials.one) refl)) (product_polynomial k) (λ t q i l. h i) u (λ t c. tt)

  -- in w variables, where the values of these are
  pub family_in_variables : (w : ℕ) → ((i : ℕ) → i < w → InVariables k w (f i)) → (u : Vect k) → InVariables k w u → InVariables k w (family_value k f u)
  family_in_variables w h u v = family_supp (λ t. length t.1.0 ≤ w) (λ t. length t.1.0 ≤ w) (λ t. dec_le (length t.1.0) w)
      (subst (InVariables k w) (sym (one_vector_single k)) (supp_single k (λ t. length t.1.0 ≤ w) (0, monomials.one) (length_one w))) (product_in_variables k w)
      (λ t q i l. h i (omega arith)) u v

  -- forms of degree 1 for the variables keep the degree
  pub family_form : (w : ℕ) → ((i : ℕ) → i < w → IsForm k (replicate w 1) 1 (f i)) → (d : ℕ) (u : Vect k) → InVariables k w u → IsForm k (replicate w 1) d u → IsForm k (replicate w 1) d (family_value k f u)
  family_form w h d u v g = linear_supp k (family_value k f) family_linear (λ t. OfDegree k ws d t × (length t.1.0 ≤ w)) (OfDegree k ws d) (of_degree k ws d)
      (λ t q. subst (IsForm k ws d) (sym (family_single t)) (subst (λ e. IsForm k ws e (power_product (vector_ring k) f t.1.0)) (sym (weight_ones w 0 t.1.0 q.1) ∙ q.0.1)
      (powers f t.1.0 (λ i l. let le = q.1 in h i (omega arith))))) u (λ t c. (g t c, v t c))
    where
      ws : List ℕ
      ws = replicate w 1

      powers : (f : ℕ → Vect k) (a : List ℕ) → ((i : ℕ) → i < length a → IsForm k ws 1 (f i)) → IsForm k ws (total a) (power_product (vector_ring k) f a)
      powers f [] h = subst (IsForm k ws 0) (sym (ring_one k)) (form_one k ws)
      powers f (x ∷ a) h = subst (IsForm k ws (x + total a)) (sym (ring_product k _ _)) (form_product k ws x (total a) _ _ (subst (λ e. IsForm k ws e (power (vector_ring k) (f 0) x)) (omega arith) (form_power k ws 1 (f 0) (h 0 (omega arith)) x))
          (powers (λ i. f (suc i)) a (λ i l. h (suc i) (omega arith))))

  -- a list with the values of the first w variables gives the same for what is in them
  pub family_substitute : (w : ℕ) (xs : List (Vect k)) → ((i : ℕ) → i < w → f i ≡ image (vector_ring k) xs i) → (u : Vect k) → InVariables k w u → family_value k f u ≡ substitute k xs u
  family_substitute w xs e = linear_unique_supp k (vectors k) (family_value k f) (substitute k xs) family_linear (substitute_linear k xs) (λ t. length t.1.0 ≤ w)
      (λ t h. family_single t ∙ power_product_agree (vector_ring k) f (image (vector_ring k) xs) t.1.0 (λ i l. e i (omega arith)) ∙ sym (power_product_images (vector_ring k) xs t.1.0) ∙ sym (substitute_single k xs t))

  -- a homomorphism with these values that forgets positions is this one
  pub family_unique : (φ : Vect k → Vect k) → Homomorphism (vector_algebra k) (vector_algebra k) φ → ((i : ℕ) → φ (variable_vector k i) ≡ f i) → φ (position_vector k) ≡ one_vector k → (u : Vect k) → φ u ≡ family_value k f u
  family_unique φ h e p = substitution_unique k (vector_algebra k) φ (family_value k f) h family_homomorphism (λ i. e i ∙ sym (family_variable i)) (p ∙ sym family_position)

  -- it leaves polynomials alone where it leaves the variables alone
  pub family_fixed : ((i : ℕ) → f i ≡ variable_vector k i) → (u : Vect k) → IsPolynomial k u → family_value k f u ≡ u
  family_fixed e = linear_unique_supp k (vectors k) (family_value k f) (λ u. u) family_linear (modules.linear_same (vectors k)) (λ t. t.0 ≡ 0) (λ t z. subst (λ s. family_value k f (single_vector k s) ≡ single_vector k s) (at t z) (single t.1))
    where
      same : Homomorphism (vector_algebra k) (vector_algebra k) (λ u. u)
      same = record { add = λ x y. refl; act = λ c x. refl; mul = λ x y. refl; one = refl }

      single : (m : Mon) → family_value k f (single_vector k (0, m)) ≡ single_vector k (0, m)
      single = variables_tell k (vector_algebra k) (family_value k f) (λ u. u) family_homomorphism same (λ i. family_variable i ∙ e i)

      at : (t : Key) → t.0 ≡ 0 → ◌≡◌ {A = Key} (0, t.1) t
      at t z = ap (λ q. (q, t.1)) (sym z)
