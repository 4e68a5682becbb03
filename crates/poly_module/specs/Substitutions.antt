-- Substitution: polynomials for the variables. The position of a key counts for nothing: its value is 1.
--
--   power Y x n                 the n-th power of x in the ring Y
--   image Y xs i                the image of variable i: the i-th of xs, from 0, and 1 past its end
--   monomial_value Y xs a       the product of the powers of the images xs to the exponents a
--   variable_vector k i         variable i as a polynomial
--   position_vector k           the vector 1 at position 1, which moves positions up by one
--   substitution k Y xs u       the value of u in the algebra Y, where the variables have the images xs
--   substitute k xs u           the value of the vector u over k, where the variables have the images xs
use Rattle.std.specs.Prelude.{◌≡◌, ℕ, zero, suc, ◌+◌, List, [], ◌∷◌, map}
use mathlib.Core.Path.{sym, ap, ap₂, ◌∙◌, refl, fun_ext}
use native.Mathlib.Nat.{suc-add}
use native.Mathlib.Omega.{arith}
use Rattle.alg_core.specs.Rings.{Ring, Algebra, Homomorphism, Multiplicative}
use Rattle.alg_core.specs.RingLaws as rings
use Rattle.alg_core.specs.ModuleLaws as modules
use Rattle.alg_core.specs.Fields.{FieldOn, scalars, scalar}
use Rattle.alg_core.specs.Monomials.{Mon, monomials, mono, exponent, added, exponent_added, exponent_mul, exponent_mono, exponent_one}
use Rattle.alg_core.specs.Keys.{Key, key_same, keys}
use Rattle.alg_core.specs.Vectors.{Vect, plus, zero_vector, scale}
use Rattle.poly_module.specs.MonomialVariables.{variable, after_zeros, multiplicative_unique}
use Rattle.poly_module.specs.Polynomials.{polynomials, polynomial_algebra, single_vector, one_vector, product, vector_ring, vector_algebra}
use Rattle.poly_module.specs.Values.{module_of, value, value_single, value_homomorphism, homomorphism_linear, homomorphism_unique, homomorphism_multiplicative, value_after}

module _ {S : Type 0} (Y : Ring S) where
  -- the n-th power
  abbrev pub power : S → ℕ → S
  power x zero = Y.one
  power x (suc n) = Y.◌*◌ x (power x n)

  -- the image of a variable: 1 past the end of the list
  abbrev pub image : List S → ℕ → S
  image [] i = Y.one
  image (x ∷ xs) zero = x
  image (x ∷ xs) (suc i) = image xs i

  -- the product of the powers of the images
  abbrev pub monomial_value : List S → List ℕ → S
  monomial_value [] a = Y.one
  monomial_value (x ∷ xs) [] = Y.one
  monomial_value (x ∷ xs) (e ∷ a) = Y.◌*◌ (power x e) (monomial_value xs a)

  pub power_add : (x : S) (m n : ℕ) → power x (m + n) ≡ Y.◌*◌ (power x m) (power x n)
  power_add x zero n = ap (power x) (omega arith) ∙ sym (rings.one_mul Y _)
  power_add x (suc m) n = ap (power x) (suc-add m n) ∙ ap (Y.◌*◌ x) (power_add x m n) ∙ sym (Y.mul_assoc _ _ _)

  pub power_mul : (x y : S) (n : ℕ) → power (Y.◌*◌ x y) n ≡ Y.◌*◌ (power x n) (power y n)
  power_mul x y zero = sym (Y.mul_one Y.one)
  power_mul x y (suc n) = ap (Y.◌*◌ (Y.◌*◌ x y)) (power_mul x y n) ∙ rings.mul_swap Y _ _ _ _

  pub monomial_value_nothing : (xs : List S) → monomial_value xs [] ≡ Y.one
  monomial_value_nothing [] = refl
  monomial_value_nothing (x ∷ xs) = refl

  monomial_value_added : (xs : List S) (a b : List ℕ) → monomial_value xs (added a b) ≡ Y.◌*◌ (monomial_value xs a) (monomial_value xs b)
  unfolding added
  monomial_value_added [] a b = sym (Y.mul_one Y.one)
  monomial_value_added (x ∷ xs) [] b = sym (rings.one_mul Y _)
  monomial_value_added (x ∷ xs) (y ∷ a) [] = sym (Y.mul_one _)
  monomial_value_added (x ∷ xs) (y ∷ a) (z ∷ b) = ap₂ Y.◌*◌ (power_add x y z) (monomial_value_added xs a b) ∙ rings.mul_swap Y _ _ _ _

  -- it depends on the exponents alone
  pub monomial_value_ext : (xs : List S) (a b : List ℕ) → ((i : ℕ) → exponent a i ≡ exponent b i) → monomial_value xs a ≡ monomial_value xs b
  monomial_value_ext [] a b e = refl
  monomial_value_ext (x ∷ xs) [] [] e = refl
  monomial_value_ext (x ∷ xs) [] (z ∷ b) e = sym (rings.one_mul Y Y.one) ∙ ap₂ Y.◌*◌ (ap (power x) (e 0)) (sym (monomial_value_nothing xs) ∙ monomial_value_ext xs [] b (λ i. e (suc i)))
  monomial_value_ext (x ∷ xs) (y ∷ a) [] e = ap₂ Y.◌*◌ (ap (power x) (e 0)) (monomial_value_ext xs a [] (λ i. e (suc i)) ∙ monomial_value_nothing xs) ∙ rings.one_mul Y Y.one
  monomial_value_ext (x ∷ xs) (y ∷ a) (z ∷ b) e = ap₂ Y.◌*◌ (ap (power x) (e 0)) (monomial_value_ext xs a b (λ i. e (suc i)))

  pub monomial_value_mul : (xs : List S) (a b : Mon) → monomial_value xs (monomials.◌·◌ a b).0 ≡ Y.◌*◌ (monomial_value xs a.0) (monomial_value xs b.0)
  monomial_value_mul xs a b = monomial_value_ext xs _ (added a.0 b.0) (λ i. exponent_mul a b i ∙ sym (exponent_added a.0 b.0 i)) ∙ monomial_value_added xs a.0 b.0

  pub monomial_value_one : (xs : List S) → monomial_value xs monomials.one.0 ≡ Y.one
  monomial_value_one xs = monomial_value_ext xs monomials.one.0 [] (λ i. exponent_one i) ∙ monomial_value_nothing xs

  pub monomial_value_mono : (xs : List S) (a : List ℕ) → monomial_value xs (mono a).0 ≡ monomial_value xs a
  monomial_value_mono xs a = monomial_value_ext xs _ a (exponent_mono a)

module _ {S : Type 0} (Y : Ring S) where
  -- the value of a variable is its image
  pub monomial_value_variable : (xs : List S) (i : ℕ) → monomial_value Y xs (variable i).0 ≡ image Y xs i
  unfolding variable after_zeros
  monomial_value_variable xs i = monomial_value_mono Y xs (after_zeros i (1 ∷ [])) ∙ go xs i
    where
      go : (xs : List S) (i : ℕ) → monomial_value Y xs (after_zeros i (1 ∷ [])) ≡ image Y xs i
      go [] i = refl
      go (x ∷ xs) zero = ap₂ Y.◌*◌ (Y.mul_one x) (monomial_value_nothing Y xs) ∙ Y.mul_one x
      go (x ∷ xs) (suc i) = rings.one_mul Y _ ∙ go xs i

module _ {K S S' : Type 0} {R : Ring K} (Y : Algebra R S) (Z : Algebra R S') (φ : S → S') (h : Homomorphism Y Z φ) where
  pub homomorphism_power : (x : S) (n : ℕ) → φ (power Y.ring x n) ≡ power Z.ring (φ x) n
  homomorphism_power x zero = h.one
  homomorphism_power x (suc n) = h.mul _ _ ∙ ap (Z.ring.◌*◌ (φ x)) (homomorphism_power x n)

  pub homomorphism_monomial : (xs : List S) (a : List ℕ) → φ (monomial_value Y.ring xs a) ≡ monomial_value Z.ring (map φ xs) a
  homomorphism_monomial [] a = h.one
  homomorphism_monomial (x ∷ xs) [] = h.one
  homomorphism_monomial (x ∷ xs) (e ∷ a) = h.mul _ _ ∙ ap₂ Z.ring.◌*◌ (homomorphism_power x e) (homomorphism_monomial xs a)

module _ {E : Type 0} (k : FieldOn E) where
  -- a variable as a polynomial
  unfoldable pub variable_vector : ℕ → Vect k
  variable_vector i = single_vector k (0, variable i)

  -- 1 at position 1
  unfoldable pub position_vector : Vect k
  position_vector = single_vector k (1, monomials.one)

  module _ {S : Type 0} (Y : Algebra (scalars k) S) where
    -- the value of a key: its position counts for nothing
    abbrev pub key_value : List S → Key → S
    key_value xs t = monomial_value Y.ring xs t.1.0

    pub key_value_multiplicative : (xs : List S) → Multiplicative keys Y (key_value xs)
    unfolding keys
    key_value_multiplicative xs = record { mul = λ s t. monomial_value_mul Y.ring xs s.1 t.1; one = monomial_value_one Y.ring xs }

    -- the value where the variables have these images
    unfoldable pub substitution : List S → Vect k → S
    substitution xs = value (scalars k) key_same keys Y (key_value xs)

    pub substitution_homomorphism : (xs : List S) → Homomorphism (vector_algebra k) Y (substitution xs)
    unfolding substitution
    substitution_homomorphism xs = value_homomorphism (scalars k) key_same keys Y (key_value xs) (key_value_multiplicative xs)

    pub substitution_single : (xs : List S) (t : Key) → substitution xs (single_vector k t) ≡ monomial_value Y.ring xs t.1.0
    unfolding substitution single_vector
    substitution_single xs t = value_single (scalars k) key_same keys Y (key_value xs) t

    pub substitution_variable : (xs : List S) (i : ℕ) → substitution xs (variable_vector i) ≡ image Y.ring xs i
    unfolding variable_vector
    substitution_variable xs i = substitution_single xs (0, variable i) ∙ monomial_value_variable Y.ring xs i

    pub substitution_position : (xs : List S) → substitution xs position_vector ≡ Y.ring.one
    unfolding position_vector
    substitution_position xs = substitution_single xs (1, monomials.one) ∙ monomial_value_one Y.ring xs

    module _ (f g : Vect k → S) (hf : Homomorphism (vector_algebra k) Y f) (hg : Homomorphism (vector_algebra k) Y g) (e : (i : ℕ) → f (variable_vector i) ≡ g (variable_vector i)) where
      -- homomorphisms that agree on the variables agree on the monomials at position 0
      pub variables_tell : (m : Mon) → f (single_vector k (0, m)) ≡ g (single_vector k (0, m))
      unfolding variable_vector keys single_vector
      variables_tell = multiplicative_unique Y (λ m. f (single_vector k (0, m))) (λ m. g (single_vector k (0, m))) (at_zero f hf) (at_zero g hg) e
        where
          at_zero : (f : Vect k → S) → Homomorphism (vector_algebra k) Y f → Multiplicative monomials Y (λ m. f (single_vector k (0, m)))
          at_zero f h = let all = homomorphism_multiplicative (scalars k) key_same keys Y f h in record { mul = λ a b. all.mul (0, a) (0, b); one = all.one }

      -- and everywhere, where they agree at position 1 too
      pub substitution_unique : f position_vector ≡ g position_vector → (u : Vect k) → f u ≡ g u
      unfolding position_vector single_vector keys
      substitution_unique p = homomorphism_unique (scalars k) key_same keys Y f g hf hg (λ t. at t.0 t.1)
        where
          step : (f : Vect k → S) → Homomorphism (vector_algebra k) Y f → (q : ℕ) (m : Mon) → f (single_vector k (suc q, m)) ≡ Y.ring.◌*◌ (f (single_vector k (1, monomials.one))) (f (single_vector k (q, m)))
          step f h q m = ap (λ t. f (single_vector k t)) (ap₂ (λ i a. (i, a)) (omega arith) (sym (monomials.comm monomials.one m ∙ monomials.mul_one m))) ∙ (homomorphism_multiplicative (scalars k) key_same keys Y f h).mul (1, monomials.one) (q, m)

          at : (q : ℕ) (m : Mon) → f (single_vector k (q, m)) ≡ g (single_vector k (q, m))
          at zero m = variables_tell m
          at (suc q) m = step f hf q m ∙ ap₂ Y.ring.◌*◌ p (at q m) ∙ sym (step g hg q m)

  module _ {S S' : Type 0} (Y : Algebra (scalars k) S) (Z : Algebra (scalars k) S') (φ : S → S') (h : Homomorphism Y Z φ) where
    -- a homomorphism after a substitution substitutes the images of the images
    pub substitution_after : (xs : List S) (u : Vect k) → φ (substitution Y xs u) ≡ substitution Z (map φ xs) u
    unfolding substitution
    substitution_after xs u = value_after (scalars k) key_same keys Y Z (key_value Y xs) φ (key_value_multiplicative Y xs) h u ∙ ap (λ f. value (scalars k) key_same keys Z f u) (fun_ext (λ t. homomorphism_monomial Y Z φ h xs t.1.0))

  -- vectors for the variables
  unfoldable pub substitute : List (Vect k) → Vect k → Vect k
  substitute xs = substitution (vector_algebra k) xs

  pub substitute_homomorphism : (xs : List (Vect k)) → Homomorphism (vector_algebra k) (vector_algebra k) (substitute xs)
  unfolding substitute
  substitute_homomorphism xs = substitution_homomorphism (vector_algebra k) xs

  pub substitute_plus : (xs : List (Vect k)) (u v : Vect k) → substitute xs (plus k u v) ≡ plus k (substitute xs u) (substitute xs v)
  unfolding plus polynomial_algebra polynomials
  substitute_plus xs = (substitute_homomorphism xs).add

  pub substitute_scale : (xs : List (Vect k)) (c : E) (u : Vect k) → substitute xs (scale k c u) ≡ scale k c (substitute xs u)
  unfolding scale polynomial_algebra polynomials
  substitute_scale xs c = (substitute_homomorphism xs).act (scalar k c)

  pub substitute_product : (xs : List (Vect k)) (u v : Vect k) → substitute xs (product k u v) ≡ product k (substitute xs u) (substitute xs v)
  unfolding product polynomial_algebra polynomials
  substitute_product xs = (substitute_homomorphism xs).mul

  pub substitute_one : (xs : List (Vect k)) → substitute xs (one_vector k) ≡ one_vector k
  unfolding one_vector polynomial_algebra polynomials
  substitute_one xs = (substitute_homomorphism xs).one

  pub substitute_zero : (xs : List (Vect k)) → substitute xs (zero_vector k) ≡ zero_vector k
  unfolding zero_vector module_of polynomial_algebra polynomials
  substitute_zero xs = modules.linear_zero (module_of (vector_algebra k)) (module_of (vector_algebra k)) (substitute xs) (homomorphism_linear (vector_algebra k) (vector_algebra k) (substitute xs) (substitute_homomorphism xs))

  pub substitute_single : (xs : List (Vect k)) (t : Key) → substitute xs (single_vector k t) ≡ monomial_value (vector_ring k) xs t.1.0
  unfolding substitute polynomial_algebra
  substitute_single xs t = substitution_single (vector_algebra k) xs t

  pub substitute_variable : (xs : List (Vect k)) (i : ℕ) → substitute xs (variable_vector i) ≡ image (vector_ring k) xs i
  unfolding substitute polynomial_algebra
  substitute_variable xs i = substitution_variable (vector_algebra k) xs i

  pub substitute_position : (xs : List (Vect k)) → substitute xs position_vector ≡ one_vector k
  unfolding substitute polynomial_algebra one_vector polynomials
  substitute_position xs = substitution_position (vector_algebra k) xs

  -- one substitution after another
  pub substitute_substitute : (ys xs : List (Vect k)) (u : Vect k) → substitute ys (substitute xs u) ≡ substitute (map (substitute ys) xs) u
  unfolding substitute
  substitute_substitute ys xs u = substitution_after (vector_algebra k) (vector_algebra k) (substitute ys) (substitute_homomorphism ys) xs u

  -- it is the one homomorphism with these values
  pub substitute_unique : (xs : List (Vect k)) (f : Vect k → Vect k) → Homomorphism (vector_algebra k) (vector_algebra k) f
      → ((i : ℕ) → f (variable_vector i) ≡ image (vector_ring k) xs i) → f position_vector ≡ one_vector k → (u : Vect k) → f u ≡ substitute xs u
  substitute_unique xs f h e p = substitution_unique (vector_algebra k) f (substitute xs) h (substitute_homomorphism xs) (λ i. e i ∙ sym (substitute_variable xs i)) (p ∙ sym (substitute_position xs))
