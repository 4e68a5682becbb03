-- A finite field on those values of a type that it has, and its ring of scalars.
--
--   FieldOn E            operations on a type E, with the laws of a finite field on the values that `has` accepts
--   sum_of_ones add nought one n   the sum of n ones
--   Has k a              the field has the value a
--   ones k n             the sum of n ones in the field
--   Exact eq             a test that tells values apart
--   Scalar k             the values that the field has
--   scalars k            the scalars as a ring
--   is_field k           that ring is a field
--   scalar k a           the value a as a scalar: 0 where the field does not have it
use Rattle.std.specs.Prelude.{◌≡◌, ◌≢◌, ℕ, zero, suc, ◌<◌, Bool, true, false}
use mathlib.Core.Path.{sym, ap, ap₂, ◌∙◌, refl}
use mathlib.Core.Bool.{Bool-set}
use mathlib.Core.HLevel.{Σ_prop_path, hedberg}
use Rattle.alg_core.specs.Rings.{Ring, IsField}
use Rattle.alg_core.specs.RingLaws as rings

-- the sum of n ones
abbrev pub sum_of_ones : {E : Type 0} → (E → E → E) → E → E → ℕ → E
sum_of_ones add nought one zero = nought
sum_of_ones add nought one (suc n) = add one (sum_of_ones add nought one n)

-- operations on all values, and the laws of a finite field on the values that `has` accepts
pub record FieldOn (E : Type 0) : Type 0 where
  pub has : E → Bool
  pub zero : E
  pub one : E
  pub add : E → E → E
  pub mul : E → E → E
  pub neg : E → E
  pub number : E → ℕ
  pub of_number : ℕ → E
  pub size : ℕ
  pub characteristic : ℕ
  -- values are told apart
  pub same : (a b : E) → Dec (a ≡ b)
  -- the operations stay in the field
  pub has_zero : has zero ≡ true
  pub has_one : has one ≡ true
  pub has_add : (a b : E) → has a ≡ true → has b ≡ true → has (add a b) ≡ true
  pub has_mul : (a b : E) → has a ≡ true → has b ≡ true → has (mul a b) ≡ true
  pub has_neg : (a : E) → has a ≡ true → has (neg a) ≡ true
  -- a commutative ring with 1
  pub add_assoc : (a b c : E) → has a ≡ true → has b ≡ true → has c ≡ true → add (add a b) c ≡ add a (add b c)
  pub add_comm : (a b : E) → has a ≡ true → has b ≡ true → add a b ≡ add b a
  pub add_zero : (a : E) → has a ≡ true → add a zero ≡ a
  pub add_neg : (a : E) → has a ≡ true → add a (neg a) ≡ zero
  pub mul_assoc : (a b c : E) → has a ≡ true → has b ≡ true → has c ≡ true → mul (mul a b) c ≡ mul a (mul b c)
  pub mul_comm : (a b : E) → has a ≡ true → has b ≡ true → mul a b ≡ mul b a
  pub mul_one : (a : E) → has a ≡ true → mul a one ≡ a
  pub mul_add : (a b c : E) → has a ≡ true → has b ≡ true → has c ≡ true → mul a (add b c) ≡ add (mul a b) (mul a c)
  -- in which each value but 0 has an inverse
  pub one_not_zero : one ≢ zero
  pub inverse : (a : E) → has a ≡ true → a ≢ zero → (b : E) × (has b ≡ true) × (mul a b ≡ one)
  -- the numbering: one to one onto the numbers below the size, 0 at zero and 1 at one
  pub number_below : (a : E) → has a ≡ true → number a < size
  pub of_number_number : (a : E) → has a ≡ true → of_number (number a) ≡ a
  pub has_of_number : (n : ℕ) → n < size → has (of_number n) ≡ true
  pub number_of_number : (n : ℕ) → n < size → number (of_number n) ≡ n
  pub number_zero : number zero ≡ 0
  pub number_one : number one ≡ 1
  -- the characteristic: the least positive number of ones whose sum is zero
  pub characteristic_positive : 0 < characteristic
  pub characteristic_zero : sum_of_ones add zero one characteristic ≡ zero
  pub characteristic_least : (n : ℕ) → 0 < n → n < characteristic → sum_of_ones add zero one n ≢ zero

-- the test accepts a pair of values exactly where they are equal
abbrev pub Exact : {E : Type 0} → (E → E → Bool) → Type 0
Exact {E} eq = ((a b : E) → eq a b ≡ true → a ≡ b) × ((a : E) → eq a a ≡ true)

module _ {E : Type 0} (k : FieldOn E) where
  -- the field has this value
  abbrev pub Has : E → Type 0
  Has a = k.has a ≡ true

  -- n ones
  abbrev pub ones : ℕ → E
  ones = sum_of_ones k.add k.zero k.one

  -- the values that the field has
  abbrev pub Scalar : Type 0
  Scalar = (a : E) × (k.has a ≡ true)

  pub scalar_ext : (x y : Scalar) → x.0 ≡ y.0 → x ≡ y
  scalar_ext x y e = Σ_prop_path (λ a. Bool-set _ _) e

  pub scalar_same : (x y : Scalar) → Dec (x ≡ y)
  scalar_same x y = go (k.same x.0 y.0)
    where
      go : Dec (x.0 ≡ y.0) → Dec (x ≡ y)
      go (yes p) = yes (scalar_ext x y p)
      go (no n) = no (λ p. n (ap (λ u. u.0) p))

  -- the scalars as a ring
  unfoldable pub scalars : Ring Scalar
  scalars = record {
    is_set = hedberg scalar_same;
    zero = (k.zero, k.has_zero);
    one = (k.one, k.has_one);
    ◌+◌ = λ x y. (k.add x.0 y.0, k.has_add _ _ x.1 y.1);
    ◌*◌ = λ x y. (k.mul x.0 y.0, k.has_mul _ _ x.1 y.1);
    neg = λ x. (k.neg x.0, k.has_neg _ x.1);
    add_assoc = λ x y z. scalar_ext _ _ (k.add_assoc _ _ _ x.1 y.1 z.1);
    add_comm = λ x y. scalar_ext _ _ (k.add_comm _ _ x.1 y.1);
    add_zero = λ x. scalar_ext _ _ (k.add_zero _ x.1);
    add_neg = λ x. scalar_ext _ _ (k.add_neg _ x.1);
    mul_assoc = λ x y z. scalar_ext _ _ (k.mul_assoc _ _ _ x.1 y.1 z.1);
    mul_comm = λ x y. scalar_ext _ _ (k.mul_comm _ _ x.1 y.1);
    mul_one = λ x. scalar_ext _ _ (k.mul_one _ x.1);
    mul_add = λ x y z. scalar_ext _ _ (k.mul_add _ _ _ x.1 y.1 z.1);
  }

  -- the ring of scalars is a field
  pub is_field : IsField scalars
  unfolding scalars
  is_field = record {
    inverse = λ x. inverse_by x (k.same x.0 k.zero);
    mul_inverse = λ x h. mul_inverse_by x (k.same x.0 k.zero) (λ e. h (scalar_ext _ _ e));
    one_not_zero = λ e. k.one_not_zero (ap (λ u. u.0) e);
    same = scalar_same;
  }
    where
      inverse_by : (x : Scalar) → Dec (x.0 ≡ k.zero) → Scalar
      inverse_by x (yes e) = x
      inverse_by x (no n) = ((k.inverse x.0 x.1 n).0, (k.inverse x.0 x.1 n).1)

      mul_inverse_by : (x : Scalar) (d : Dec (x.0 ≡ k.zero)) → ¬ (x.0 ≡ k.zero) → scalars.◌*◌ x (inverse_by x d) ≡ scalars.one
      mul_inverse_by x (yes e) h = absurd (h e)
      mul_inverse_by x (no n) h = scalar_ext _ _ (k.inverse x.0 x.1 n).2

  scalar_by : (a : E) (b : Bool) → k.has a ≡ b → Scalar
  scalar_by a true e = (a, e)
  scalar_by a false e = (k.zero, k.has_zero)

  -- any value as a scalar: 0 where the field does not have it
  pub scalar : E → Scalar
  scalar a = scalar_by a (k.has a) refl

  pub scalar_value : (a : E) → Has a → (scalar a).0 ≡ a
  unfolding scalar scalar_by
  scalar_value a h = go (k.has a) refl h
    where
      go : (b : Bool) (e : k.has a ≡ b) → b ≡ true → (scalar_by a b e).0 ≡ a
      go true e h = refl
      go false e h = absurd cc

  -- each scalar is that of its value
  pub scalar_of_value : (x : Scalar) → scalar x.0 ≡ x
  scalar_of_value x = scalar_ext _ _ (scalar_value x.0 x.1)

  pub scalar_zero : scalar k.zero ≡ scalars.zero
  unfolding scalars
  scalar_zero = scalar_ext _ _ (scalar_value k.zero k.has_zero)

  pub scalar_one : scalar k.one ≡ scalars.one
  unfolding scalars
  scalar_one = scalar_ext _ _ (scalar_value k.one k.has_one)

  pub scalar_add : (a b : E) → Has a → Has b → scalar (k.add a b) ≡ scalars.◌+◌ (scalar a) (scalar b)
  unfolding scalars
  scalar_add a b h g = scalar_ext _ _ (scalar_value _ (k.has_add a b h g) ∙ ap₂ k.add (sym (scalar_value a h)) (sym (scalar_value b g)))

  pub scalar_mul : (a b : E) → Has a → Has b → scalar (k.mul a b) ≡ scalars.◌*◌ (scalar a) (scalar b)
  unfolding scalars
  scalar_mul a b h g = scalar_ext _ _ (scalar_value _ (k.has_mul a b h g) ∙ ap₂ k.mul (sym (scalar_value a h)) (sym (scalar_value b g)))

  pub scalar_neg : (a : E) → Has a → scalar (k.neg a) ≡ scalars.neg (scalar a)
  unfolding scalars
  scalar_neg a h = scalar_ext _ _ (scalar_value _ (k.has_neg a h) ∙ ap k.neg (sym (scalar_value a h)))

  -- equal scalars are those of equal values
  pub scalar_injective : (a b : E) → Has a → Has b → scalar a ≡ scalar b → a ≡ b
  scalar_injective a b h g e = sym (scalar_value a h) ∙ ap (λ u. u.0) e ∙ scalar_value b g

  pub scalar_not_zero : (a : E) → Has a → a ≢ k.zero → ¬ (scalar a ≡ scalars.zero)
  scalar_not_zero a h n e = n (scalar_injective a k.zero h k.has_zero (e ∙ sym scalar_zero))

-- a field has no zero divisors
pub mul_not_zero : {K : Type 0} (R : Ring K) → IsField R → (x y : K) → ¬ (x ≡ R.zero) → ¬ (y ≡ R.zero) → ¬ (R.◌*◌ x y ≡ R.zero)
mul_not_zero R f x y n m e =
    let inverted : R.◌*◌ (f.inverse x) x ≡ R.one = R.mul_comm (f.inverse x) x ∙ f.mul_inverse x n in
    m (sym (rings.one_mul R y) ∙ ap (λ u. R.◌*◌ u y) (sym inverted) ∙ R.mul_assoc (f.inverse x) x y ∙ ap (R.◌*◌ (f.inverse x)) e ∙ rings.mul_zero R (f.inverse x))

module _ {E : Type 0} (k : FieldOn E) where
  -- nor has the field on its values
  pub product_not_zero : (a b : E) → Has k a → Has k b → a ≢ k.zero → b ≢ k.zero → k.mul a b ≢ k.zero
  product_not_zero a b h g n m e = mul_not_zero (scalars k) (is_field k) (scalar k a) (scalar k b) (scalar_not_zero k a h n) (scalar_not_zero k b g m)
      (sym (scalar_mul k a b h g) ∙ ap (scalar k) e ∙ scalar_zero k)
