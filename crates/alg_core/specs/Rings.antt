-- Rings, modules, algebras and monoids, each as a record of operations and laws.
--
--   Ring K              a commutative ring with 1 on K, whose equations are propositions
--   IsField R           in the ring R each element but 0 has an inverse, 1 is not 0, and equality is decided
--   Module R A          a module A over the ring R
--   Linear X Y f        f keeps sums and multiples
--   Monoid M            a commutative monoid
--   Algebra R S         a commutative ring S that is a module over R, in which multiples go out of products
--   Homomorphism X Y f  f keeps sums, multiples, products and 1
--   Multiplicative N Y f  f takes products of the monoid N to products of the algebra Y
use Rattle.std.specs.Prelude.{◌≡◌}

-- a commutative ring with 1
pub record Ring (K : Type 0) : Type 0 where
  infixl 6 ◌+◌
  infixl 7 ◌*◌
  pub is_set : IsSet K
  pub zero : K
  pub one : K
  pub ◌+◌ : K → K → K
  pub ◌*◌ : K → K → K
  pub neg : K → K
  pub add_assoc : (x y z : K) → (x + y) + z ≡ x + (y + z)
  pub add_comm : (x y : K) → x + y ≡ y + x
  pub add_zero : (x : K) → x + zero ≡ x
  pub add_neg : (x : K) → x + neg x ≡ zero
  pub mul_assoc : (x y z : K) → (x * y) * z ≡ x * (y * z)
  pub mul_comm : (x y : K) → x * y ≡ y * x
  pub mul_one : (x : K) → x * one ≡ x
  pub mul_add : (x y z : K) → x * (y + z) ≡ x * y + x * z

-- each element but 0 has an inverse
pub record IsField {K : Type 0} (R : Ring K) : Type 0 where
  pub inverse : K → K
  pub mul_inverse : (x : K) → ¬ (x ≡ R.zero) → R.◌*◌ x (inverse x) ≡ R.one
  pub one_not_zero : ¬ (R.one ≡ R.zero)
  pub same : (x y : K) → Dec (x ≡ y)

-- a module over a ring; the opposite of a is neg one · a
pub record Module {K : Type 0} (R : Ring K) (A : Type 0) : Type 0 where
  infixl 6 ◌+◌
  infixl 7 ◌·◌
  pub is_set : IsSet A
  pub zero : A
  pub ◌+◌ : A → A → A
  pub ◌·◌ : K → A → A
  pub add_assoc : (x y z : A) → (x + y) + z ≡ x + (y + z)
  pub add_comm : (x y : A) → x + y ≡ y + x
  pub add_zero : (x : A) → x + zero ≡ x
  pub act_add : (c : K) (x y : A) → c · (x + y) ≡ c · x + c · y
  pub add_act : (c d : K) (x : A) → (R.◌+◌ c d) · x ≡ c · x + d · x
  pub mul_act : (c d : K) (x : A) → (R.◌*◌ c d) · x ≡ c · (d · x)
  pub one_act : (x : A) → R.one · x ≡ x
  pub zero_act : (x : A) → R.zero · x ≡ zero

-- what keeps sums and multiples
pub record Linear {K : Type 0} {R : Ring K} {A B : Type 0} (X : Module R A) (Y : Module R B) (f : A → B) : Type 0 where
  pub add : (x y : A) → f (X.◌+◌ x y) ≡ Y.◌+◌ (f x) (f y)
  pub act : (c : K) (x : A) → f (X.◌·◌ c x) ≡ Y.◌·◌ c (f x)

-- a commutative monoid
pub record Monoid (M : Type 0) : Type 0 where
  infixl 7 ◌·◌
  pub one : M
  pub ◌·◌ : M → M → M
  pub assoc : (x y z : M) → (x · y) · z ≡ x · (y · z)
  pub comm : (x y : M) → x · y ≡ y · x
  pub mul_one : (x : M) → x · one ≡ x

-- a ring that is a module over R, in which multiples go out of products
pub record Algebra {K : Type 0} (R : Ring K) (S : Type 0) : Type 0 where
  pub ring : Ring S
  pub act : K → S → S
  pub act_add : (c : K) (x y : S) → act c (ring.◌+◌ x y) ≡ ring.◌+◌ (act c x) (act c y)
  pub add_act : (c d : K) (x : S) → act (R.◌+◌ c d) x ≡ ring.◌+◌ (act c x) (act d x)
  pub mul_act : (c d : K) (x : S) → act (R.◌*◌ c d) x ≡ act c (act d x)
  pub one_act : (x : S) → act R.one x ≡ x
  pub zero_act : (x : S) → act R.zero x ≡ ring.zero
  pub act_mul : (c : K) (x y : S) → ring.◌*◌ (act c x) y ≡ act c (ring.◌*◌ x y)

-- what keeps sums, multiples, products and 1
pub record Homomorphism {K : Type 0} {R : Ring K} {S S' : Type 0} (X : Algebra R S) (Y : Algebra R S') (f : S → S') : Type 0 where
  pub add : (x y : S) → f (X.ring.◌+◌ x y) ≡ Y.ring.◌+◌ (f x) (f y)
  pub act : (c : K) (x : S) → f (X.act c x) ≡ Y.act c (f x)
  pub mul : (x y : S) → f (X.ring.◌*◌ x y) ≡ Y.ring.◌*◌ (f x) (f y)
  pub one : f X.ring.one ≡ Y.ring.one

-- what takes products of a monoid to products of an algebra
pub record Multiplicative {K S M : Type 0} {R : Ring K} (N : Monoid M) (Y : Algebra R S) (f : M → S) : Type 0 where
  pub mul : (x y : M) → f (N.◌·◌ x y) ≡ Y.ring.◌*◌ (f x) (f y)
  pub one : f N.one ≡ Y.ring.one
