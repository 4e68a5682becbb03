-- The field GF(p) of a listed prime p.
--
--   gfp p listed       the numbers below p, with sum and product modulo p, numbered by themselves
--   IsPrimeField p k   p is listed, and the field k is GF(p)
use Rattle.std.specs.Prelude.{◌≡◌, ◌≢◌, ℕ, ◌%◌, ◌<◌, true, ◌==◌, nat_lt, refl}
use Rattle.std.proofs.Common.{ap, ◌∙◌, arith}
use Rattle.std.proofs.lemmas.Bool.Decides.{nat_tests}
use Rattle.std.proofs.lemmas.Nat.{mod_below}
use Rattle.std.proofs.Math.Nat.{mod_self}
use native.Mathlib.Decide.{ℕ_discrete}
use mathlib.Core.Bool.{Bool-set}
use mathlib.Core.HLevel.{Σ_prop_path}
use Rattle.alg_core.specs.Fields.{FieldOn, Exact}
use Rattle.prime_field.specs.ListedPrimes.{is_listed, listed_prime}
use Rattle.prime_field.specs.Residues.{add_mod, neg_mod, mul_mod, lt_of_test, test_of_lt, add_mod_assoc, add_mod_comm, add_mod_zero, add_mod_neg, mul_mod_assoc, mul_mod_comm, mul_mod_one, mul_mod_add, sum_of_ones_mod, inverse_exists, sum_of_ones_not_zero}

pub listed_above_one : (p : ℕ) → is_listed p ≡ true → 1 < p
listed_above_one p listed = (listed_prime p listed).above_one

pub listed_positive : (p : ℕ) → is_listed p ≡ true → 0 < p
listed_positive p listed = let big = listed_above_one p listed in omega (arith, big)

pub residue_test : (p a : ℕ) → 0 < p → nat_lt (a % p) p ≡ true
residue_test p a positive = test_of_lt p _ (mod_below a p positive)

pub one_not_zero : ◌≢◌ {A = ℕ} 1 0
one_not_zero e = omega arith

-- the numbers below p, with sum and product modulo p
abbrev pub gfp : (p : ℕ) → is_listed p ≡ true → FieldOn ℕ
gfp p listed = record {
  has = λ a. nat_lt a p;
  zero = 0;
  one = 1;
  add = add_mod p;
  mul = mul_mod p;
  neg = neg_mod p;
  number = λ a. a;
  of_number = λ n. n;
  size = p;
  characteristic = p;
  same = ℕ_discrete;
  has_zero = test_of_lt p 0 (listed_positive p listed);
  has_one = test_of_lt p 1 (listed_above_one p listed);
  has_add = λ a b x y. residue_test p _ (listed_positive p listed);
  has_mul = λ a b x y. residue_test p _ (listed_positive p listed);
  has_neg = λ a x. residue_test p _ (listed_positive p listed);
  add_assoc = λ a b c x y z. add_mod_assoc p a b c;
  add_comm = λ a b x y. add_mod_comm p a b;
  add_zero = λ a x. add_mod_zero p a (lt_of_test p a x);
  add_neg = λ a x. add_mod_neg p a (lt_of_test p a x);
  mul_assoc = λ a b c x y z. mul_mod_assoc p a b c;
  mul_comm = λ a b x y. mul_mod_comm p a b;
  mul_one = λ a x. mul_mod_one p a (lt_of_test p a x);
  mul_add = λ a b c x y z. mul_mod_add p a b c;
  one_not_zero = one_not_zero;
  inverse = λ a x not_zero. inverse_exists p a (listed_prime p listed) not_zero (lt_of_test p a x);
  number_below = lt_of_test p;
  of_number_number = λ a x. refl;
  has_of_number = test_of_lt p;
  number_of_number = λ n x. refl;
  number_zero = refl;
  number_one = refl;
  characteristic_positive = listed_positive p listed;
  characteristic_zero = sum_of_ones_mod p p (listed_positive p listed) ∙ mod_self p;
  characteristic_least = sum_of_ones_not_zero p;
}

-- p is listed, and the field is GF(p)
abbrev pub IsPrimeField : ℕ → FieldOn ℕ → Type 0
IsPrimeField p k = (listed : is_listed p ≡ true) × (k ≡ gfp p listed)

-- GF(p) depends on p alone
pub gfp_same : (p q : ℕ) → p ≡ q → (listed : is_listed p ≡ true) (listed' : is_listed q ≡ true) → gfp p listed ≡ gfp q listed'
gfp_same p q e listed listed' =
    let P : ℕ → Type 0 = λ n. is_listed n ≡ true in
    let same : ◌≡◌ {A = (n : ℕ) × P n} (p, listed) (q, listed') = Σ_prop_path (λ n. Bool-set _ _) e in
    ap (λ (u : (n : ℕ) × P n). gfp u.0 u.1) same

-- `==` on numbers tells them apart
pub exact_numbers : Exact {E = ℕ} (λ a b. a == b)
exact_numbers = (λ a b h. grind (arith, nat_tests), λ a. grind (arith, nat_tests))
