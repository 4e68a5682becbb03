-- Residues: the numbers below p, with sum, opposite and product modulo p.
--
--   add_mod p a b   the sum modulo p
--   neg_mod p a     the opposite modulo p
--   mul_mod p a b   the product modulo p
use Rattle.std.specs.Prelude.{◌≡◌, ◌≢◌, ℕ, zero, suc, ◌+◌, ◌*◌, ◌-◌, ◌%◌, ◌/◌, ◌<◌, ◌≤◌, true, false, nat_lt, refl}
use Rattle.std.proofs.Common.{sym, ap, ◌∙◌, arith}
use Rattle.std.proofs.lemmas.Bool.Decides.{nat_tests}
use Rattle.std.proofs.lemmas.Nat.{mul-mod_first, mul-mod_second, mod_below}
use Rattle.std.proofs.Math.Nat.{add-mod-mod, mod-add-mod, add-mul-mod_self_right, mod-eq_of_lt, mod_self}
use Rattle.alg_core.specs.Fields.{sum_of_ones}
use Rattle.prime_field.specs.ListedPrimes.{NoDivisor}

-- the sum
abbrev pub add_mod : ℕ → ℕ → ℕ → ℕ
add_mod p a b = (a + b) % p

-- the opposite
abbrev pub neg_mod : ℕ → ℕ → ℕ
neg_mod p a = (p - a) % p

-- the product
abbrev pub mul_mod : ℕ → ℕ → ℕ → ℕ
mul_mod p a b = (a * b) % p

pub lt_of_test : (p a : ℕ) → nat_lt a p ≡ true → a < p
lt_of_test p a h = grind (arith, nat_tests)

pub test_of_lt : (p a : ℕ) → a < p → nat_lt a p ≡ true
test_of_lt p a h = grind (arith, nat_tests)

pub add_mod_assoc : (p a b c : ℕ) → add_mod p (add_mod p a b) c ≡ add_mod p a (add_mod p b c)
add_mod_assoc p a b c = mod-add-mod (a + b) p c ∙ ap (λ t. t % p) (omega arith) ∙ sym (add-mod-mod a (b + c) p)

pub add_mod_comm : (p a b : ℕ) → add_mod p a b ≡ add_mod p b a
add_mod_comm p a b = ap (λ t. t % p) (omega arith)

pub add_mod_zero : (p a : ℕ) → a < p → add_mod p a 0 ≡ a
add_mod_zero p a h = ap (λ t. t % p) (omega arith) ∙ mod-eq_of_lt h

pub add_mod_neg : (p a : ℕ) → a < p → add_mod p a (neg_mod p a) ≡ 0
add_mod_neg p a below = add-mod-mod a (p - a) p ∙ ap (λ t. t % p) (omega arith) ∙ mod_self p

pub mul_mod_assoc : (p a b c : ℕ) → mul_mod p (mul_mod p a b) c ≡ mul_mod p a (mul_mod p b c)
mul_mod_assoc p a b c = mul-mod_first (a * b) c p ∙ ap (λ t. t % p) (omega arith) ∙ sym (mul-mod_second a (b * c) p)

pub mul_mod_comm : (p a b : ℕ) → mul_mod p a b ≡ mul_mod p b a
mul_mod_comm p a b = ap (λ t. t % p) (omega arith)

pub mul_mod_one : (p a : ℕ) → a < p → mul_mod p a 1 ≡ a
mul_mod_one p a h = ap (λ t. t % p) (omega arith) ∙ mod-eq_of_lt h

pub mul_mod_add : (p a b c : ℕ) → mul_mod p a (add_mod p b c) ≡ add_mod p (mul_mod p a b) (mul_mod p a c)
mul_mod_add p a b c = mul-mod_second a (b + c) p ∙ ap (λ t. t % p) (omega arith) ∙ sym (add-mod-mod (a * b % p) (a * c) p ∙ mod-add-mod (a * b) p (a * c))

-- the sum of n ones is n modulo p
pub sum_of_ones_mod : (p n : ℕ) → 0 < p → sum_of_ones (add_mod p) 0 1 n ≡ n % p
sum_of_ones_mod p zero positive = sym (mod-eq_of_lt positive)
sum_of_ones_mod p (suc k) positive = ap (λ t. (1 + t) % p) (sum_of_ones_mod p k positive) ∙ add-mod-mod 1 k p ∙ ap (λ t. t % p) (omega arith)

-- one step of the search for an inverse of a: from a factor that makes `left` to one that makes p modulo `left`
pub inverse_step : (p a left factor : ℕ) → 0 < left → left < p → mul_mod p a factor ≡ left → mul_mod p a ((p - p / left) * factor % p) ≡ p % left
inverse_step p a left factor positive below was =
    let q = p / left in
    let r = p % left in
    let d = p - p / left in
    let rest_below : r < left = mod_below p left positive in
    let rest_small : r < p = omega arith in
    let whole : left * q + r ≡ p = omega arith in
    let parts : left * (d + q) ≡ left * p = ap (λ x. left * x) (omega arith) in
    let one_less : left ≡ left - 1 + 1 = omega arith in
    let split : left * p ≡ (left - 1 + 1) * p = ap (λ x. x * p) one_less in
    let front : left * d ≡ r + (left - 1) * p = omega (arith, whole, parts, split) in
    let turned : a * (d * factor) ≡ a * factor * d = omega arith in
    mul-mod_second a (d * factor) p ∙ ap (λ x. x % p) turned ∙ sym (mul-mod_first (a * factor) d p)
    ∙ ap (λ x. (x * d) % p) was ∙ ap (λ x. x % p) front ∙ add-mul-mod_self_right r (left - 1) p ∙ mod-eq_of_lt rest_small

inverse_from : (p a fuel left factor : ℕ) → NoDivisor p → left ≤ fuel → 0 < left → left < p → factor < p → mul_mod p a factor ≡ left → (b : ℕ) × (b < p) × (mul_mod p a b ≡ 1)
inverse_from p a zero left factor prime small positive below factor_below was = absurd (omega arith)
inverse_from p a (suc fuel) left factor prime small positive below factor_below was =
    let big : 1 < p = prime.above_one in
    elim (nat_lt 1 left) as (λ t. nat_lt 1 left ≡ t → (b : ℕ) × (b < p) × (mul_mod p a b ≡ 1)) [
      | true ↦ λ e.
          let more : 1 < left = grind (arith, nat_tests) in
          let rest : p % left ≢ 0 = prime.none left more below in
          let rest_below : p % left < left = mod_below p left positive in
          inverse_from p a fuel (p % left) ((p - p / left) * factor % p) prime (omega arith) (omega arith) (omega arith) (mod_below _ p (omega arith)) (inverse_step p a left factor positive below was)
      | false ↦ λ e.
          let one : left ≡ 1 = grind (arith, nat_tests) in
          (factor, factor_below, was ∙ one)
    ] refl

-- modulo a prime each number but 0 has an inverse
pub inverse_exists : (p a : ℕ) → NoDivisor p → a ≢ 0 → a < p → (b : ℕ) × (nat_lt b p ≡ true) × (mul_mod p a b ≡ 1)
inverse_exists p a prime not_zero below =
    let big : 1 < p = prime.above_one in
    let found = inverse_from p a a a 1 prime (omega arith) (omega arith) below big (mul_mod_one p a below) in
    (found.0, test_of_lt p found.0 found.1, found.2)

-- fewer than p ones, but not none, do not make 0
pub sum_of_ones_not_zero : (p n : ℕ) → 0 < n → n < p → sum_of_ones (add_mod p) 0 1 n ≢ 0
sum_of_ones_not_zero p n positive below e =
    let same : n % p ≡ n = mod-eq_of_lt below in
    let ones = sum_of_ones_mod p n (omega arith) in
    omega (arith, ones, same, e)
