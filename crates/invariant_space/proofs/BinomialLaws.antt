-- Binomial coefficients by products.
use Rattle.invariant_space.proofs.Common.{◌≡◌, ℕ, zero, suc, ◌+◌, ◌-◌, ◌*◌, ◌/◌, ◌^◌, ◌<◌, ◌≤◌, refl, sym, ap, ap₂, subst, ◌∙◌, arith}
use Rattle.std.proofs.Common.{mul-le-mul, mul-div_cancel, div-mul-le_self, le-div_iff_mul-le, le_refl}
use Rattle.alg_core.specs.Binomials.{choose}

choose-past : (k : ℕ) → choose 0 (suc k) ≡ 0
unfolding choose
choose-past k = refl

choose-zero : (n : ℕ) → choose n 0 ≡ 1
unfolding choose
choose-zero zero = refl
choose-zero (suc n) = refl

choose-suc : (n k : ℕ) → choose (suc n) (suc k) ≡ choose n k + choose n (suc k)
unfolding choose
choose-suc n k = refl

-- one element more on both sides
choose-absorb : (n k : ℕ) → choose (suc n) (suc k) * suc k ≡ choose n k * suc n
choose-absorb zero zero = omega (arith, choose-suc 0 0, choose-past 0, choose-zero 0)
choose-absorb zero (suc k) = none (choose 1 (suc (suc k))) (choose 0 (suc k)) (suc (suc k)) (choose-suc 0 (suc k) ∙ omega (arith, choose-past k, choose-past (suc k))) (choose-past k)
  where
    none : (a b m : ℕ) → a ≡ 0 → b ≡ 0 → a * m ≡ b * 1
    none a b m p q = rw (p, q) (omega arith)
choose-absorb (suc n) zero = one (choose (suc (suc n)) 1) (choose (suc n) 0) (choose (suc n) 1) (choose n 0) n (choose-suc (suc n) 0) (choose-zero (suc n)) (choose-zero n) (choose-absorb n 0)
  where
    one : (a b c e n : ℕ) → a ≡ b + c → b ≡ 1 → e ≡ 1 → c * 1 ≡ e * suc n → a * 1 ≡ b * suc (suc n)
    one a b c e n p q r s = omega (arith, ap (λ t. t * suc n) r, ap (λ t. t * suc (suc n)) q)
choose-absorb (suc n) (suc k) = step (choose (suc (suc n)) (suc (suc k))) (choose (suc n) (suc k)) (choose (suc n) (suc (suc k))) (choose n k) (choose n (suc k)) n k (choose-suc (suc n) (suc k)) (choose-suc n k) (choose-absorb n k) (choose-absorb n (suc k))
  where
    step : (a b c d e n k : ℕ) → a ≡ b + c → b ≡ d + e → b * suc k ≡ d * suc n → c * suc (suc k) ≡ e * suc n → a * suc (suc k) ≡ b * suc (suc n)
    step a b c d e n k p q r s = omega (arith, ap (λ t. t * suc n) q, ap (λ t. t * suc (suc k)) p)

-- a bound of the count for i variables, where the degree is at most 12288
abbrev most : ℕ → ℕ
most zero = 1
most (suc zero) = 1
most (suc (suc j)) = most (suc j) * 12299 / suc j

most-grows : (j : ℕ) → suc j ≤ 12299 → most (suc j) ≤ most (suc (suc j))
most-grows j few = let some : 0 < suc j = omega arith in let same : most (suc j) ≤ most (suc j) = omega arith in (le-div_iff_mul-le some).1 (mul-le-mul same few)

-- it leaves room for one product more
most-below : (j n : ℕ) → j + n ≡ 10 → most (suc j) ≤ most 11
most-below j zero e = let last : 10 ≡ j = omega arith in subst (λ (m : ℕ). most (suc m) ≤ most 11) last (le_refl (most 11))
most-below j (suc n) e = let here = most-grows j (omega arith) in let rest = most-below (suc j) n (omega arith) in omega arith

most-next : (j count s : ℕ) → s ≤ 12299 → count ≤ most (suc j) → count * s / suc j ≤ most (suc (suc j))
most-next j count s small bound =
    let some : 0 < suc j = omega arith in
    let product : count * s ≤ most (suc j) * 12299 = mul-le-mul bound small in
    let part : count * s / suc j * suc j ≤ count * s = div-mul-le_self (count * s) (suc j) in
    (le-div_iff_mul-le some).1 (omega arith)

-- one variable more
choose-next : (d i count s : ℕ) → 1 ≤ i → s ≡ d + i → count ≡ choose (i + d - 1) (i - 1) → count * s / i ≡ choose (i + 1 + d - 1) (i + 1 - 1)
choose-next d i count s some sum is =
    let k : i ≡ suc (i - 1) = omega arith in
    let n : i + d ≡ suc (i + d - 1) = omega arith in
    let more : choose (i + 1 + d - 1) (i + 1 - 1) ≡ choose (suc (i + d - 1)) (suc (i - 1)) = ap₂ choose (omega arith) (omega arith) in
    let absorb : count * s ≡ choose (suc (i + d - 1)) (suc (i - 1)) * i = ap₂ (λ x y. x * y) is (omega arith) ∙ sym (choose-absorb (i + d - 1) (i - 1)) ∙ ap (λ m. choose (suc (i + d - 1)) (suc (i - 1)) * m) (sym k) in
    ap (λ m. m / i) absorb ∙ mul-div_cancel (choose (suc (i + d - 1)) (suc (i - 1))) (omega arith) ∙ sym more

-- the count of monomials of degree d in i variables
pub record Counted (d i count : ℕ) : Type 0 where
  pub is : count ≡ choose (i + d - 1) (i - 1)
  pub bound : count ≤ most i

pub product-fits : (d i count s : ℕ) → 1 ≤ i → i ≤ 11 → s ≤ 12299 → Counted d i count → count * s < 2 ^ 128
product-fits d zero count s some few small counted = absurd (omega arith)
product-fits d (suc j) count s some few small counted =
    let product : count * s ≤ most (suc j) * 12299 = mul-le-mul counted.bound small in
    let last = most-below j (10 - j) (omega arith) in
    omega arith

pub Counted-next : (d i count s t : ℕ) → 1 ≤ i → i ≤ 11 → d ≤ 12288 → s ≡ d + i → t ≡ i → Counted d i count → Counted d (i + 1) (count * s / t)
Counted-next d zero count s t some few small sum same counted = absurd (omega arith)
Counted-next d (suc j) count s t some few small sum same counted =
    let next : suc (suc j) ≡ suc j + 1 = omega arith in
    subst (λ (m : ℕ). Counted d (suc j + 1) (count * s / m)) (sym same) (record {
      is = choose-next d (suc j) count s some sum counted.is;
      bound = subst (λ (m : ℕ). count * s / suc j ≤ most m) next (most-next j count s (omega arith) counted.bound);
    })

pub Counted-first : (d : ℕ) → Counted d 1 1
Counted-first d = record { is = sym (ap (λ m. choose m 0) (omega arith) ∙ choose-zero d); bound = omega arith }
