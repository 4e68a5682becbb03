-- The characteristics that are accepted, each of which is a prime.
--
--   is_listed p      p is one of 2, 3, 5, 7, 11, 257, 32003
--   none_divides p k none of 2, .., k + 1 divides p
--   NoDivisor p      p is above 1, and none of 2, .., p - 1 divides it: p is a prime
use Rattle.std.specs.Prelude.{◌≡◌, ◌≢◌, ℕ, zero, suc, ◌+◌, ◌-◌, ◌%◌, ◌<◌, Bool, true, ◌==◌, ◌&&◌, ◌||◌, not, refl, ◌⊎◌}
use Rattle.std.proofs.Common.{sym, subst, arith, inl, inr}
use Rattle.std.proofs.lemmas.Bool.Decides.{nat_tests}

-- one of 2, 3, 5, 7, 11, 257, 32003
abbrev pub is_listed : ℕ → Bool
is_listed p = (p == 2) || ((p == 3) || ((p == 5) || ((p == 7) || ((p == 11) || ((p == 257) || (p == 32003))))))

-- none of 2, .., k + 1 divides p
abbrev pub none_divides : ℕ → ℕ → Bool
none_divides p zero = true
none_divides p (suc k) = not ((p % (suc k + 1)) == 0) && none_divides p k

-- a prime
pub record NoDivisor (p : ℕ) : Type 0 where
  pub above_one : 1 < p
  pub none : (d : ℕ) → 1 < d → d < p → p % d ≢ 0

none_divides_each : (p k d : ℕ) → none_divides p k ≡ true → 1 < d → d < k + 2 → p % d ≢ 0
none_divides_each p zero d h above below = absurd (omega arith)
none_divides_each p (suc k) d h above below = grind (arith, nat_tests, none_divides_each p k d)

NoDivisor-from_test : (p : ℕ) → 1 < p → none_divides p (p - 2) ≡ true → NoDivisor p
NoDivisor-from_test p big h = record {
  above_one = big;
  none = λ d above below. none_divides_each p (p - 2) d h above (omega arith);
}

pub listed_one : (p : ℕ) → is_listed p ≡ true → (p ≡ 2) ⊎ ((p ≡ 3) ⊎ ((p ≡ 5) ⊎ ((p ≡ 7) ⊎ ((p ≡ 11) ⊎ ((p ≡ 257) ⊎ (p ≡ 32003))))))
listed_one p h = grind (arith, nat_tests)

-- each listed number is a prime
pub listed_prime : (p : ℕ) → is_listed p ≡ true → NoDivisor p
listed_prime p h = elim (listed_one p h) as (λ _. NoDivisor p) [
  | inl e ↦ subst NoDivisor (sym e) (NoDivisor-from_test 2 (omega arith) refl)
  | inr r ↦ elim r as (λ _. NoDivisor p) [
    | inl e ↦ subst NoDivisor (sym e) (NoDivisor-from_test 3 (omega arith) refl)
    | inr r ↦ elim r as (λ _. NoDivisor p) [
      | inl e ↦ subst NoDivisor (sym e) (NoDivisor-from_test 5 (omega arith) refl)
      | inr r ↦ elim r as (λ _. NoDivisor p) [
        | inl e ↦ subst NoDivisor (sym e) (NoDivisor-from_test 7 (omega arith) refl)
        | inr r ↦ elim r as (λ _. NoDivisor p) [
          | inl e ↦ subst NoDivisor (sym e) (NoDivisor-from_test 11 (omega arith) refl)
          | inr r ↦ elim r as (λ _. NoDivisor p) [
            | inl e ↦ subst NoDivisor (sym e) (NoDivisor-from_test 257 (omega arith) refl)
            | inr e ↦ subst NoDivisor (sym e) (NoDivisor-from_test 32003 (omega arith) refl)
          ]
        ]
      ]
    ]
  ]
]
