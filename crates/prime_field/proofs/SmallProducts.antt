-- Remainders modulo small primes by a product with a rounded reciprocal.
use Rattle.std.proofs.Common.{◌≡◌, ℕ, ◌+◌, ◌*◌, ◌/◌, ◌-◌, ◌%◌, ◌<◌, ◌≤◌, inl, inr, true, arith, sym, subst}
use Rattle.prime_field.specs.ListedPrimes.{is_listed, listed_one}

-- the quotient and what it leaves of x
pub record IsQuotient (p x : ℕ) : Type 0 where
  pub fits : x * (65536 / p + 1) < 4294967296
  pub small : x * (65536 / p + 1) / 65536 < 65536
  pub below : x * (65536 / p + 1) / 65536 * p ≤ x
  pub rest : x - x * (65536 / p + 1) / 65536 * p ≡ x % p

two : (x : ℕ) → x < 128 → IsQuotient 2 x
two x h = record { fits = omega arith; small = omega arith; below = omega arith; rest = omega arith }

three : (x : ℕ) → x < 128 → IsQuotient 3 x
three x h = record { fits = omega arith; small = omega arith; below = omega arith; rest = omega arith }

five : (x : ℕ) → x < 128 → IsQuotient 5 x
five x h = record { fits = omega arith; small = omega arith; below = omega arith; rest = omega arith }

seven : (x : ℕ) → x < 128 → IsQuotient 7 x
seven x h = record { fits = omega arith; small = omega arith; below = omega arith; rest = omega arith }

eleven : (x : ℕ) → x < 128 → IsQuotient 11 x
eleven x h = record { fits = omega arith; small = omega arith; below = omega arith; rest = omega arith }

pub is_quotient : (p x : ℕ) → is_listed p ≡ true → p ≤ 11 → x < 128 → IsQuotient p x
is_quotient p x listed few small = elim (listed_one p listed) as (λ _. IsQuotient p x) [
  | inl e ↦ subst (λ n. IsQuotient n x) (sym e) (two x small)
  | inr r ↦ elim r as (λ _. IsQuotient p x) [
    | inl e ↦ subst (λ n. IsQuotient n x) (sym e) (three x small)
    | inr r ↦ elim r as (λ _. IsQuotient p x) [
      | inl e ↦ subst (λ n. IsQuotient n x) (sym e) (five x small)
      | inr r ↦ elim r as (λ _. IsQuotient p x) [
        | inl e ↦ subst (λ n. IsQuotient n x) (sym e) (seven x small)
        | inr r ↦ elim r as (λ _. IsQuotient p x) [
          | inl e ↦ subst (λ n. IsQuotient n x) (sym e) (eleven x small)
          | inr r ↦ elim r as (λ _. IsQuotient p x) [
            | inl e ↦ absurd (omega arith)
            | inr e ↦ absurd (omega arith)
          ]
        ]
      ]
    ]
  ]
]
