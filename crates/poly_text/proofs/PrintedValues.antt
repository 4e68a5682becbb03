-- Values modulo p, and the sign and the coefficient with which they are printed: each gives the other back.
use Rattle.std.proofs.Common.{◌≡◌, ◌≢◌, ◌∙◌, ℕ, ◌+◌, ◌-◌, ◌*◌, ◌%◌, ◌<◌, ◌≤◌, ◌⊎◌, inl, inr, Bool, true, false, List, refl, sym, ap, subst, arith}
use Rattle.std.specs.Prelude.{◌&&◌, not, nat_le, if◌then◌else◌}
use Rattle.std.proofs.lemmas.Bool.{eq-eqb, ne_eqb, le-leb, lt-ltb, le-ltb, cases_lt, cases_eq}
use Rattle.std.proofs.lemmas.Bool.Decides.{nat_tests}
use Rattle.prime_field.specs.ListedPrimes.{is_listed, listed_prime}
use Rattle.poly_text.specs.Syntax.{Term, Factor, IsShort}
use Rattle.poly_text.specs.Texts.{is_negative, absolute}
use Rattle.poly_text.specs.Values.{is_printed, value_of}

listed_small : (p : ℕ) → is_listed p ≡ true → p ≤ 32003
listed_small p h = grind (arith, nat_tests)

-- a listed number but 2 is no double
listed_odd : (p c : ℕ) → is_listed p ≡ true → p ≢ 2 → 2 * c ≢ p
listed_odd p c listed other double =
    let big : 1 < p = (listed_prime p listed).above_one in
    let odd : p % 2 ≢ 0 = (listed_prime p listed).none 2 (omega arith) (omega arith) in
    omega arith

-- the term stands for the value c, with a short coefficient
pub record IsPrintedValue (p c : ℕ) (t : Term) : Type 0 where
  pub short : IsShort t.coefficient
  pub printed : is_printed p t ≡ true
  pub value : value_of p t ≡ c

printed_odd : (p : ℕ) (t : Term) → p ≢ 2 → 2 * t.coefficient + 1 ≤ p → is_printed p t ≡ true
printed_odd p t other small = ap (λ b. if b then (not t.is_negative && nat_le t.coefficient 1) else nat_le (2 * t.coefficient + 1) p) (ne_eqb p 2 other) ∙ le-leb (2 * t.coefficient + 1) p small

pub printed_value : (p c : ℕ) (fs : List Factor) → is_listed p ≡ true → c < p → c ≢ 0 → IsPrintedValue p c (record { is_negative = is_negative p c; coefficient = absolute p c; factors = fs })
printed_value p c fs listed below some =
    elim (cases_lt p (2 * c)) as (λ _. IsPrintedValue p c (record { is_negative = is_negative p c; coefficient = absolute p c; factors = fs })) [
      | inl large ↦ subst (λ (b : Bool). IsPrintedValue p c (record { is_negative = b; coefficient = if b then p - c else c; factors = fs })) (sym (lt-ltb p (2 * c) large)) (negative large)
      | inr small ↦ subst (λ (b : Bool). IsPrintedValue p c (record { is_negative = b; coefficient = if b then p - c else c; factors = fs })) (sym (le-ltb p (2 * c) small)) (positive small (cases_eq p 2))
    ]
  where
    negative : p < 2 * c → IsPrintedValue p c (record { is_negative = true; coefficient = p - c; factors = fs })
    negative large = let limit = listed_small p listed in record {
      short = (omega arith, omega arith);
      printed = printed_odd p (record { is_negative = true; coefficient = p - c; factors = fs }) (omega arith) (omega arith);
      value = omega arith;
    }

    positive : 2 * c ≤ p → (p ≡ 2) ⊎ (p ≢ 2) → IsPrintedValue p c (record { is_negative = false; coefficient = c; factors = fs })
    positive small (inl two) = record {
      short = (omega arith, omega arith);
      printed = ap (λ b. if b then nat_le c 1 else nat_le (2 * c + 1) p) (eq-eqb p 2 two) ∙ le-leb c 1 (omega arith);
      value = refl;
    }
    positive small (inr other) = let limit = listed_small p listed in let odd = listed_odd p c listed other in record {
      short = (omega arith, omega arith);
      printed = printed_odd p (record { is_negative = false; coefficient = c; factors = fs }) other (omega arith);
      value = refl;
    }

-- a sign and a coefficient that are printed are those of their value
pub value_printed : (p : ℕ) (t : Term) → is_printed p t ≡ true → (is_negative p (value_of p t) ≡ t.is_negative) × (absolute p (value_of p t) ≡ t.coefficient)
value_printed p t printed = go t.is_negative t.coefficient printed
  where
    go : (sign : Bool) (c : ℕ) → is_printed p (record { is_negative = sign; coefficient = c; factors = t.factors }) ≡ true
        → (is_negative p (if sign then p - c else c) ≡ sign) × (absolute p (if sign then p - c else c) ≡ c)
    go true c h =
        let small : 2 * c + 1 ≤ p = grind (arith, nat_tests) in
        let sign : is_negative p (p - c) ≡ true = lt-ltb p (2 * (p - c)) (omega arith) in
        let back : p - (p - c) ≡ c = omega arith in
        (sign, ap (λ b. if b then p - (p - c) else p - c) sign ∙ back)
    go false c h =
        let small : 2 * c ≤ p = grind (arith, nat_tests) in
        let sign : is_negative p c ≡ false = le-ltb p (2 * c) small in
        (sign, ap (λ b. if b then p - c else c) sign)
