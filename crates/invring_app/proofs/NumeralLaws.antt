-- Digits and the number that they write.
use Rattle.std.proofs.Common.{◌≡◌, ◌≢◌, ℕ, zero, suc, ◌+◌, ◌*◌, ◌-◌, ◌^◌, ◌<◌, ◌≤◌, true, ◌&&◌, List, [], ◌∷◌, length, get_or, drop, refl, sym, ap, ◌∙◌, arith, Some, None, if◌then◌else◌, rules}
use Rattle.std.specs.Prelude.{not, ◌==◌, nat_le, decimal}
use Rattle.std.specs.Str.{all_ascii_digits}
use Rattle.std.proofs.lemmas.Bool.{and_parts, and_right, and_from, eqb-false, not-true, leb-true, le-leb, lt-leb, ne_eqb}
use Rattle.std.proofs.lemmas.Fmt.{decimal_digit, decimal_nonempty, first_decimal, digits_decimal, digits_value-decimal, decimal-digits_value}
use Rattle.std.proofs.lemmas.Option.{cond_some}
use Rattle.std.proofs.lemmas.Str.Parse.{IsNumeralModel, numerals_by_fold}
use Rattle.invring_app.specs.Numerals.{digits_value, is_numeral, number_of}

-- `all_ascii_digits` and `digits_value` are words for digits and their number
own : IsNumeralModel (λ ds. all_ascii_digits ds ≡ true) (digits_value 0)
own = numerals_by_fold _ (search rules) digits_value (search rules)

pub digits_value-grows : (bs : List ℕ) (n : ℕ) → n ≤ digits_value n bs
digits_value-grows [] n = omega arith
digits_value-grows (b ∷ bs) n = omega (arith, digits_value-grows bs (10 * n + (b - 48)))

pub is_numeral-plain : (text : List ℕ) → 0 < length text → (1 < length text → get_or text 0 0 ≢ 48) → is_numeral text ≡ all_ascii_digits text
is_numeral-plain [] some first = absurd (omega arith)
is_numeral-plain (b ∷ []) some first = grind arith
is_numeral-plain (b ∷ c ∷ bs) some first =
    let apart : b ≢ 48 = first (omega arith) in
    ap (λ t. not t && all_ascii_digits (b ∷ c ∷ bs)) (ne_eqb b 48 apart)

-- the number is over the limit as soon as its first digits are
pub number_of-over : (limit : ℕ) (text : List ℕ) (i value : ℕ) → limit < value → digits_value value (drop i text) ≡ digits_value 0 text → None ≡ number_of limit text
number_of-over limit text i value over same =
    let more : limit < digits_value 0 text = omega (arith, digits_value-grows (drop i text) value, same) in
    sym (ap (λ t. if t then Some (digits_value 0 text) else None) (and_right (is_numeral text) _ (lt-leb (digits_value 0 text) limit more)))

is_numeral-digits : (text : List ℕ) → is_numeral text ≡ true → all_ascii_digits text ≡ true
is_numeral-digits [] is = absurd cc
is_numeral-digits (b ∷ []) is = grind arith
is_numeral-digits (b ∷ c ∷ bs) is = (and_parts (not (b == 48)) _ is).1

is_numeral-length : (text : List ℕ) → is_numeral text ≡ true → 0 < length text
is_numeral-length [] is = absurd cc
is_numeral-length (b ∷ bs) is = omega arith

is_numeral-first : (text : List ℕ) → is_numeral text ≡ true → get_or text 0 0 ≡ 48 → length text ≡ 1
is_numeral-first [] is e = absurd cc
is_numeral-first (b ∷ []) is e = refl
is_numeral-first (b ∷ c ∷ bs) is e = absurd (eqb-false b 48 (not-true (b == 48) (and_parts (not (b == 48)) _ is).0) e)

-- a numeral is the decimal text of its number
pub decimal-digits_value_of : (text : List ℕ) → is_numeral text ≡ true → digits_value 0 text < 2 ^ 64 → decimal (digits_value 0 text) ≡ text
decimal-digits_value_of text is small = decimal-digits_value own text (is_numeral-digits text is) (is_numeral-length text is) (is_numeral-first text is) small

is_numeral-decimal : (n : ℕ) → n < 2 ^ 64 → is_numeral (decimal n) ≡ true
is_numeral-decimal n small =
    let first : 1 < length (decimal n) → get_or (decimal n) 0 0 ≢ 48 = elim n as (λ (m : ℕ). m < 2 ^ 64 → 1 < length (decimal m) → get_or (decimal m) 0 0 ≢ 48) [
      | zero ↦ λ s h. absurd (omega (arith, ap length (decimal_digit 0 (omega arith))))
      | suc m ↦ λ s h e. omega (arith, first_decimal (suc m) (omega arith) s)
    ] small in
    is_numeral-plain (decimal n) (decimal_nonempty n small) first ∙ digits_decimal own n small

-- what is read is the decimal text of a number within the limit
pub number_of-some : (limit : ℕ) (text : List ℕ) (n : ℕ) → limit < 2 ^ 64 → number_of limit text ≡ Some n → (n ≤ limit) × (text ≡ decimal n)
number_of-some limit text n small is =
    let parts = cond_some (is_numeral text && nat_le (digits_value 0 text) limit) (digits_value 0 text) n is in
    let tests = and_parts (is_numeral text) (nat_le (digits_value 0 text) limit) parts.0 in
    let within : digits_value 0 text ≤ limit = leb-true _ _ tests.1 in
    let value : digits_value 0 text ≡ n = parts.1 in
    (omega arith, sym (decimal-digits_value_of text tests.0 (omega arith)) ∙ ap decimal value)

-- and each of those texts is read
pub number_of-decimal : (limit n : ℕ) → n ≤ limit → n < 2 ^ 64 → number_of limit (decimal n) ≡ Some n
number_of-decimal limit n within small =
    let value : digits_value 0 (decimal n) ≡ n = digits_value-decimal own n small in
    let below : digits_value 0 (decimal n) ≤ limit = omega arith in
    let both : (is_numeral (decimal n) && nat_le (digits_value 0 (decimal n)) limit) ≡ true = and_from _ _ (is_numeral-decimal n small) (le-leb _ _ below) in
    ap (λ t. if t then Some (digits_value 0 (decimal n)) else None) both ∙ ap (λ (m : ℕ). Some m) value

pub all_ascii_digits-decimal : (n : ℕ) → n < 2 ^ 64 → all_ascii_digits (decimal n) ≡ true
all_ascii_digits-decimal n small = digits_decimal own n small
