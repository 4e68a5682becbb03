-- Numbers in decimal: digits without a leading zero, and `0` itself.
--
--   digits_value n text   the number that the digits n, followed by the text, write
--   is_numeral text       the text is a number in decimal
--   number_of limit text  the number that the text writes, if it is one of at most the limit
use Rattle.std.specs.Prelude.{ℕ, ◌+◌, ◌*◌, ◌-◌, Bool, false, ◌&&◌, ◌==◌, not, nat_le, List, [], ◌∷◌, Option, Some, None, if◌then◌else◌}
use Rattle.std.specs.Char.{is_ascii_digit}
use Rattle.std.specs.Str.{all_ascii_digits}

abbrev pub digits_value : ℕ → List ℕ → ℕ
digits_value n [] = n
digits_value n (b ∷ bs) = digits_value (10 * n + (b - 48)) bs

abbrev pub is_numeral : List ℕ → Bool
is_numeral [] = false
is_numeral (b ∷ []) = is_ascii_digit b
is_numeral (b ∷ c ∷ bs) = not (b == 48) && all_ascii_digits (b ∷ c ∷ bs)

abbrev pub number_of : ℕ → List ℕ → Option ℕ
number_of limit text = if is_numeral text && nat_le (digits_value 0 text) limit then Some (digits_value 0 text) else None
