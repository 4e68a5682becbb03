-- Names of variables, of matrices and of results.
--
--   is_letter b      an ASCII letter
--   is_name_byte b   an ASCII letter, a digit or an underscore
--   is_reserved w    a word with a meaning of its own in scripts
--   is_name w        a letter followed by letters, digits and underscores, and no reserved word
use Rattle.std.specs.Prelude.{ℕ, Bool, false, ◌&&◌, ◌||◌, ◌==◌, nat_le, not, List, [], ◌∷◌, codes}
use Rattle.std.specs.List.{list_all}
use Rattle.std.specs.Str.{bytes_eq}

abbrev pub is_letter : ℕ → Bool
is_letter b = (nat_le 65 b && nat_le b 90) || (nat_le 97 b && nat_le b 122)

abbrev pub is_name_byte : ℕ → Bool
is_name_byte b = is_letter b || ((nat_le 48 b && nat_le b 57) || (b == 95))

abbrev pub is_reserved : List ℕ → Bool
is_reserved w = bytes_eq w (codes "LIB") || (bytes_eq w (codes "ring") || (bytes_eq w (codes "matrix") || (bytes_eq w (codes "print") || (bytes_eq w (codes "invariant_ring") || bytes_eq w (codes "dp")))))

abbrev pub is_name : List ℕ → Bool
is_name [] = false
is_name (b ∷ bs) = is_letter b && (list_all is_name_byte bs && not (is_reserved (b ∷ bs)))
