-- Polynomials of the tests, whose sums and products stay far from every bound.
--
--   IsSmallEntry e   position 0 and three exponents, none of them over 1000
--   IsSmall es       each entry is small
use Rattle.std.specs.Prelude.{◌≡◌, ℕ, List, length, All}
use Rattle.alg_core.specs.ExponentLists.{Within}
use Rattle.alg_core.specs.Vectors.{Entry}

-- position 0 and three exponents, none of them over 1000
pub record IsSmallEntry (e : Entry ℕ) : Type 0 where
  pub position : e.0.0 ≡ 0
  pub three : length e.0.1 ≡ 3
  pub within : Within 1000 e.0.1

-- each entry is small
abbrev pub IsSmall : List (Entry ℕ) → Type 0
IsSmall es = All IsSmallEntry es
