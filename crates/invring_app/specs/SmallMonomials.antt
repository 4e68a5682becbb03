-- Monomials of a bounded degree.
--
--   IsSmallMonomial n a    the exponents a are those of a monomial in n variables of a degree of at most 12288
use Rattle.std.specs.Prelude.{◌≡◌, ◌≤◌, ℕ, List, length}
use Rattle.poly_module.specs.GreatestExponents.{total}

pub record IsSmallMonomial (n : ℕ) (a : List ℕ) : Type 0 where
  pub wide : length a ≡ n
  pub low : total a ≤ 12288
