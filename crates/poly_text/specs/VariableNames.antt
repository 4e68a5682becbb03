-- The names of the variables of a text.
--
--   VariableNames   names of variables by their bytes, and how many primary invariants and irreducible generators have a sign; None
--                   says that the sign does not belong in the text
use Rattle.std.specs.Prelude.{ℕ, List, Option}

pub record VariableNames : Type 0 where
  pub vars : List (List ℕ)
  pub primaries : Option ℕ
  pub irreducibles : Option ℕ
