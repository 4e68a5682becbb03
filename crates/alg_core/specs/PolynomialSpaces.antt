-- The spaces of polynomials in variables of degree 1, and in such variables and marks.
--
--   plain_space k n       polynomials in n variables, by the degree reverse lexicographic order
--   marked_space k n ds   polynomials in n variables and marks of the degrees ds, by their block order
use Rattle.std.specs.Prelude.{ℕ, List, [], ◌∷◌, ◌++◌, replicate}
use Rattle.alg_core.specs.Fields.{FieldOn}
use Rattle.alg_core.specs.DpOrder.{dp_order}
use Rattle.alg_core.specs.BlockOrder.{block_order}
use Rattle.alg_core.specs.Spaces.{SpaceOver}

module _ {E : Type 0} (k : FieldOn E) (n : ℕ) where
  abbrev pub plain_space : SpaceOver E
  plain_space = record { field = k; order = dp_order (replicate n 1); weights = replicate n 1; shifts = 0 ∷ [] }

  abbrev pub marked_space : List ℕ → SpaceOver E
  marked_space ds = record { field = k; order = block_order n ds; weights = replicate n 1 ++ ds; shifts = 0 ∷ [] }
