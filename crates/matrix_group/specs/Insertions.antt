-- Matrices in a set.
--
--   are_same eq a b    the matrices a and b have as many rows, as many columns, and the same cells, by the test eq
use Rattle.std.specs.Prelude.{Bool, ◌&&◌, nat_eq}
use lib.Pointwise.{pointwise}
use Rattle.lin_algebra.specs.declared.matrix.Matrix.{Matrix}

abbrev pub are_same : {E : Type 0} → (E → E → Bool) → Matrix E → Matrix E → Bool
are_same eq a b = nat_eq a.rows b.rows && (nat_eq a.cols b.cols && pointwise eq a.cells.items b.cells.items)
