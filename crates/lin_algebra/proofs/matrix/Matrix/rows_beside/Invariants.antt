use Rattle.std.proofs.Common.{◌≡◌, map, take}
use Rattle.lin_algebra.specs.Matrices.{rows_of, joined}
use Rattle.lin_algebra.proofs.matrix.Matrix.rows_beside.Given as goal

abbrev pub invariant-loop-i : goal.invariant-loop-i
invariant-loop-i g l = map (λ r. r.items) l.rows.items ≡ take l.i (joined (rows_of l.self) (rows_of l.right))
