use Rattle.std.proofs.Common.{◌≡◌, All, drop}
use Rattle.alg_core.specs.Fields.{Has, scalars}
use Rattle.lin_algebra.specs.Vectors.{vector}
use Rattle.lin_algebra.specs.Bases.{basis_rows, reduced_by}
use Rattle.lin_algebra.proofs.elimination.reduce.Given as goal

abbrev pub invariant-loop-old : goal.invariant-loop-old
invariant-loop-old g l =
    let k = g.F.Field.field l.field in
    record {
      has : All (Has k) l.row;
      reduced : reduced_by (scalars k) (vector k l.row) (basis_rows k (drop l.old-index l.basis)) ≡ reduced_by (scalars k) (vector k l.initial.row) (basis_rows k l.basis);
    }
