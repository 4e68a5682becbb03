use Rattle.std.proofs.Common.{All, length}
use Rattle.alg_core.specs.Fields.{scalars}
use Rattle.lin_algebra.specs.Vectors.{vector, IsRow}
use Rattle.lin_algebra.specs.Bases.{basis_rows, cleared}
use Rattle.lin_algebra.proofs.BasisLaws.{no_row}
use Rattle.lin_algebra.proofs.RowLaws.{Written}
use Rattle.lin_algebra.proofs.elimination.clear_column.Given as goal

abbrev pub invariant-loop-i : goal.invariant-loop-i
invariant-loop-i g l =
    let k = g.F.Field.field l.field in
    record {
      rows : All (λ e. IsRow k (length l.new) e.entries.items) l.basis;
      cleared : Written (no_row k) (λ j. cleared (scalars k) l.pivot (vector k l.new)) (basis_rows k l.initial.basis) (basis_rows k l.basis) l.i;
    }
