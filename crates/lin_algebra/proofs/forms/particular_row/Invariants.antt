use Rattle.std.proofs.Common.{◌≡◌, take}
use Rattle.alg_core.specs.Fields.{scalars}
use Rattle.lin_algebra.specs.Vectors.{vector, IsRow}
use Rattle.lin_algebra.specs.Bases.{basis_rows}
use Rattle.lin_algebra.specs.Kernels.{particular}
use Rattle.lin_algebra.proofs.forms.particular_row.Given as goal

abbrev pub invariant-loop-old : goal.invariant-loop-old
invariant-loop-old g l =
    let k = g.F.Field.field l.field in
    record {
      row : IsRow k l.n l.row.items;
      is : vector k l.row.items ≡ particular (scalars k) l.j (basis_rows k (take l.old-index l.basis));
    }
