use Rattle.std.proofs.Common.{◌≡◌, All, map}
use Rattle.alg_core.specs.Fields.{scalars}
use Rattle.lin_algebra.specs.Vectors.{vector, IsRow}
use Rattle.lin_algebra.specs.Bases.{basis_rows}
use Rattle.lin_algebra.specs.Kernels.{kernel_vector}
use Rattle.lin_algebra.proofs.CutLaws.{listing}
use Rattle.lin_algebra.proofs.forms.kernel.Given as goal

abbrev pub invariant-loop-j : goal.invariant-loop-j
invariant-loop-j g l =
    let k = g.F.Field.field l.field in
    record {
      rows : All (λ r. IsRow k l.n r.items) l.rows.items;
      list : map (λ r. vector k r.items) l.rows.items ≡ listing (λ j. kernel_vector (scalars k) j (basis_rows k l.basis.items)) l.j;
    }
