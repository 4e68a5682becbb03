use Rattle.std.proofs.Common.{◌≡◌, ◌*◌, All, map, length}
use Rattle.alg_core.specs.Fields.{Has, scalars}
use Rattle.lin_algebra.specs.Vectors.{vector, unit}
use Rattle.lin_algebra.specs.Matrices.{cut}
use Rattle.lin_algebra.proofs.CutLaws.{listing}
use Rattle.lin_algebra.proofs.inverses.identity.Given as goal

abbrev pub invariant-loop-i : goal.invariant-loop-i
invariant-loop-i g l =
    let k = g.F.Field.field l.field in
    record {
      count : length l.cells.items ≡ l.i * l.n;
      has : All (Has k) l.cells.items;
      rows : map (vector k) (cut l.i l.n l.cells.items) ≡ listing (unit (scalars k)) l.i;
    }
