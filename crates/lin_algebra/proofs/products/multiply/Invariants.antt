use Rattle.std.proofs.Common.{◌≡◌, ◌*◌, All, map, length}
use Rattle.alg_core.specs.Fields.{Has}
use Rattle.lin_algebra.specs.Vectors.{vector}
use Rattle.lin_algebra.specs.Matrices.{cut, entries}
use Rattle.lin_algebra.proofs.CutLaws.{listing}
use Rattle.lin_algebra.proofs.ProductLaws.{times}
use Rattle.lin_algebra.proofs.products.multiply.Given as goal

abbrev pub invariant-loop-i : goal.invariant-loop-i
invariant-loop-i g l =
    let k = g.F.Field.field l.field in
    record {
      count : length l.cells.items ≡ l.i * l.b.cols;
      has : All (Has k) l.cells.items;
      product : map (vector k) (cut l.i l.b.cols l.cells.items) ≡ listing (λ i. times k l.b l.b.rows (entries k l.a i)) l.i;
    }
