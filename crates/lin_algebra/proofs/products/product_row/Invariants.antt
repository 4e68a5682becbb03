use Rattle.std.proofs.Common.{◌≡◌}
use Rattle.lin_algebra.specs.Vectors.{vector, IsRow}
use Rattle.lin_algebra.proofs.ProductLaws.{times}
use Rattle.lin_algebra.proofs.products.product_row.Given as goal

abbrev pub invariant-loop-l : goal.invariant-loop-l
invariant-loop-l g l =
    let k = g.F.Field.field l.field in
    record {
      row : IsRow k l.b.cols l.sum.items;
      product : vector k l.sum.items ≡ times k l.b l.l (vector k l.row);
    }
