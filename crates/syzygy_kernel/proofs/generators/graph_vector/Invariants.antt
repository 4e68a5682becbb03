use Rattle.std.proofs.Common.{◌≡◌, ◌+◌, ◌*◌, [], length, map, take}
use Rattle.std.specs.Prelude.{slice_index_or}
use Rattle.poly_module.specs.SpaceVectors.{IsVectorOf, vector_of}
use Rattle.syzygy_kernel.specs.GraphVectors.{block_space}
use Rattle.syzygy_kernel.proofs.GraphSums.{partial}
use Rattle.syzygy_kernel.proofs.generators.graph_vector.Given as goal

abbrev pub invariant-loop-i : goal.invariant-loop-i
invariant-loop-i g l =
    let T = block_space g.F.Field.field l.graph in
    record {
      start : l.start ≡ l.i * length l.monomials;
      sum : IsVectorOf T (λ m. m) (partial T.field l.n l.monomials (l.graph.order.first + l.place) (map (λ ps. vector_of T (λ m. m) (slice_index_or ps.items l.place [])) (take l.i l.differences))) l.sum;
    }
