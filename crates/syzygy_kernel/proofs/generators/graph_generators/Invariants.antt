use Rattle.syzygy_kernel.specs.GraphVectors.{block_space}
use Rattle.syzygy_kernel.proofs.GraphLists.{AreOver}
use Rattle.syzygy_kernel.proofs.generators.graph_generators.Given as goal

abbrev pub invariant-loop-place : goal.invariant-loop-place
invariant-loop-place g l =
    AreOver (block_space g.F.Field.field l.graph) l.space.order.vars l.monomials l.differences.items (λ ps. ps.items) l.place l.vectors.items
