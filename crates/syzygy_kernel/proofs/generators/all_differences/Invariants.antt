use Rattle.std.proofs.Common.{map, take}
use Rattle.poly_module.specs.SpaceVectors.{vectors_of}
use Rattle.finite_certificate.specs.MarkSpaces.{mark_space}
use Rattle.syzygy_kernel.specs.GraphVectors.{AreAllDifferences}
use Rattle.syzygy_kernel.proofs.generators.all_differences.Given as goal

abbrev pub invariant-loop-i : goal.invariant-loop-i
invariant-loop-i g l =
    let S = mark_space g.F.Field.field l.space in
    AreAllDifferences S l.space.order.vars (vectors_of S (λ m. m) l.primaries.theta) l.primaries.monomials (take l.i l.gens) (map (λ ps. ps.items) l.differences.items)
