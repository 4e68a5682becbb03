use Rattle.std.proofs.Common.{length}
use Rattle.alg_core.specs.Spaces.{over}
use Rattle.poly_module.specs.SpaceVectors.{AreVectors, vectors_of}
use Rattle.module_groebner.specs.HomogeneousLists.{AreNonzero}
use Rattle.module_groebner.proofs.InterreductionSteps.{Minimal}
use Rattle.module_groebner.proofs.interreduction.minimal.Given as goal

abbrev pub invariant-loop-v : goal.invariant-loop-v
invariant-loop-v g l =
    let S = over g.F.Field.field g.O.TermOrder.order l.space in
    let of = vectors_of S (λ m. m) in
    AreVectors S (λ m. m) l.falling.items × AreNonzero S.field (of l.falling.items) × AreVectors S (λ m. m) l.kept.items × Minimal S (of l.fn.falling.items) (of l.falling.items) (of l.kept.items)

abbrev pub decreases-loop-v : goal.decreases-loop-v
decreases-loop-v g l = length l.falling.items
