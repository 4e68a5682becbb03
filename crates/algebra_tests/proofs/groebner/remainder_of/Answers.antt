use Rattle.std.proofs.Common.{refl}
use Rattle.alg_core.specs.Spaces.{over}
use Rattle.poly_module.specs.SpaceVectors.{vectors_of}
use Rattle.algebra_tests.proofs.SmallVectors.{some_degrees}
use Rattle.algebra_tests.proofs.groebner.remainder_of.Goals as goal

pub divide-requires-clause-homogeneous : goal.divide-requires-clause-homogeneous
divide-requires-clause-homogeneous g c =
    let S = over g.F.Field.field g.O.TermOrder.order c.args.space.now in
    some_degrees S (vectors_of S (λ m. m) c.args.list.now) (c.if-not-are_homogeneous.ensures.listed refl)
