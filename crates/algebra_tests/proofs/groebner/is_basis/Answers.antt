use Rattle.std.proofs.Common.{refl}
use Rattle.alg_core.specs.Spaces.{over}
use Rattle.poly_module.specs.SpaceVectors.{vectors_of}
use Rattle.algebra_tests.proofs.SmallVectors.{low_members}
use Rattle.algebra_tests.proofs.groebner.is_basis.Goals as goal

pub is_reduced_basis-requires-clause-degrees : goal.is_reduced_basis-requires-clause-degrees
is_reduced_basis-requires-clause-degrees g c =
    let S = over g.F.Field.field g.O.TermOrder.order c.args.space.now in
    low_members S (vectors_of S (λ m. m) c.args.list.now) (c.if-not-are_homogeneous.ensures.listed refl)

pub is_reduced_basis-requires-clause-homogeneous : goal.is_reduced_basis-requires-clause-homogeneous
is_reduced_basis-requires-clause-homogeneous g c = c.if-not-are_homogeneous-2.ensures.divided refl
