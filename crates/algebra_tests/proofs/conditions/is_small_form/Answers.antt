use Rattle.std.proofs.Common.{rules}
use Rattle.alg_core.specs.Spaces.{over}
use Rattle.poly_module.specs.SpaceVectors.{vector_of}
use Rattle.module_groebner.specs.HomogeneousLists.{cap_limit}
use Rattle.algebra_tests.proofs.SmallVectors.{bounded_form}
use Rattle.algebra_tests.proofs.conditions.is_small_form.Goals as goal

pub returns-then-is_homogeneous : goal.returns-then-is_homogeneous
returns-then-is_homogeneous g c =
    let S = over g.F.Field.field g.O.TermOrder.order c.args.space.now in
    record { is = λ small. bounded_form S cap_limit (vector_of S (λ m. m) c.args.v.now) (c.is_homogeneous.ensures.homogeneous.0 (search rules)) (c.has_small_degrees.ensures.low small) }
