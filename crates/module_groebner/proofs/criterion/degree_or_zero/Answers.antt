use Rattle.std.proofs.Common.{◌^◌, ◌-◌, refl, arith}
use Rattle.alg_core.specs.Spaces.{over}
use Rattle.poly_module.specs.SpaceVectors.{vector_of}
use Rattle.module_groebner.specs.HomogeneousLists.{cap_limit}
use Rattle.module_groebner.proofs.BasisSteps.{up_to_more, degree_low, zero_up_to}
use Rattle.module_groebner.proofs.criterion.degree_or_zero.Goals as goal

pub degree-requires-clause-small : goal.degree-requires-clause-small
degree-requires-clause-small g c =
    let S = over g.F.Field.field g.O.TermOrder.order c.args.space.now in
    up_to_more S (λ m. m) cap_limit (2 ^ 64 - 1) (omega arith) (vector_of S (λ m. m) c.args.v.now) c.requires.degree

pub overflow_cast-result : goal.overflow_cast-result
overflow_cast-result g c =
    let S = over g.F.Field.field g.O.TermOrder.order c.args.space.now in
    let low = degree_low S (λ m. m) cap_limit c.in-Some.d (vector_of S (λ m. m) c.args.v.now) c.requires.degree c.in-Some.ensures.degree in
    omega (arith, low)

pub returns-in-None-clause-bound : goal.returns-in-None-clause-bound
returns-in-None-clause-bound g c =
    let S = over g.F.Field.field g.O.TermOrder.order c.args.space.now in
    zero_up_to S (λ m. m) 0 (vector_of S (λ m. m) c.args.v.now) (c.in-None.ensures.none.0 refl)
