use Rattle.std.proofs.Common.{refl, arith}
use Rattle.alg_core.specs.Spaces.{over}
use Rattle.poly_module.specs.SpaceVectors.{vector_of, vectors_of}
use Rattle.poly_module.proofs.CheckedEntries.{all_more, all_done}
use Rattle.module_groebner.specs.HomogeneousLists.{cap_limit, IsHomogeneousUpTo}
use Rattle.algebra_tests.proofs.SmallVectors.{as_divided}
use Rattle.algebra_tests.proofs.conditions.are_homogeneous.Goals as goal

pub loop-i-preserved : goal.loop-i-preserved
loop-i-preserved g c =
    let S = over g.F.Field.field g.O.TermOrder.order c.args.space.now in
    all_more (vector_of S (λ m. m)) (IsHomogeneousUpTo S cap_limit) c.args.vs.now c.loop-i.i c.index-vs-i.result c.loop-i-test.true c.index-vs-i.is c.loop-i.invariant (c.is_small_form.ensures.is c.if-not-is_small_form.false)

pub returns : goal.returns
returns g c =
    let S = over g.F.Field.field g.O.TermOrder.order c.args.space.now in
    let all = all_done (vector_of S (λ m. m)) (IsHomogeneousUpTo S cap_limit) c.args.vs.now c.args.vs.now c.loop-i.i (omega arith) refl c.loop-i.invariant in
    record { divided = λ _. as_divided S (vectors_of S (λ m. m) c.args.vs.now) all; listed = λ _. all }
