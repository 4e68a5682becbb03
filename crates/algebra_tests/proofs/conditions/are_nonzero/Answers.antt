use Rattle.std.proofs.Common.{◌≡◌, refl, arith}
use Rattle.alg_core.specs.Spaces.{over}
use Rattle.alg_core.specs.Vectors.{zero_vector}
use Rattle.poly_module.specs.SpaceVectors.{vector_of}
use Rattle.poly_module.proofs.CheckedEntries.{all_more, all_done}
use Rattle.algebra_tests.proofs.SmallVectors.{not_none}
use Rattle.algebra_tests.proofs.conditions.are_nonzero.Goals as goal

pub loop-i-preserved : goal.loop-i-preserved
loop-i-preserved g c =
    let S = over g.F.Field.field g.O.TermOrder.order c.args.space.now in
    all_more (vector_of S (λ m. m)) (λ v. ¬ (v ≡ zero_vector S.field)) c.args.vs.now c.loop-i.i c.index-vs-i.result c.loop-i-test.true c.index-vs-i.is c.loop-i.invariant
    (λ zero. not_none _ c.is_none.result c.is_none.ensures c.if-is_none.false (c.lead.ensures.none.1 zero))

pub returns : goal.returns
returns g c =
    let S = over g.F.Field.field g.O.TermOrder.order c.args.space.now in
    record { is = λ _. all_done (vector_of S (λ m. m)) (λ v. ¬ (v ≡ zero_vector S.field)) c.args.vs.now c.args.vs.now c.loop-i.i (omega arith) refl c.loop-i.invariant }
