use Rattle.std.proofs.Common.{◌≡◌, arith}
use Rattle.alg_core.specs.Spaces.{over}
use Rattle.alg_core.specs.Vectors.{zero_vector}
use Rattle.poly_module.specs.SpaceVectors.{vector_of}
use Rattle.module_groebner.proofs.DivisionSteps.{member_has}
use Rattle.module_groebner.proofs.InterreductionSteps.{place_end, place_equal, place_less, place_greater}
use Rattle.module_groebner.proofs.interreduction.place_for.Goals as goal

pub compare_leads-requires-clause-left_not_zero : goal.compare_leads-requires-clause-left_not_zero
compare_leads-requires-clause-left_not_zero g c =
    let S = over g.F.Field.field g.O.TermOrder.order c.args.space.now in
    member_has S (λ m. m) (λ u. ¬ (u ≡ zero_vector S.field)) c.args.list.now c.loop-i.i c.index-list-i.result c.loop-i-test.true c.index-list-i.is c.requires.nonzero

pub returns-in-Equal-clause-none : goal.returns-in-Equal-clause-none
returns-in-Equal-clause-none g c =
    let S = over g.F.Field.field g.O.TermOrder.order c.args.space.now in
    λ _. place_equal S (λ m. m) c.args.list.now (vector_of S (λ m. m) c.args.v.now) c.loop-i.i c.index-list-i.result c.loop-i-test.true c.index-list-i.is c.compare_leads.result c.compare_leads.ensures.is
    (member_has S (λ m. m) (λ u. ¬ (u ≡ zero_vector S.field)) c.args.list.now c.loop-i.i c.index-list-i.result c.loop-i-test.true c.index-list-i.is c.requires.nonzero) c.in-Equal.is

pub returns-in-Less-clause-some : goal.returns-in-Less-clause-some
returns-in-Less-clause-some g c =
    let S = over g.F.Field.field g.O.TermOrder.order c.args.space.now in
    place_less S (λ m. m) c.args.list.now (vector_of S (λ m. m) c.args.v.now) c.loop-i.i c.index-list-i.result c.loop-i-test.true c.index-list-i.is c.compare_leads.result c.compare_leads.ensures.is c.in-Less.is c.loop-i.invariant

pub loop-i-preserved : goal.loop-i-preserved
loop-i-preserved g c =
    let S = over g.F.Field.field g.O.TermOrder.order c.args.space.now in
    place_greater S (λ m. m) c.args.list.now (vector_of S (λ m. m) c.args.v.now) c.loop-i.i c.index-list-i.result c.loop-i-test.true c.index-list-i.is c.compare_leads.result c.compare_leads.ensures.is c.in-Greater.is c.loop-i.invariant

pub returns-clause-some : goal.returns-clause-some
returns-clause-some g c =
    let S = over g.F.Field.field g.O.TermOrder.order c.args.space.now in
    place_end S (λ m. m) c.args.list.now (vector_of S (λ m. m) c.args.v.now) c.loop-i.i (omega arith) c.loop-i.invariant
