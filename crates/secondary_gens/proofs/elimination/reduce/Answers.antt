use Rattle.alg_core.specs.Spaces.{over}
use Rattle.secondary_gens.proofs.RowSteps.{taken_none, taken_more}
use Rattle.secondary_gens.proofs.elimination.reduce.Goals as goal

pub loop-i-init : goal.loop-i-init
loop-i-init g c =
    let S = over g.F.Field.field g.O.TermOrder.order c.args.space.now in
    taken_none S c.args.rows.now c.args.v.now c.in_ok-rest.rest c.new-factors.result.items c.requires.polynomial c.in_ok-rest.ensures.same c.new-factors.ensures.items

pub loop-i-preserved : goal.loop-i-preserved
loop-i-preserved g c =
    let S = over g.F.Field.field g.O.TermOrder.order c.args.space.now in
    taken_more S c.args.rows.now c.loop-i.i c.index-rows-i.result c.loop-i-test.true c.index-rows-i.is c.args.v.now c.loop-i.rest c.in_ok-rest-2.rest
    c.coefficient-factor.result c.loop-i.factors.items c.push.new.self.items c.requires.triangular
    c.coefficient-factor.ensures.has c.coefficient-factor.ensures.is c.in_ok-rest-2.ensures.polynomial c.in_ok-rest-2.ensures.difference c.in_ok-push.ensures.items c.loop-i.invariant
