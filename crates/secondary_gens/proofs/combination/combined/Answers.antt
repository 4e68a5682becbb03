use Rattle.std.proofs.Common.{arith}
use Rattle.alg_core.specs.DpOrder.{dp_order}
use Rattle.alg_core.specs.Spaces.{over}
use Rattle.secondary_gens.proofs.CombinationSteps.{summed_none, summed_more, summed_all}
use Rattle.secondary_gens.proofs.combination.combined.Goals as goal

pub loop-i-init : goal.loop-i-init
loop-i-init g c = summed_none (over g.F.Field.field (λ o. dp_order o.weights.items) c.args.marks.now) c.args.factors.now c.args.combinations.now c.zero-sum.result c.zero-sum.ensures.is

pub loop-i-preserved : goal.loop-i-preserved
loop-i-preserved g c =
    summed_more (over g.F.Field.field (λ o. dp_order o.weights.items) c.args.marks.now) c.args.factors.now c.args.combinations.now c.loop-i.i c.index-factors-i.result c.index-combinations-i.result c.loop-i.sum c.in_ok-multiple.multiple c.in_ok-sum.sum
    c.requires.each c.loop-i-test.true c.index-factors-i.is c.index-combinations-i.is c.in_ok-multiple.ensures.multiple c.in_ok-sum.ensures.sum c.loop-i.invariant

pub returns-clause-sum : goal.returns-clause-sum
returns-clause-sum g c =
    summed_all (over g.F.Field.field (λ o. dp_order o.weights.items) c.args.marks.now) c.args.factors.now c.args.combinations.now c.loop-i.i c.loop-i.sum c.requires.each (omega (arith, c.loop-i-test.false)) c.loop-i.invariant
