use Rattle.std.proofs.Common.{get_or, refl}
use Rattle.alg_core.specs.Spaces.{over}
use Rattle.primary_search.proofs.CombinationSteps.{summed_none, summed_more, summed_all}
use Rattle.primary_search.proofs.candidates.combination.Goals as goal

pub loop-i-init : goal.loop-i-init
loop-i-init g c = summed_none (over g.F.Field.field g.O.TermOrder.order c.args.space.now) c.args.basis.now c.args.digits.now c.zero-sum.result c.zero-sum.ensures.is

pub loop-i-preserved : goal.loop-i-preserved
loop-i-preserved g c =
    summed_more (over g.F.Field.field g.O.TermOrder.order c.args.space.now) c.args.basis.now c.args.digits.now c.loop-i.i (get_or c.args.digits.now c.loop-i.i 0) c.of_number-factor.result c.index-basis-i.result c.loop-i.sum c.in_ok-multiple.multiple c.in_ok-sum.sum
    c.requires.each c.loop-i-test.true c.index-basis-i.is refl c.of_number-factor.ensures.is c.requires.polynomials c.in_ok-multiple.ensures.multiple c.in_ok-sum.ensures.sum c.loop-i.invariant

pub returns-clause-is : goal.returns-clause-is
returns-clause-is g c =
    summed_all (over g.F.Field.field g.O.TermOrder.order c.args.space.now) c.args.basis.now c.args.digits.now c.loop-i.i c.loop-i.sum c.requires.each c.loop-i-test.false c.loop-i.invariant
