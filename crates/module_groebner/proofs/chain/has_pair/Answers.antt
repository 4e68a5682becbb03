use Rattle.std.proofs.Common.{arith}
use Rattle.module_groebner.proofs.ReductionSteps.{not_both}
use Rattle.module_groebner.proofs.LinkSteps.{none_more, none_there}
use Rattle.module_groebner.proofs.chain.has_pair.Goals as goal

pub loop-i-preserved : goal.loop-i-preserved
loop-i-preserved c = none_more c.args.pairs.now (c.args.a, c.args.b) c.loop-i.i (0, 0) c.loop-i-test.true c.loop-i.invariant (λ e. not_both _ (c.is_pair.ensures.is.1 e) c.if-is_pair.false)

pub returns : goal.returns
returns c = record { no = λ e. none_there c.args.pairs.now (c.args.a, c.args.b) (λ j d h. c.loop-i.invariant j d (omega arith)) }
