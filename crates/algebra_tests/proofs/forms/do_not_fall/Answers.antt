use Rattle.std.proofs.Common.{arith}
use Rattle.algebra_tests.proofs.TestedForms.{rising_first, rising_more}
use Rattle.algebra_tests.proofs.forms.do_not_fall.Goals as goal

pub loop-i-init : goal.loop-i-init
loop-i-init c = rising_first c.args.degrees.now

pub loop-i-preserved : goal.loop-i-preserved
loop-i-preserved c = rising_more c.args.degrees.now c.loop-i.i (omega arith) c.loop-i-test.true (omega arith) c.loop-i.invariant

pub returns : goal.returns
returns c = record { rise = λ _ i j below inside. c.loop-i.invariant i j below (omega arith) }
