use Rattle.std.proofs.Common.{◌∙◌, arith}
use Rattle.finvar_text.proofs.DemoSteps.{digits_are, digits_more}
use Rattle.finvar_text.proofs.demo.digits.Goals as goal

pub loop-place-preserved : goal.loop-place-preserved
loop-place-preserved c = c.in_ok-push.ensures.items ∙ digits_more c.args.n c.loop-place.place _ _ c.digit.ensures.is c.loop-place.invariant

pub returns : goal.returns
returns c = record { are = digits_are c.args.n _ c.loop-place.place (omega arith) c.loop-place.invariant }
