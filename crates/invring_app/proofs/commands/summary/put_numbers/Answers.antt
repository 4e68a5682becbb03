use Rattle.std.proofs.Common.{◌++◌, refl}
use Rattle.poly_text.proofs.OutputLaws.{says_same}
use Rattle.invring_app.proofs.SummarySteps.{line_put, number_more}
use Rattle.invring_app.proofs.commands.summary.put_numbers.Goals as goal

pub loop-i-preserved : goal.loop-i-preserved
loop-i-preserved c =
    λ w says. says_same _ _ _ _ refl (number_more c.args.numbers.now c.loop-i.i w c.loop-i-test.true) (c.put_number.ensures.is _ (c.put-in-loop-i.ensures.is _ (c.loop-i.invariant w says)))

pub returns : goal.returns
returns c = record {
  is = λ w says. says_same _ _ _ _ refl (line_put w c.args.word.now c.args.numbers.now c.loop-i.i c.loop-i-test.false) (c.put-2.ensures.is _ (c.loop-i.invariant (w ++ c.args.word.now) (c.put.ensures.is w says)));
}
