use Rattle.std.proofs.Common.{refl}
use Rattle.poly_text.proofs.OutputLaws.{says_same}
use Rattle.certificate_io.proofs.LineLaws.{line_of_three}
use Rattle.certificate_io.proofs.lines.put_number_line.Goals as goal

pub returns : goal.returns
returns c = record {
  is = λ w says. says_same _ _ _ _ refl (line_of_three w c.args.word.now _ _ _) (c.put-3.ensures.is _ (c.put_number.ensures.is _ (c.put-2.ensures.is _ (c.put.ensures.is w says))));
}
