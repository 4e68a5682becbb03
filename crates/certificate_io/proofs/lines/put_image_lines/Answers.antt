use Rattle.std.proofs.Common.{refl}
use Rattle.poly_text.proofs.OutputLaws.{says_same}
use Rattle.certificate_io.specs.Texts.{image_line}
use Rattle.certificate_io.specs.Printable.{IsPrintableComb}
use Rattle.certificate_io.proofs.LineLaws.{ended_step, all_here}
use Rattle.certificate_io.proofs.lines.put_image_lines.Goals as goal

pub loop-i-preserved : goal.loop-i-preserved
loop-i-preserved c = λ w says.
    says_same _ _ _ _ refl (ended_step (image_line c.args.p c.args.names.now c.args.count) c.args.images.now c.loop-i.i c.index-images-i.result w c.loop-i-test.true c.index-images-i.is) (c.put_image_line.ensures.is _ (c.loop-i.invariant w says))

pub put_image_line-requires : goal.put_image_line-requires
put_image_line-requires c = record {
  printable = all_here (λ x. IsPrintableComb c.args.p c.args.count x.comb) c.args.images.now c.loop-i.i c.index-images-i.result c.requires.printable c.loop-i-test.true c.index-images-i.is;
}
