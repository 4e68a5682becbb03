use Rattle.std.proofs.Common.{refl}
use Rattle.poly_text.proofs.OutputLaws.{says_same}
use Rattle.certificate_io.proofs.LineLaws.{words_of_two, positions_below}
use Rattle.certificate_io.proofs.lines.put_image_line.Goals as goal

pub returns : goal.returns
returns c = record {
  is = λ w says. says_same _ _ _ _ refl (words_of_two w _ _ _ _ _)
      (c.put-3.ensures.is _ (c.put_comb.ensures.is c.args.count (positions_below c.args.count c.args.image.now.comb.vector c.requires.printable.positions) _ (c.put-2.ensures.is _ (c.put_monomial.ensures.is _ (c.put.ensures.is w says)))));
}
