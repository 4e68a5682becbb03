use Rattle.std.proofs.Common.{refl}
use Rattle.alg_core.specs.Spaces.{entry}
use Rattle.poly_text.specs.Texts.{term_in}
use Rattle.poly_text.proofs.OutputLaws.{says_same}
use Rattle.poly_text.proofs.SpellingLaws.{term_joined}
use Rattle.poly_text.proofs.print.put_term.Goals as goal

pub returns : goal.returns
returns c =
    let t = term_in c.args.names.now c.args.primaries c.args.p (entry (λ m. m) c.args.term.now) in
    record {
      is = λ w says. says_same _ _ _ _ refl
          (term_joined c.args.is_first _ _ _ t w _ _ _ _ c.is_negative.ensures.is c.absolute-size.ensures.is refl refl refl c.put_factors-is_begun.ensures.begun refl)
          (c.put_one.ensures.is _ (c.put_factors-is_begun.ensures.is _ (c.put_coefficient.ensures.is _ (c.put_sign.ensures.is w says))));
    }
