use Rattle.std.proofs.Common.{ℕ, List, refl}
use Rattle.alg_core.specs.Spaces.{entry}
use Rattle.poly_text.proofs.OutputLaws.{says_same}
use Rattle.poly_text.proofs.SpellingLaws.{combination_joined}
use Rattle.poly_text.proofs.combinations.put_combination_term.Goals as goal

pub returns : goal.returns
returns c =
    let a : List ℕ = c.args.term.now.at.mono in
    record {
      is = λ w says. says_same _ _ _ _ refl
          (combination_joined w c.args.is_first c.args.p (entry (λ m. m) c.args.term.now) _ _ _ _ c.is_negative.ensures.is c.absolute-size.ensures.is c.len.ensures.is c.put_factors-is_begun.ensures.begun)
          (c.put_mark.ensures.is _ (c.put_star.ensures.is _ (c.put_factors-is_begun.ensures.is _ (c.put_coefficient.ensures.is _ (c.put_sign.ensures.is w says)))));
    }
