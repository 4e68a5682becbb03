use Rattle.std.proofs.Common.{ℕ, ◌++◌, ◌<◌, ◌||◌, length, not, arith, ap, sym, refl, ◌∙◌, List}
use Rattle.poly_text.specs.Texts.{variable_in}
use Rattle.poly_text.specs.Printing.{joined, is_none}
use Rattle.poly_text.proofs.OutputLaws.{says_same}
use Rattle.poly_text.proofs.SpellingLaws.{factors_more_some, factors_more_none, joined_more, begun_more}
use Rattle.poly_text.proofs.print.put_factors.Goals as goal
use Rattle.poly_text.proofs.print.put_factors.Goals.{then-exponent-ne0, else-exponent-ne0}

pub loop-i-preserved : goal.loop-i-preserved
loop-i-preserved c =
    let v = variable_in c.args.names.now c.args.primaries in
    let a : List ℕ = c.args.mono.now in
    let i : ℕ = c.loop-i.i in
    let e : ℕ = c.exp-exponent.result in
    let within : i < length a = omega arith in
    elim c.if-exponent-ne0.branch [
      | then-exponent-ne0 b ↦
          let all = factors_more_some v a i e within c.exp-exponent.ensures.is b.if-exponent-ne0.true in
          record {
            text = λ w says. says_same _ _ _ _ (sym b.output-is) (joined_more _ _ _ _ _ w _ _ refl c.loop-i.invariant.begun refl all) (b.put_factor.ensures.is _ (c.loop-i.invariant.text w says));
            begun = b.begun-is ∙ begun_more _ _ _ _ all;
          }
      | else-exponent-ne0 b ↦
          let all = factors_more_none v a i e within c.exp-exponent.ensures.is b.if-exponent-ne0.false in
          record {
            text = λ w says. says_same _ _ _ _ (sym b.output-is) (ap (λ fs. w ++ joined c.args.is_begun fs) (sym all)) (c.loop-i.invariant.text w says);
            begun = b.begun-is ∙ c.loop-i.invariant.begun ∙ ap (λ fs. c.args.is_begun || not (is_none fs)) (sym all);
          }
    ]
