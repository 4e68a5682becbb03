use Rattle.std.proofs.Common.{ap, refl, arith}
use Rattle.alg_core.specs.Spaces.{entry, entries}
use Rattle.poly_text.specs.Texts.{term_in}
use Rattle.poly_text.proofs.OutputLaws.{says_same}
use Rattle.poly_text.proofs.SpellingLaws.{led_step, led_all}
use Rattle.poly_text.proofs.print.put_poly.Goals as goal

pub loop-i-preserved : goal.loop-i-preserved
loop-i-preserved c = λ w says.
    says_same _ _ _ _ refl
    (led_step (λ t. term_in c.args.names.now c.args.primaries c.args.p (entry (λ m. m) t)) c.terms-terms.result.now c.loop-i.i c.index-terms-i.result w c.loop-i-test.true c.index-terms-i.is)
    (c.put_term.ensures.is _ (c.loop-i.invariant w says))

pub returns : goal.returns
returns c = record {
  is = λ w says. says_same _ _ _ _ refl
      (led_all (term_in c.args.names.now c.args.primaries c.args.p) (entry (λ m. m)) c.terms-terms.result.now (entries (λ m. m) c.args.f.now) c.loop-i.i c.is_empty.result w (omega arith) c.is_empty.ensures
      (ap (entries (λ m. m)) c.terms-terms.ensures.is))
      (c.put_zero.ensures.is _ (c.loop-i.invariant w says));
}
