use Rattle.std.proofs.Common.{◌∙◌, arith}
use Rattle.std.proofs.lemmas.List.{map-id}
use Rattle.poly_module.proofs.MappedTerms.{mapped_more, mapped_all}
use Rattle.poly_module.proofs.copies.copy.Goals as goal

pub loop-i-preserved : goal.loop-i-preserved
loop-i-preserved g c = mapped_more g.M.Monomial.exps (λ e. e) c.terms-xs.result.now _ _ c.loop-i.i c.index-xs-i.result _ c.loop-i-test.true c.index-xs-i.is c.in_ok-push.ensures.items c.in_ok-term_at.ensures.is c.loop-i.invariant

pub returns : goal.returns
returns g c = record { same = mapped_all g.M.Monomial.exps (λ e. e) c.terms-xs.result.now _ _ _ c.loop-i.i (omega arith) c.loop-i.invariant c.terms-xs.ensures.is c.of.ensures.is ∙ map-id _ }
