use Rattle.std.proofs.Common.{◌<◌, arith, length}
use Rattle.poly_module.proofs.GreatestSteps.{greatest_start, greatest_step, greatest_end, at_term}
use Rattle.poly_module.proofs.substitution.greatest_exponent.Goals as goal

pub loop-j-init : goal.loop-j-init
loop-j-init g c = greatest_start c.args.i g.M.Monomial.exps c.terms-terms.result.now

pub exp-exponent-requires : goal.exp-exponent-requires
exp-exponent-requires g c = record { within = at_term g.M.Monomial.exps (λ e. c.args.i < length e.0.1) c.terms-terms.result.now c.args.f.now c.loop-j.j c.index-terms-j.result c.terms-terms.ensures.is c.loop-j-test.true c.index-terms-j.is c.requires.within }

pub loop-j-preserved : goal.loop-j-preserved
loop-j-preserved g c = greatest_step c.args.i g.M.Monomial.exps c.terms-terms.result.now c.loop-j.j c.index-terms-j.result c.loop-j.greatest c.exp-exponent.result _ (omega arith) c.loop-j-test.true c.index-terms-j.is c.exp-exponent.ensures.is c.loop-j.invariant

pub returns-clause-covers : goal.returns-clause-covers
returns-clause-covers g c = (greatest_end c.args.i g.M.Monomial.exps _ c.args.f.now c.loop-j.j _ (omega arith) c.terms-terms.ensures.is c.loop-j.invariant).covers

pub returns-clause-least : goal.returns-clause-least
returns-clause-least g c = (greatest_end c.args.i g.M.Monomial.exps _ c.args.f.now c.loop-j.j _ (omega arith) c.terms-terms.ensures.is c.loop-j.invariant).least
