use Rattle.alg_core.specs.Spaces.{over}
use Rattle.invring_app.proofs.SmallForms.{monomial_small, monomial_is}
use Rattle.invring_app.proofs.commands.ring.averages.as_polynomial.Goals as goal

pub returns-clause-form : goal.returns-clause-form
returns-clause-form g c =
    monomial_small (over g.F.Field.field g.O.TermOrder.order c.args.space.now) c.args.mono.now c.requires.small c.in_ok-copy.field-0 c.one-coef.result c.in_ok-made.made c.in_ok-copy.ensures.ok c.one-coef.ensures.is c.in_ok-made.ensures.sum

pub returns-clause-is : goal.returns-clause-is
returns-clause-is g c =
    monomial_is (over g.F.Field.field g.O.TermOrder.order c.args.space.now) c.args.mono.now c.requires.small c.in_ok-copy.field-0 c.one-coef.result c.in_ok-made.made c.in_ok-copy.ensures.ok c.one-coef.ensures.is c.in_ok-made.ensures.sum
