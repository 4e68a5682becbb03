use Rattle.cert_check.proofs.CheckSpaces.{plain_of}
use Rattle.cert_check.proofs.MonomialForms.{monomial_given}
use Rattle.cert_check.proofs.averages.as_polynomial.Goals as goal

pub returns : goal.returns
returns c = record {
  is = monomial_given (plain_of c.args.space.now) c.args.mono.now c.in_ok-copy.field-0 c.one-coef.result c.in_ok-made.made c.in_ok-copy.ensures.ok c.one-coef.ensures.is c.in_ok-made.ensures.sum;
}
