use Rattle.cert_check.proofs.CheckSpaces.{plain_of}
use Rattle.cert_check.proofs.AverageTests.{average_exact}
use Rattle.cert_check.proofs.MonomialForms.{monomial_low}
use Rattle.cert_check.proofs.averages.is_average.Goals as goal

pub apply-requires-clause-low : goal.apply-requires-clause-low
apply-requires-clause-low c =
    monomial_low (plain_of c.args.space.now) c.args.line.now.mono c.requires.line.wide c.requires.line.low c.in_ok-mono.mono c.in_ok-mono.ensures.is

pub returns : goal.returns
returns c = record {
  exact = average_exact (plain_of c.args.space.now) c.args.averaging.now c.args.theta.now c.args.secs.now c.args.line.now c.in_ok-mono.mono c.in_ok-average.average c.in_ok-value.value
      c.are_equal.result c.in_ok-mono.ensures.is c.in_ok-average.ensures.average c.in_ok-value.ensures.value c.are_equal.ensures.exact;
}
