use Rattle.cert_check.proofs.CheckSpaces.{plain_of}
use Rattle.cert_check.proofs.CombinationSteps.{value_room}
use Rattle.cert_check.proofs.KernelTests.{value_exact}
use Rattle.cert_check.proofs.kernels.has_value.Goals as goal

pub substitute-requires-clause-room : goal.substitute-requires-clause-room
substitute-requires-clause-room c = value_room (plain_of c.args.space.now) c.requires.given.positive c.args.images.now c.args.u.now c.requires.images c.requires.polynomial.low

pub returns : goal.returns
returns c = record {
  exact = value_exact (plain_of c.args.space.now) c.args.images.now c.args.theta.now c.args.secs.now c.args.u.now c.args.comb.now.vector c.in_ok-value.value c.in_ok-wanted.wanted
      c.are_equal.result c.in_ok-value.ensures.value c.in_ok-wanted.ensures.value c.are_equal.ensures.exact;
}
