use Rattle.cert_check.proofs.CheckSpaces.{plain_of, marks_of}
use Rattle.cert_check.proofs.CombinationSteps.{value_room}
use Rattle.cert_check.proofs.LiftTests.{lift_exact, nothing_left}
use Rattle.cert_check.proofs.lifts.is_lift.Goals as goal

pub substitute-requires-clause-room : goal.substitute-requires-clause-room
substitute-requires-clause-room c = value_room (plain_of c.args.space.now) c.requires.positive c.args.images.now c.args.f.now c.requires.images c.requires.terms.low

pub returns : goal.returns
returns c = record {
  exact = lift_exact (plain_of c.args.space.now) (marks_of c.args.marked.now) c.args.images.now c.args.f.now c.in_ok-value.value c.is_empty.result
      (c.is_form_from.ensures.exact.0 c.if-not-is_form_from.false) c.in_ok-value.ensures.value
      (nothing_left c.in_ok-value.value c.terms.result.now c.is_empty.result c.terms.ensures.is c.is_empty.ensures);
}
