use Rattle.std.proofs.Common.{subst}
use Rattle.cert_check.proofs.CheckSpaces.{plain_of}
use Rattle.cert_check.specs.Conditions.{K8}
use Rattle.cert_check.specs.Endings.{IsFirstFailing}
use Rattle.cert_check.proofs.EvidenceSteps.{order_met, primaries_met, evidence_holds, evidence_fails}
use Rattle.cert_check.proofs.evidence.check_evidence.Goals as goal

pub first_failing-requires-clause-order : goal.first_failing-requires-clause-order
first_failing-requires-clause-order c = order_met (plain_of c.args.space.now) c.args.gens.now c.args.cert.now c.args.limits.now c.requires.given c.requires.reached

pub first_failing-requires-clause-primaries : goal.first_failing-requires-clause-primaries
first_failing-requires-clause-primaries c = primaries_met (plain_of c.args.space.now) c.args.gens.now c.args.cert.now c.args.limits.now c.requires.given c.requires.reached

pub returns-in-None-clause-reached : goal.returns-in-None-clause-reached
returns-in-None-clause-reached c =
    evidence_holds (plain_of c.args.space.now) c.args.gens.now c.args.cert.now c.args.limits.now c.requires.given c.requires.reached
    (subst (IsFirstFailing (K8 (plain_of c.args.space.now).field c.args.gens.now c.args.cert.now)) c.in-None.is c.in_ok-first.ensures.first)

pub returns-in-Some-clause-told : goal.returns-in-Some-clause-told
returns-in-Some-clause-told c =
    evidence_fails (plain_of c.args.space.now) c.args.gens.now c.args.cert.now c.args.limits.now c.requires.given c.requires.reached c.in-Some.item
    (subst (IsFirstFailing (K8 (plain_of c.args.space.now).field c.args.gens.now c.args.cert.now)) c.in-Some.is c.in_ok-first.ensures.first)
