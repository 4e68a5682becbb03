use Rattle.cert_check.proofs.CheckSpaces.{plain_of}
use Rattle.cert_check.proofs.CheckedWalk.{accepted}
use Rattle.cert_check.proofs.walk.walk_over.Goals as goal

pub checked_module-requires-clause-beside : goal.checked_module-requires-clause-beside
checked_module-requires-clause-beside c = c.in_ok-marked.ensures.beside

pub check_evidence-requires-clause-beside : goal.check_evidence-requires-clause-beside
check_evidence-requires-clause-beside c = c.in_ok-marked.ensures.beside

pub returns-clause-accepted : goal.returns-clause-accepted
returns-clause-accepted c =
    accepted (plain_of c.args.space.now) c.args.gens.now c.args.cert.now c.args.limits.now c.requires.given c.in_ok-check_reducibility.ensures.passes
