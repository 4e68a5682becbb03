use Rattle.cert_check.proofs.EndsOnce.{ends_once}
use Rattle.cert_check.proofs.laws.checks_end_once.Goals as goal

pub returns : goal.returns
returns c = record { one = ends_once }
