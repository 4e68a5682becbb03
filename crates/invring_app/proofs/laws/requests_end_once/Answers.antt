use Rattle.invring_app.proofs.CommandCases.{ending-one}
use Rattle.invring_app.proofs.laws.requests_end_once.Goals as goal

pub returns : goal.returns
returns c = record { one = λ r i e f. ending-one r.command r.limits i e f }
