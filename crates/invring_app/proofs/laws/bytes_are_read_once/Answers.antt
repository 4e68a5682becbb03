use Rattle.invring_app.proofs.RunLaws.{input-one, refusal-one, input-not-refused}
use Rattle.invring_app.proofs.laws.bytes_are_read_once.Goals as goal

pub returns : goal.returns
returns c = record { input = input-one; refusal = refusal-one; apart = input-not-refused }
