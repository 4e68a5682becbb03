use Rattle.invring_app.proofs.OwnReadableLaw.{own-read}
use Rattle.invring_app.proofs.laws.own_certificates_read.Goals as goal

pub returns : goal.returns
returns c = record { read = own-read }
