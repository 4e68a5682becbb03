use Rattle.invring_app.proofs.OwnAccepted.{own-accepted}
use Rattle.invring_app.proofs.laws.own_certificates_accepted.Goals as goal

pub returns : goal.returns
returns c = record { accepted = own-accepted }
