use Rattle.cert_check.proofs.HoldsProperties.{holds_properties}
use Rattle.cert_check.proofs.laws.certificates_have_properties.Goals as goal

pub returns : goal.returns
returns c = record { properties = holds_properties }
