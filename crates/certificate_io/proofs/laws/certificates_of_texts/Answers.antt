use Rattle.certificate_io.proofs.CertificateParts.{certificates_are_one}
use Rattle.certificate_io.proofs.laws.certificates_of_texts.Goals as goal

pub returns : goal.returns
returns c = record { one = certificates_are_one }
