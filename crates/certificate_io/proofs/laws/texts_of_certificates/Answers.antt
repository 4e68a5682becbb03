use Rattle.certificate_io.specs.Parts.{lines_in, parts_of}
use Rattle.certificate_io.proofs.PrintedParts.{printed_text, printed_passes}
use Rattle.certificate_io.proofs.laws.texts_of_certificates.Goals as goal

pub returns : goal.returns
returns c = record { texts = λ d is. (lines_in (parts_of d), printed_text d is, printed_passes d is) }
