use Rattle.std.proofs.Common.{arith}
use Rattle.certificate_io.proofs.PartReadings.{one_number}
use Rattle.certificate_io.proofs.headings.characteristic_of.Goals as goal

pub returns-in-Some : goal.returns-in-Some
returns-in-Some c = record { is = λ n is. one_number 99999 c.in-Some.number n c.args.text.now (omega arith) c.in-Some.ensures.is is }
