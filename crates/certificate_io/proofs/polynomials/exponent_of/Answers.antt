use Rattle.std.proofs.Common.{arith}
use Rattle.certificate_io.proofs.PartReadings.{one_number}
use Rattle.certificate_io.proofs.polynomials.exponent_of.Goals as goal

pub returns-in-Some : goal.returns-in-Some
returns-in-Some c = record { is = λ n is. one_number 9999 c.in-Some.exponent n c.args.digits.now (omega arith) c.in-Some.ensures.is is }
