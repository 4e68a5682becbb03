use Rattle.std.proofs.Common.{length}
use Rattle.finite_certificate.proofs.spreading.+round.Given as goal

abbrev pub decreases-round : goal.decreases-round
decreases-round g l = length l.terms.now
