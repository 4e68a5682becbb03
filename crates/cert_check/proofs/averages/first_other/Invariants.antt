use Rattle.cert_check.proofs.CheckSpaces.{plain_of}
use Rattle.cert_check.specs.EvidenceLines.{IsAveraged}
use Rattle.cert_check.proofs.FirstFailing.{Before}
use Rattle.cert_check.proofs.averages.first_other.Given as goal

abbrev pub invariant-loop-i : goal.invariant-loop-i
invariant-loop-i l =
    let S = plain_of l.space in
    Before (IsAveraged S l.averaging l.theta l.secs) l.lines l.i
