use Rattle.cert_check.proofs.CheckSpaces.{plain_of}
use Rattle.cert_check.specs.EvidenceLines.{IsValued}
use Rattle.cert_check.proofs.FirstFailing.{Before}
use Rattle.cert_check.proofs.kernels.first_other.Given as goal

abbrev pub invariant-loop-i : goal.invariant-loop-i
invariant-loop-i l =
    let S = plain_of l.space in
    Before (IsValued S l.images l.theta l.secs) l.lines l.i
