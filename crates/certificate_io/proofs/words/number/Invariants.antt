use Rattle.std.proofs.Common.{take}
use Rattle.certificate_io.proofs.DigitSteps.{IsReadTo}
use Rattle.certificate_io.proofs.words.number.Given as goal

abbrev pub invariant-loop-i : goal.invariant-loop-i
invariant-loop-i l = IsReadTo l.limit (take l.i l.text) l.number
