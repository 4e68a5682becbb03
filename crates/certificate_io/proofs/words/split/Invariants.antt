use Rattle.std.proofs.Common.{take}
use Rattle.certificate_io.proofs.Splits.{Free}
use Rattle.certificate_io.proofs.words.split.Given as goal

abbrev pub invariant-loop-i : goal.invariant-loop-i
invariant-loop-i l = Free l.stop (take l.i l.text)
