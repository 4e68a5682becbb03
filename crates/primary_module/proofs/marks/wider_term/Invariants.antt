use Rattle.std.proofs.Common.{length}
use Rattle.primary_module.proofs.PaddedExponents.{Padded}
use Rattle.primary_module.proofs.marks.wider_term.Given as goal

abbrev pub invariant-loop-i : goal.invariant-loop-i
invariant-loop-i g l = Padded (length l.space.grading.weights.items) l.mono l.i l.exponents.items
