use Rattle.std.proofs.Common.{◌≡◌, ◌++◌, drop}
use Rattle.syzygy_kernel.proofs.places.marks_of.Given as goal

abbrev pub invariant-loop-i : goal.invariant-loop-i
invariant-loop-i l = l.marks.items ++ drop l.i l.mono ≡ drop l.n l.mono
