use Rattle.std.proofs.Common.{◌≡◌, ◌++◌, drop}
use Rattle.syzygy_kernel.proofs.last_parts.with_marks.Given as goal

abbrev pub invariant-loop-i : goal.invariant-loop-i
invariant-loop-i l = l.exponents.items ++ drop l.i l.variables ≡ l.variables

abbrev pub invariant-loop-i-2 : goal.invariant-loop-i-2
invariant-loop-i-2 l = l.exponents.items ++ drop l.i l.marks ≡ l.variables ++ l.marks
