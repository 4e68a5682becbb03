use Rattle.std.proofs.Common.{ℕ, ◌<◌, get_or}
use Rattle.algebra_tests.proofs.conditions.are_positive.Given as goal

abbrev pub invariant-loop-i : goal.invariant-loop-i
invariant-loop-i l = (k : ℕ) → k < l.i → 0 < get_or l.weights k 0
