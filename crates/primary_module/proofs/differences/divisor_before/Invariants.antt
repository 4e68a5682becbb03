use Rattle.std.proofs.Common.{◌≤◌}
use Rattle.primary_module.proofs.differences.divisor_before.Given as goal

abbrev pub decreases-loop-j : goal.decreases-loop-j
decreases-loop-j l = l.j

abbrev pub invariant-loop-j : goal.invariant-loop-j
invariant-loop-j l = l.j ≤ l.place
