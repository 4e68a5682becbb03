use Rattle.std.proofs.Common.{◌≤◌, length}
use Rattle.syzygy_kernel.proofs.places.place_near.Given as goal

abbrev pub decreases-loop-i : goal.decreases-loop-i
decreases-loop-i l = l.i

abbrev pub invariant-loop-i : goal.invariant-loop-i
invariant-loop-i l = l.i ≤ length l.monomials
