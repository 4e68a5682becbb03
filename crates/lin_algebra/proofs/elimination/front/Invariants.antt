use Rattle.std.proofs.Common.{◌≡◌, ℕ, ◌<◌, slice_index_or}
use Rattle.lin_algebra.proofs.elimination.front.Given as goal

abbrev pub invariant-loop-i : goal.invariant-loop-i
invariant-loop-i g l = (i : ℕ) (d : _) → i < l.i → (slice_index_or l.basis i d).pivot ≡ i
