use Rattle.std.proofs.Common.{◌≢◌, ℕ, ◌<◌, slice_index_or}
use Rattle.lin_algebra.proofs.systems.has_pivot.Given as goal

abbrev pub invariant-loop-row : goal.invariant-loop-row
invariant-loop-row g l = (i : ℕ) (d : _) → i < l.row-index → (slice_index_or l.basis i d).pivot ≢ l.column
