use Rattle.std.proofs.Common.{◌≡◌, ℕ, ◌<◌, get_or}
use Rattle.lin_algebra.proofs.rows.first_nonzero.Given as goal

abbrev pub invariant-loop-j : goal.invariant-loop-j
invariant-loop-j g l = (i : ℕ) → i < l.j → get_or l.row i (g.F.Field.field l.field).zero ≡ (g.F.Field.field l.field).zero
