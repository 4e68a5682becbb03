use Rattle.std.proofs.Common.{◌≡◌, All, length}
use Rattle.lin_algebra.proofs.rows.zeros.Given as goal

abbrev pub invariant-loop-column : goal.invariant-loop-column
invariant-loop-column g l = record {
  count : length l.row.items ≡ l._column;
  zero : All (λ x. x ≡ (g.F.Field.field l.field).zero) l.row.items;
}
