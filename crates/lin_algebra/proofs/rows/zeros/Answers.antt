use Rattle.lin_algebra.proofs.RowLaws.{IsRow_zeros, vector_zero}
use Rattle.std.proofs.Common.{arith}
use Rattle.lin_algebra.proofs.rows.zeros.Goals as goal

pub returns-clause-row : goal.returns-clause-row
returns-clause-row g c = IsRow_zeros (g.F.Field.field c.args.field.now) c.args.n c.loop-column.row.items (omega arith) c.loop-column.invariant.zero

pub returns-clause-zero : goal.returns-clause-zero
returns-clause-zero g c = vector_zero (g.F.Field.field c.args.field.now) c.loop-column.row.items c.loop-column.invariant.zero
