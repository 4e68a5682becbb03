use Rattle.std.proofs.Common.{sym, arith}
use Rattle.lin_algebra.proofs.systems.has_pivot.Goals as goal

pub returns-then-row-column-clause-found : goal.returns-then-row-column-clause-found
returns-then-row-column-clause-found g c = λ _. (c.loop-row.row-index, c.row-item.result, omega arith, sym c.row-item.is, c.if-row-column.true)
