use Rattle.alg_core.specs.Spaces.{over}
use Rattle.alg_core.proofs.VectorEntries.{vec_over, entries_of_fit, vec_entries_of, entries_of_vec}
use Rattle.alg_core.proofs.laws.vector_lists.Goals as goal

pub returns-clause-fits : goal.returns-clause-fits
returns-clause-fits g c = entries_of_fit (over g.F.Field.field g.O.TermOrder.order c.args._space.now)

pub returns-clause-is : goal.returns-clause-is
returns-clause-is g c = vec_entries_of (over g.F.Field.field g.O.TermOrder.order c.args._space.now)

pub returns-clause-only : goal.returns-clause-only
returns-clause-only g c = entries_of_vec (over g.F.Field.field g.O.TermOrder.order c.args._space.now)

pub returns-clause-over : goal.returns-clause-over
returns-clause-over g c = vec_over (over g.F.Field.field g.O.TermOrder.order c.args._space.now)
