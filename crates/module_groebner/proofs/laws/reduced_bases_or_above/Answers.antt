use Rattle.alg_core.specs.Spaces.{over}
use Rattle.module_groebner.proofs.ListLaws.{exists_or_above, over_above, above_over}
use Rattle.module_groebner.proofs.laws.reduced_bases_or_above.Goals as goal

pub returns-clause-exists : goal.returns-clause-exists
returns-clause-exists g c = exists_or_above (over g.F.Field.field g.O.TermOrder.order c.args._space.now)

pub returns-clause-member : goal.returns-clause-member
returns-clause-member g c = over_above (over g.F.Field.field g.O.TermOrder.order c.args._space.now)

pub returns-clause-above : goal.returns-clause-above
returns-clause-above g c = above_over (over g.F.Field.field g.O.TermOrder.order c.args._space.now)
