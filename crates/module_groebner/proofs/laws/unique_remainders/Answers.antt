use Rattle.alg_core.specs.Spaces.{over}
use Rattle.module_groebner.proofs.BasisLaws.{remainder_zero, remainder_unique}
use Rattle.module_groebner.proofs.ListLaws.{remainder_of}
use Rattle.module_groebner.proofs.laws.unique_remainders.Goals as goal

pub returns-clause-exists : goal.returns-clause-exists
returns-clause-exists g c = remainder_of (over g.F.Field.field g.O.TermOrder.order c.args._space.now)

pub returns-clause-zero : goal.returns-clause-zero
returns-clause-zero g c = remainder_zero (over g.F.Field.field g.O.TermOrder.order c.args._space.now)

pub returns-clause-unique : goal.returns-clause-unique
returns-clause-unique g c = remainder_unique (over g.F.Field.field g.O.TermOrder.order c.args._space.now)
