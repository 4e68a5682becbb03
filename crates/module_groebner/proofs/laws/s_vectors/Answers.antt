use Rattle.alg_core.specs.Spaces.{over}
use Rattle.module_groebner.proofs.SVectors.{s_exists, s_unique}
use Rattle.module_groebner.proofs.laws.s_vectors.Goals as goal

pub returns-clause-exists : goal.returns-clause-exists
returns-clause-exists g c = s_exists (over g.F.Field.field g.O.TermOrder.order c.args._space.now)

pub returns-clause-unique : goal.returns-clause-unique
returns-clause-unique g c = s_unique (over g.F.Field.field g.O.TermOrder.order c.args._space.now)
