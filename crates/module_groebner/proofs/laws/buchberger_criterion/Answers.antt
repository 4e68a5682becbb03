use Rattle.alg_core.specs.Spaces.{over}
use Rattle.module_groebner.proofs.BasisLaws.{basis_pairs}
use Rattle.module_groebner.proofs.ListLaws.{criterion_treated, criterion_remainder}
use Rattle.module_groebner.proofs.laws.buchberger_criterion.Goals as goal

pub returns-clause-treated : goal.returns-clause-treated
returns-clause-treated g c = criterion_treated (over g.F.Field.field g.O.TermOrder.order c.args._space.now)

pub returns-clause-remainder : goal.returns-clause-remainder
returns-clause-remainder g c = criterion_remainder (over g.F.Field.field g.O.TermOrder.order c.args._space.now)

pub returns-clause-only : goal.returns-clause-only
returns-clause-only g c = basis_pairs (over g.F.Field.field g.O.TermOrder.order c.args._space.now)
