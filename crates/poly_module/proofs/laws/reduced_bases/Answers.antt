use Rattle.alg_core.specs.Spaces.{over}
use Rattle.poly_module.proofs.Reduced.{reduced_basis_unique, reduced_is_basis, reduced_homogeneous}
use Rattle.poly_module.proofs.laws.reduced_bases.Goals as goal

pub returns-clause-unique : goal.returns-clause-unique
returns-clause-unique g c = let S = over g.F.Field.field g.O.TermOrder.order c.args._space.now in λ positive m. reduced_basis_unique S m positive

pub returns-clause-basis : goal.returns-clause-basis
returns-clause-basis g c = reduced_is_basis (over g.F.Field.field g.O.TermOrder.order c.args._space.now)

pub returns-clause-homogeneous : goal.returns-clause-homogeneous
returns-clause-homogeneous g c = reduced_homogeneous (over g.F.Field.field g.O.TermOrder.order c.args._space.now)
