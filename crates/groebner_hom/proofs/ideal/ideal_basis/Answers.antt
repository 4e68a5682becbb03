use Rattle.alg_core.specs.Spaces.{over}
use Rattle.module_groebner.specs.HomogeneousLists.{degree_limit}
use Rattle.groebner_hom.proofs.PolynomialLists.{are_homogeneous_up_to, basis_result}
use Rattle.groebner_hom.proofs.ideal.ideal_basis.Goals as goal

pub reduced_basis-requires-clause-homogeneous : goal.reduced_basis-requires-clause-homogeneous
reduced_basis-requires-clause-homogeneous g c = are_homogeneous_up_to (over g.F.Field.field g.O.TermOrder.order c.args.space.now) degree_limit c.args.theta.now c.requires.polynomials

pub returns-clause-polynomials : goal.returns-clause-polynomials
returns-clause-polynomials g c =
    basis_result (over g.F.Field.field g.O.TermOrder.order c.args.space.now) degree_limit c.args.cap c.args.theta.now c.reduced_basis.result c.requires.polynomials
    c.reduced_basis.ensures.fit c.reduced_basis.ensures.homogeneous c.reduced_basis.ensures.reduced
