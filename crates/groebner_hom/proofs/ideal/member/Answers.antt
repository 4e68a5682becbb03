use Rattle.alg_core.specs.Spaces.{over}
use Rattle.poly_module.specs.Modules.{listed}
use Rattle.poly_module.specs.SpaceVectors.{vector_of, vectors_of}
use Rattle.module_groebner.specs.HomogeneousLists.{degree_limit}
use Rattle.groebner_hom.proofs.PolynomialLists.{are_homogeneous, member_exact}
use Rattle.groebner_hom.proofs.ideal.member.Goals as goal

pub divide-requires-clause-homogeneous : goal.divide-requires-clause-homogeneous
divide-requires-clause-homogeneous g c = are_homogeneous (over g.F.Field.field g.O.TermOrder.order c.args.space.now) degree_limit c.args.basis.now c.requires.polynomials

pub returns : goal.returns
returns g c =
    let S = over g.F.Field.field g.O.TermOrder.order c.args.space.now in
    record {
      exact = member_exact S (listed S.field (vectors_of S (λ m. m) c.args.basis.now)) (vector_of S (λ m. m) c.args.f.now) c.in_ok-remainder.remainder c.terms.result.now c.is_empty.result
          c.requires.basis c.in_ok-remainder.ensures.fits c.in_ok-remainder.ensures.remainder c.terms.ensures.is c.is_empty.ensures;
    }
