use Rattle.std.proofs.Common.{◌∙◌, sym, ap, subst}
use Rattle.poly_module.specs.SpaceVectors.{vectors_of}
use Rattle.finite_certificate.specs.MarkSpaces.{mark_space}
use Rattle.module_groebner.specs.HomogeneousLists.{degree_limit, AreHomogeneousUpTo}
use Rattle.groebner_hom.proofs.PolynomialLists.{are_homogeneous_up_to}
use Rattle.cert_check.proofs.CheckedLifts.{basis_exact}
use Rattle.cert_check.proofs.lift_basis.are_unmarked_lifts.Goals as goal

pub is_reduced_basis-requires-clause-homogeneous : goal.is_reduced_basis-requires-clause-homogeneous
is_reduced_basis-requires-clause-homogeneous g c =
    let S = mark_space g.F.Field.field c.args.space.now in
    subst (λ ps. AreHomogeneousUpTo S degree_limit (vectors_of S (λ m. m) ps)) (sym c.as_slice.ensures.value)
    (are_homogeneous_up_to S degree_limit c.in_ok-relations.relations.items c.in_ok-relations.ensures.homogeneous)

pub returns : goal.returns
returns g c =
    let S = mark_space g.F.Field.field c.args.space.now in
    let x = vectors_of S (λ m. m) in
    record {
      exact = basis_exact S c.args.space.now.order.vars (x c.args.theta.now) (x c.args.lifts.now) (x c.as_slice.result.now) c.in_ok-are_basis.are_basis
          (ap x c.as_slice.ensures.value ∙ c.in_ok-relations.ensures.are) c.in_ok-are_basis.ensures.exact (c.leads_are_unmarked.ensures.exact.0 c.if-not-leads_are_unmarked.false);
    }
