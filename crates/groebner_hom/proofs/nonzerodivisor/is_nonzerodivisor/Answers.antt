use Rattle.std.proofs.Common.{sym, subst, arith}
use Rattle.std.specs.Prelude.{All, IsTrue, ◌↔◌}
use Rattle.alg_core.specs.Spaces.{over}
use Rattle.alg_core.specs.SpaceOrder.{key_order}
use Rattle.poly_module.specs.Modules.{listed, IsGroebnerBasis}
use Rattle.poly_module.specs.SpaceVectors.{ArePolys, vector_of, vectors_of}
use Rattle.poly_module.proofs.Reduced.{reduced_is_basis}
use Rattle.module_groebner.specs.HomogeneousLists.{degree_limit, AreNonzero, AreUpTo}
use Rattle.finite_certificate.specs.Ideals.{InIdeal}
use Rattle.groebner_hom.specs.IdealBases.{AreHomogeneousPolys}
use Rattle.groebner_hom.proofs.NonzerodivisorSteps.{polys_weaken, polys_in, told_by_members}
use Rattle.groebner_hom.proofs.PolynomialLists.{members_nonzero, same_ideal}
use Rattle.groebner_hom.proofs.nonzerodivisor.is_nonzerodivisor.Goals as goal

pub are_members-requires-clause-polynomials : goal.are_members-requires-clause-polynomials
are_members-requires-clause-polynomials g c =
    let S = over g.F.Field.field g.O.TermOrder.order c.args.space.now in
    subst (AreHomogeneousPolys S degree_limit) (sym c.as_slice.ensures.value) (polys_weaken S c.args.cap degree_limit c.in_ok-basis.basis.items (omega arith) c.in_ok-basis.ensures.polynomials)

pub are_members-requires-clause-nonzero : goal.are_members-requires-clause-nonzero
are_members-requires-clause-nonzero g c =
    let S = over g.F.Field.field g.O.TermOrder.order c.args.space.now in
    subst (λ l. AreNonzero S.field (vectors_of S (λ m. m) l)) (sym c.as_slice.ensures.value)
    (members_nonzero S (InIdeal S.field (vectors_of S (λ m. m) c.args.theta.now)) (vectors_of S (λ m. m) c.in_ok-basis.basis.items) c.in_ok-basis.ensures.reduced)

pub are_members-requires-clause-basis : goal.are_members-requires-clause-basis
are_members-requires-clause-basis g c =
    let S = over g.F.Field.field g.O.TermOrder.order c.args.space.now in
    subst (λ l. IsGroebnerBasis S.field (listed S.field (vectors_of S (λ m. m) l)) (key_order S)) (sym c.as_slice.ensures.value)
    (reduced_is_basis S (listed S.field (vectors_of S (λ m. m) c.args.theta.now)) (vectors_of S (λ m. m) c.in_ok-basis.basis.items) c.in_ok-basis.ensures.reduced)

pub are_members-requires-clause-list : goal.are_members-requires-clause-list
are_members-requires-clause-list g c =
    let S = over g.F.Field.field g.O.TermOrder.order c.args.space.now in
    subst (ArePolys S (λ m. m)) (sym c.as_slice-2.ensures.value) c.in_ok-colon.ensures.polynomials

pub are_members-requires-clause-degrees : goal.are_members-requires-clause-degrees
are_members-requires-clause-degrees g c =
    let S = over g.F.Field.field g.O.TermOrder.order c.args.space.now in
    subst (λ l. AreUpTo S degree_limit (vectors_of S (λ m. m) l)) (sym c.as_slice-2.ensures.value) c.in_ok-colon.ensures.small

pub returns-clause-exact : goal.returns-clause-exact
returns-clause-exact g c =
    let S = over g.F.Field.field g.O.TermOrder.order c.args.space.now in
    let of = vectors_of S (λ m. m) in
    let hs = c.in_ok-colon.colon.items in
    let exact : IsTrue c.in_ok-all.all ↔ All (InIdeal S.field (of c.in_ok-basis.basis.items)) (of c.as_slice-2.result.now) =
    subst (λ l. IsTrue c.in_ok-all.all ↔ All (InIdeal S.field (of l)) (of c.as_slice-2.result.now)) c.as_slice.ensures.value c.in_ok-all.ensures.exact in
    told_by_members S.field (of c.args.theta.now) (of c.in_ok-basis.basis.items) (of hs) (vector_of S (λ m. m) c.args.f.now) c.in_ok-all.all c.in_ok-colon.ensures.exact
    (polys_in S hs c.in_ok-colon.ensures.polynomials) (same_ideal S (of c.args.theta.now) (of c.in_ok-basis.basis.items) c.in_ok-basis.ensures.reduced)
    (subst (λ l. IsTrue c.in_ok-all.all ↔ All (InIdeal S.field (of c.in_ok-basis.basis.items)) (of l)) c.as_slice-2.ensures.value exact)
