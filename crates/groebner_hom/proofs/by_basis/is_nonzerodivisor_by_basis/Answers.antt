use Rattle.std.proofs.Common.{sym, subst, arith}
use Rattle.std.specs.Prelude.{All, IsTrue, ◌↔◌}
use Rattle.alg_core.specs.Spaces.{over}
use Rattle.poly_module.specs.SpaceVectors.{ArePolys, vector_of, vectors_of}
use Rattle.module_groebner.specs.HomogeneousLists.{degree_limit, AreUpTo}
use Rattle.finite_certificate.specs.Ideals.{InIdeal}
use Rattle.groebner_hom.proofs.ColonBases.{has_polynomials}
use Rattle.groebner_hom.proofs.InsideLaws.{inside_exact, ideal_within}
use Rattle.groebner_hom.proofs.InsideSteps.{one_small}
use Rattle.groebner_hom.proofs.NonzerodivisorSteps.{polys_weaken, polys_in, told_by_members}
use Rattle.groebner_hom.proofs.by_basis.is_nonzerodivisor_by_basis.Goals as goal

pub one-requires : goal.one-requires
one-requires g c = record { polynomials = has_polynomials (over g.F.Field.field g.O.TermOrder.order c.args.space.now) degree_limit c.args.f.now c.requires.polynomial c.requires.not_zero }

pub member-requires-clause-polynomials : goal.member-requires-clause-polynomials
member-requires-clause-polynomials g c = polys_weaken (over g.F.Field.field g.O.TermOrder.order c.args.space.now) c.args.cap degree_limit c.args.theta.now (omega arith) c.requires.polynomials

pub member-requires-clause-degree : goal.member-requires-clause-degree
member-requires-clause-degree g c =
    let S = over g.F.Field.field g.O.TermOrder.order c.args.space.now in
    one_small S c.requires.shift degree_limit (vector_of S (λ m. m) c.in_ok-unit.unit) c.in_ok-unit.ensures.is

pub returns-then-branch-clause-exact : goal.returns-then-branch-clause-exact
returns-then-branch-clause-exact g c =
    let S = over g.F.Field.field g.O.TermOrder.order c.args.space.now in
    let θ = vectors_of S (λ m. m) c.args.theta.now in
    inside_exact S.field θ (vector_of S (λ m. m) c.args.f.now) c.in_ok-member.field-0 (c.in_ok-is_inside.ensures.inside c.if-branch.true)
    (subst (λ v. IsTrue c.in_ok-member.field-0 ↔ InIdeal S.field θ v) c.in_ok-unit.ensures.is c.in_ok-member.ensures.exact)

pub returns-then-branch-clause-colon_within : goal.returns-then-branch-clause-colon_within
returns-then-branch-clause-colon_within g c = c.in_ok-is_inside.ensures.colon c.if-branch.true

pub returns-then-branch-clause-ideal_within : goal.returns-then-branch-clause-ideal_within
returns-then-branch-clause-ideal_within g c = ideal_within (over g.F.Field.field g.O.TermOrder.order c.args.space.now) c.args.cap c.args.theta.now c.requires.polynomials c.requires.basis

pub are_members-requires-clause-polynomials : goal.are_members-requires-clause-polynomials
are_members-requires-clause-polynomials g c = polys_weaken (over g.F.Field.field g.O.TermOrder.order c.args.space.now) c.args.cap degree_limit c.args.theta.now (omega arith) c.requires.polynomials

pub are_members-requires-clause-list : goal.are_members-requires-clause-list
are_members-requires-clause-list g c =
    let S = over g.F.Field.field g.O.TermOrder.order c.args.space.now in
    subst (ArePolys S (λ m. m)) (sym c.as_slice.ensures.value) c.in_ok-colon.ensures.polynomials

pub are_members-requires-clause-degrees : goal.are_members-requires-clause-degrees
are_members-requires-clause-degrees g c =
    let S = over g.F.Field.field g.O.TermOrder.order c.args.space.now in
    subst (λ l. AreUpTo S degree_limit (vectors_of S (λ m. m) l)) (sym c.as_slice.ensures.value) c.in_ok-colon.ensures.small

pub returns-clause-exact : goal.returns-clause-exact
returns-clause-exact g c =
    let S = over g.F.Field.field g.O.TermOrder.order c.args.space.now in
    let of = vectors_of S (λ m. m) in
    let θ = of c.args.theta.now in
    let hs = c.in_ok-colon.colon.items in
    told_by_members S.field θ θ (of hs) (vector_of S (λ m. m) c.args.f.now) c.in_ok-all.all c.in_ok-colon.ensures.exact
    (polys_in S hs c.in_ok-colon.ensures.polynomials) (λ h. (λ i. i, λ i. i))
    (subst (λ l. IsTrue c.in_ok-all.all ↔ All (InIdeal S.field θ) (of l)) c.as_slice.ensures.value c.in_ok-all.ensures.exact)

pub returns-clause-ideal_within : goal.returns-clause-ideal_within
returns-clause-ideal_within g c = ideal_within (over g.F.Field.field g.O.TermOrder.order c.args.space.now) c.args.cap c.args.theta.now c.requires.polynomials c.requires.basis

pub colon_ideal-requires-clause-polynomials : goal.colon_ideal-requires-clause-polynomials
colon_ideal-requires-clause-polynomials g c = polys_weaken (over g.F.Field.field g.O.TermOrder.order c.args.space.now) c.args.cap degree_limit c.args.theta.now (omega arith) c.requires.polynomials
