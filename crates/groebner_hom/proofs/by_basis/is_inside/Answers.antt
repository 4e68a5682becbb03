use Rattle.std.proofs.Common.{◌≤◌, sym, subst, arith}
use Rattle.std.specs.Prelude.{All}
use Rattle.alg_core.specs.EliminationOrder.{elimination_order}
use Rattle.alg_core.specs.Spaces.{SpaceOver, over}
use Rattle.poly_module.specs.SpaceVectors.{ArePlaced}
use Rattle.poly_module.proofs.SpaceVectorLaws.{is_polynomial}
use Rattle.module_groebner.specs.HomogeneousLists.{degree_limit}
use Rattle.groebner_hom.proofs.ColonBases.{all_placed}
use Rattle.groebner_hom.proofs.InsideLaws.{no_colon}
use Rattle.groebner_hom.proofs.NonzerodivisorSteps.{polys_weaken}
use Rattle.groebner_hom.proofs.by_basis.is_inside.Goals as goal

pub member-requires-clause-polynomials : goal.member-requires-clause-polynomials
member-requires-clause-polynomials g c = polys_weaken (over g.F.Field.field g.O.TermOrder.order c.args.space.now) c.args.cap degree_limit c.args.theta.now (omega arith) c.requires.polynomials

pub keeps_leads-requires-clause-placed : goal.keeps_leads-requires-clause-placed
keeps_leads-requires-clause-placed g c =
    let S = over g.F.Field.field g.O.TermOrder.order c.args.space.now in
    subst (λ (X : SpaceOver g.row.F-Elem.Denot). All (ArePlaced X (λ m. m)) c.args.theta.now) (sym c.in_ok-pairs.ensures.is) (all_placed S c.form_degree-degree.result c.args.cap c.args.theta.now c.requires.polynomials)

pub returns-clause-colon : goal.returns-clause-colon
returns-clause-colon g c h =
    let S = over g.F.Field.field g.O.TermOrder.order c.args.space.now in
    let X = over g.F.Field.field (λ o. elimination_order o.first o.weights.items) c.in_ok-pairs.pairs in
    let low : c.form_degree-degree.result ≤ c.args.cap = omega arith in
    no_colon S c.args.cap c.args.theta.now c.requires.polynomials c.requires.basis c.requires.positive.weights c.requires.shift c.form_degree-degree.result low c.args.f.now
    (is_polynomial S (λ m. m) c.args.f.now c.requires.polynomial.polynomial) c.requires.not_zero c.form_degree-degree.ensures.is X c.in_ok-pairs.ensures.is (c.in_ok-kept.ensures.kept h)
    (c.in_ok-member.ensures.exact.0 c.if-not-branch.false)
