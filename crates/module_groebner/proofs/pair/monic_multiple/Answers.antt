use Rattle.std.proofs.Common.{◌≡◌, subst, ◌∙◌}
use Rattle.alg_core.specs.Fields.{Has}
use Rattle.alg_core.specs.Keys.{key, KeyDivides}
use Rattle.alg_core.specs.Monomials.{mono}
use Rattle.alg_core.specs.Spaces.{over, place}
use Rattle.poly_module.specs.SpaceVectors.{vector_of}
use Rattle.module_groebner.proofs.ReductionSteps.{lead_not_zero, same_lead, inverse_of, monic}
use Rattle.module_groebner.proofs.PairSteps.{room_low}
use Rattle.module_groebner.proofs.pair.monic_multiple.Goals as goal

pub leading_term-lead-requires-clause-not_zero : goal.leading_term-lead-requires-clause-not_zero
leading_term-lead-requires-clause-not_zero g c =
    let S = over g.F.Field.field g.O.TermOrder.order c.args.space.now in
    lead_not_zero S _ c.requires.divides.0 c.requires.divides.1

pub quotient-requires-clause-divides : goal.quotient-requires-clause-divides
quotient-requires-clause-divides g c =
    let S = over g.F.Field.field g.O.TermOrder.order c.args.space.now in
    subst (λ s. KeyDivides s (key (place (λ m. m) c.args.l.now))) (same_lead S (vector_of S (λ m. m) c.args.v.now) _ _ c.requires.divides.1 c.leading_term-lead.ensures.lead) c.requires.divides.2

pub mul_term-requires-clause-room : goal.mul_term-requires-clause-room
mul_term-requires-clause-room g c =
    let S = over g.F.Field.field g.O.TermOrder.order c.args.space.now in
    room_low S (λ m. m) c.requires.positive.weights c.in_ok-monomial.monomial c.args.v.now (c.in_ok-monomial.ensures.length ∙ c.requires.place.wide)
    (c.requires.low (mono c.in_ok-monomial.monomial) (key (place (λ m. m) c.leading_term-lead.result.now.at)) c.leading_term-lead.ensures.lead c.in_ok-monomial.ensures.is) c.requires.vector c.requires.degree

pub returns-clause-is : goal.returns-clause-is
returns-clause-is g c =
    let S = over g.F.Field.field g.O.TermOrder.order c.args.space.now in
    let s = key (place (λ m. m) c.leading_term-lead.result.now.at) in
    let b = c.leading_term-lead.result.now.coef in
    let i = inverse_of (λ i. Has S.field i × (S.field.mul b i ≡ S.field.one)) c.inv.result c.unwrap-inverse.result c.inv.ensures.some c.unwrap-inverse.ensures in
    (s, monic S (vector_of S (λ m. m) c.args.v.now) _ s _ b c.unwrap-inverse.result c.in_ok-monomial.monomial c.leading_term-lead.ensures.lead c.leading_term-lead.ensures.coefficient c.leading_term-lead.ensures.term.has i.0 i.1 c.in_ok-monomial.ensures.is c.in_ok-multiple.ensures.multiple.is)
