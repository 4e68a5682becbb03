use Rattle.std.proofs.Common.{◌≡◌, ap, subst, ◌∙◌}
use Rattle.alg_core.specs.Fields.{Has}
use Rattle.alg_core.specs.Keys.{key, KeyDivides}
use Rattle.alg_core.specs.Monomials.{mono}
use Rattle.alg_core.specs.Spaces.{over, place}
use Rattle.alg_core.specs.Vectors.{plus, scale, shift}
use Rattle.poly_module.specs.SpaceVectors.{vector_of}
use Rattle.module_groebner.specs.HomogeneousLists.{degree_limit}
use Rattle.module_groebner.proofs.ReductionSteps.{lead_not_zero, same_lead, reduction, room_under, inverse_of, bounded_lead}
use Rattle.module_groebner.proofs.reduction.reduced_by.Goals as goal

pub leading_term-lead-requires-clause-not_zero : goal.leading_term-lead-requires-clause-not_zero
leading_term-lead-requires-clause-not_zero g c =
    let S = over g.F.Field.field g.O.TermOrder.order c.args.space.now in
    lead_not_zero S _ c.requires.divides.0 c.requires.divides.1

pub quotient-requires-clause-divides : goal.quotient-requires-clause-divides
quotient-requires-clause-divides g c =
    let S = over g.F.Field.field g.O.TermOrder.order c.args.space.now in
    subst (λ s. KeyDivides s (key (place (λ m. m) c.args.top.now.at))) (same_lead S (vector_of S (λ m. m) c.args.g.now) _ _ c.requires.divides.1 c.leading_term-lead.ensures.lead) c.requires.divides.2

pub mul_term-requires-clause-room : goal.mul_term-requires-clause-room
mul_term-requires-clause-room g c =
    let S = over g.F.Field.field g.O.TermOrder.order c.args.space.now in
    let t = key (place (λ m. m) c.args.top.now.at) in
    room_under S (λ m. m) c.requires.positive.weights degree_limit c.requires.homogeneous.0 _ t c.in_ok-monomial.monomial c.args.g.now (c.in_ok-monomial.ensures.length ∙ c.requires.term.place.wide) c.in_ok-monomial.ensures.is
    (bounded_lead S degree_limit (vector_of S (λ m. m) c.args.terms.now) t c.requires.degree c.requires.top) c.requires.vector c.requires.homogeneous.1 c.leading_term-lead.ensures.lead

pub returns-clause-step : goal.returns-clause-step
returns-clause-step g c =
    let S = over g.F.Field.field g.O.TermOrder.order c.args.space.now in
    let v = vector_of S (λ m. m) c.args.terms.now in
    let m = mono c.in_ok-monomial.monomial in
    let x = shift S.field m (vector_of S (λ m. m) c.args.g.now) in
    let b = c.leading_term-lead.result.now.coef in
    let i = inverse_of (λ i. Has S.field i × (S.field.mul b i ≡ S.field.one)) c.inv.result c.unwrap-inverse.result c.inv.ensures.some c.unwrap-inverse.ensures in
    reduction S v (vector_of S (λ m. m) c.args.g.now) _ (key (place (λ m. m) c.args.top.now.at)) (key (place (λ m. m) c.leading_term-lead.result.now.at)) c.args.top.now.coef b c.unwrap-inverse.result c.in_ok-monomial.monomial
    c.requires.top c.requires.value c.leading_term-lead.ensures.lead c.leading_term-lead.ensures.coefficient c.requires.term.has c.leading_term-lead.ensures.term.has i.0 i.1 c.in_ok-monomial.ensures.is
    (c.in_ok-reduced.ensures.sum ∙ ap (plus S.field v) (ap (vector_of S (λ m. m)) c.terms.ensures.is ∙ c.in_ok-multiple.ensures.multiple.is ∙ ap (λ f. scale S.field f x) (c.neg-factor.ensures.is ∙ ap S.field.neg c.mul.ensures.is)))
