use Rattle.std.proofs.Common.{ap₂, ◌∙◌}
use Rattle.alg_core.specs.CommonMultiples.{common_multiple}
use Rattle.alg_core.specs.Keys.{key}
use Rattle.alg_core.specs.Spaces.{over, place}
use Rattle.poly_module.specs.SpaceVectors.{vector_of}
use Rattle.module_groebner.proofs.ReductionSteps.{lead_not_zero, same_lead}
use Rattle.module_groebner.proofs.PairSteps.{same_position, lcm_place}
use Rattle.module_groebner.proofs.pair.lcm_of_leads.Goals as goal

pub leading_term-s-requires-clause-not_zero : goal.leading_term-s-requires-clause-not_zero
leading_term-s-requires-clause-not_zero g c =
    let S = over g.F.Field.field g.O.TermOrder.order c.args.space.now in
    lead_not_zero S _ c.requires.position.0 c.requires.position.2

pub leading_term-t-requires-clause-not_zero : goal.leading_term-t-requires-clause-not_zero
leading_term-t-requires-clause-not_zero g c =
    let S = over g.F.Field.field g.O.TermOrder.order c.args.space.now in
    lead_not_zero S _ c.requires.position.1 c.requires.position.3

pub lcm-requires-clause-position : goal.lcm-requires-clause-position
lcm-requires-clause-position g c =
    let S = over g.F.Field.field g.O.TermOrder.order c.args.space.now in
    let p = c.requires.position in
    same_position S (vector_of S (λ m. m) c.args.a.now) (vector_of S (λ m. m) c.args.b.now) p.0 p.1 (place (λ m. m) c.leading_term-s.result.now.at) (place (λ m. m) c.leading_term-t.result.now.at) p.2 p.3 p.4 c.leading_term-s.ensures.lead c.leading_term-t.ensures.lead

pub returns-clause-place : goal.returns-clause-place
returns-clause-place g c =
    let S = over g.F.Field.field g.O.TermOrder.order c.args.space.now in
    lcm_place S (place (λ m. m) c.leading_term-s.result.now.at) (place (λ m. m) c.leading_term-t.result.now.at) _ c.leading_term-s.ensures.term.place c.in_ok-l.ensures.is c.in_ok-l.ensures.length

pub returns-clause-is : goal.returns-clause-is
returns-clause-is g c =
    let S = over g.F.Field.field g.O.TermOrder.order c.args.space.now in
    λ s t ls lt. c.in_ok-l.ensures.is ∙ ap₂ common_multiple (same_lead S (vector_of S (λ m. m) c.args.a.now) (key (place (λ m. m) c.leading_term-s.result.now.at)) s c.leading_term-s.ensures.lead ls)
    (same_lead S (vector_of S (λ m. m) c.args.b.now) (key (place (λ m. m) c.leading_term-t.result.now.at)) t c.leading_term-t.ensures.lead lt)
