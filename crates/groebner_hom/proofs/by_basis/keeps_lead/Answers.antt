use Rattle.alg_core.specs.EliminationOrder.{elimination_order}
use Rattle.alg_core.specs.Spaces.{over}
use Rattle.groebner_hom.proofs.InsideSteps.{leads_kept}
use Rattle.groebner_hom.proofs.by_basis.keeps_lead.Goals as goal

pub returns : goal.returns
returns g c =
    let S = over g.F.Field.field g.O.TermOrder.order c.args.space.now in
    let T = over g.F.Field.field (λ o. elimination_order o.first o.weights.items) c.args.pairs.now in
    record { kept = λ h. leads_kept S T c.args.p.now c.terms.result.now c.in_ok-pair.pair _ _ c.terms.ensures.is c.in_ok-pair.ensures.sum c.in-Some-lead.ensures.lead c.in-Some.ensures.lead (c.divides.ensures.is.0 h) }
