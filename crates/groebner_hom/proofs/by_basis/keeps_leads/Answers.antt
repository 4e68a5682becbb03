use Rattle.std.proofs.Common.{subst, arith}
use Rattle.std.specs.Prelude.{All}
use Rattle.std.proofs.lemmas.List.{take_all}
use Rattle.std.proofs.lemmas.List.Elements.{All-more}
use Rattle.alg_core.specs.EliminationOrder.{elimination_order}
use Rattle.alg_core.specs.Spaces.{over}
use Rattle.groebner_hom.specs.Colons.{KeepsLead}
use Rattle.groebner_hom.proofs.by_basis.keeps_leads.Goals as goal

pub loop-i-preserved : goal.loop-i-preserved
loop-i-preserved g c =
    let S = over g.F.Field.field g.O.TermOrder.order c.args.space.now in
    let T = over g.F.Field.field (λ o. elimination_order o.first o.weights.items) c.args.pairs.now in
    All-more (KeepsLead S T) c.args.theta.now c.loop-i.i c.index-theta-i.result c.loop-i-test.true c.loop-i.invariant
    (subst (KeepsLead S T) c.index-theta-i.is (c.in_ok-keeps_lead.ensures.kept c.if-not-branch.false))

pub returns : goal.returns
returns g c =
    let S = over g.F.Field.field g.O.TermOrder.order c.args.space.now in
    let T = over g.F.Field.field (λ o. elimination_order o.first o.weights.items) c.args.pairs.now in
    record { kept = λ _. subst (All (KeepsLead S T)) (take_all c.loop-i.i c.args.theta.now (omega arith)) c.loop-i.invariant }
