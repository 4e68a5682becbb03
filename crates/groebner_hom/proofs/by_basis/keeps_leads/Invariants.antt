use Rattle.std.proofs.Common.{take}
use Rattle.std.specs.Prelude.{All}
use Rattle.alg_core.specs.EliminationOrder.{elimination_order}
use Rattle.alg_core.specs.Spaces.{over}
use Rattle.groebner_hom.specs.Colons.{KeepsLead}
use Rattle.groebner_hom.proofs.by_basis.keeps_leads.Given as goal

abbrev pub invariant-loop-i : goal.invariant-loop-i
invariant-loop-i g l = All (KeepsLead (over g.F.Field.field g.O.TermOrder.order l.space) (over g.F.Field.field (λ o. elimination_order o.first o.weights.items) l.pairs)) (take l.i l.theta)
