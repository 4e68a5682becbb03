use Rattle.alg_core.specs.Spaces.{over}
use Rattle.primary_search.proofs.LeadPowerSteps.{NoneBefore}
use Rattle.primary_search.proofs.ended.has_power_lead.Given as goal

abbrev pub invariant-loop-j : goal.invariant-loop-j
invariant-loop-j g l = NoneBefore (over g.F.Field.field g.O.TermOrder.order l.space) l.i l.basis l.j
