use Rattle.primary_search.proofs.LeadPowerSteps.{PowerBefore}
use Rattle.primary_search.proofs.ended.is_power.Given as goal

abbrev pub invariant-loop-j : goal.invariant-loop-j
invariant-loop-j l = PowerBefore l.i l.mono l.j
