use Rattle.std.proofs.Common.{take}
use Rattle.secondary_gens.specs.Secondaries.{IsDegreeIn}
use Rattle.secondary_gens.proofs.choice.has_degree.Given as goal

abbrev pub invariant-loop-i : goal.invariant-loop-i
invariant-loop-i g l = record { none : ¬ IsDegreeIn (take l.i l.ps) l.d }
