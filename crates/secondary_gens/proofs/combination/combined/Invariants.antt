use Rattle.alg_core.specs.DpOrder.{dp_order}
use Rattle.alg_core.specs.Spaces.{over}
use Rattle.secondary_gens.proofs.CombinationSteps.{Summed}
use Rattle.secondary_gens.proofs.combination.combined.Given as goal

abbrev pub invariant-loop-i : goal.invariant-loop-i
invariant-loop-i g l = Summed (over g.F.Field.field (λ o. dp_order o.weights.items) l.marks) l.factors l.combinations l.i l.sum
