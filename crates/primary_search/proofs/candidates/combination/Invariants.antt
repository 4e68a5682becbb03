use Rattle.alg_core.specs.Spaces.{over}
use Rattle.primary_search.proofs.CombinationSteps.{Summed}
use Rattle.primary_search.proofs.candidates.combination.Given as goal

abbrev pub invariant-loop-i : goal.invariant-loop-i
invariant-loop-i g l = Summed (over g.F.Field.field g.O.TermOrder.order l.space) l.basis l.digits l.i l.sum
