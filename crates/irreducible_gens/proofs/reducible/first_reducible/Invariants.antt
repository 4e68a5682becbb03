use Rattle.alg_core.specs.Spaces.{over}
use Rattle.irreducible_gens.proofs.ReducibleSteps.{NoneBefore}
use Rattle.irreducible_gens.proofs.reducible.first_reducible.Given as goal

abbrev pub invariant-loop-l : goal.invariant-loop-l
invariant-loop-l g l = NoneBefore (over g.F.Field.field g.O.TermOrder.order l.space) l.theta l.irr l.l
