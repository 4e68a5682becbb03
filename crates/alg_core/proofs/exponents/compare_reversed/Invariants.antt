use Rattle.std.proofs.Common.{◌≤◌}
use Rattle.alg_core.proofs.OrderSteps.{Walks}
use Rattle.alg_core.proofs.exponents.compare_reversed.Given as goal

abbrev pub invariant-loop-i : goal.invariant-loop-i
invariant-loop-i g l = record {
  above : l.from ≤ l.i;
  below : l.i ≤ l.to;
  walks : Walks (g.M.Monomial.exps l.a) (g.M.Monomial.exps l.b) l.from l.to l.i;
}

abbrev pub decreases-loop-i : goal.decreases-loop-i
decreases-loop-i g l = l.i
