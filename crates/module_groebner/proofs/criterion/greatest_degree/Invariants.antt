use Rattle.std.proofs.Common.{◌≤◌}
use Rattle.alg_core.specs.Spaces.{over}
use Rattle.module_groebner.specs.HomogeneousLists.{cap_limit}
use Rattle.module_groebner.proofs.BasisSteps.{UpToBefore}
use Rattle.module_groebner.proofs.criterion.greatest_degree.Given as goal

abbrev pub invariant-loop-i : goal.invariant-loop-i
invariant-loop-i g l = record {
  low : l.most ≤ cap_limit;
  bound : UpToBefore (over g.F.Field.field g.O.TermOrder.order l.space) (λ m. m) l.list l.i l.most;
}
