use Rattle.alg_core.specs.Spaces.{over}
use Rattle.module_groebner.proofs.BasisSteps.{SameBefore}
use Rattle.module_groebner.proofs.criterion.are_same.Given as goal

abbrev pub invariant-loop-i : goal.invariant-loop-i
invariant-loop-i g l = SameBefore (over g.F.Field.field g.O.TermOrder.order l.space) (λ m. m) l.a l.b l.i
