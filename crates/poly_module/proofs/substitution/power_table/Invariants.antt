use Rattle.alg_core.specs.Spaces.{over, entries}
use Rattle.poly_module.proofs.TableSteps.{IsTableSoFar}
use Rattle.poly_module.proofs.substitution.power_table.Given as goal

abbrev pub invariant-loop-i : goal.invariant-loop-i
invariant-loop-i g l = IsTableSoFar (over g.F.Field.field g.O.TermOrder.order l.space) g.M.Monomial.exps l.images (entries g.M.Monomial.exps l.f) l.i l.table.items
