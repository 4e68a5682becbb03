use Rattle.std.proofs.Common.{◌≡◌, ◌≤◌, ◌-◌, ◌+◌, ◌<◌, length, drop, []}
use Rattle.alg_core.specs.Spaces.{over, entries}
use Rattle.module_groebner.proofs.MergeSteps.{State}
use Rattle.module_groebner.proofs.merge.sum_of_terms.Given as goal

abbrev pub invariant-both : goal.invariant-both
invariant-both g l =
    let exps = g.M.Monomial.exps in
    record {
      i_in : l.i ≤ length l.xs;
      j_in : l.j ≤ length l.ys;
      so_far : State (over g.F.Field.field g.O.TermOrder.order l.space) exps (entries exps l.xs) (entries exps l.ys) l.terms.items (drop l.i l.xs) (drop l.j l.ys);
    }

abbrev pub decreases-both : goal.decreases-both
decreases-both g l = length l.xs - l.i + (length l.ys - l.j)

abbrev pub invariant-left : goal.invariant-left
invariant-left g l =
    let exps = g.M.Monomial.exps in
    record {
      i_in : l.i ≤ length l.xs;
      j_in : l.j ≤ length l.ys;
      alone : l.i < length l.xs → l.j ≡ length l.ys;
      so_far : State (over g.F.Field.field g.O.TermOrder.order l.space) exps (entries exps l.xs) (entries exps l.ys) l.terms.items (drop l.i l.xs) (drop l.j l.ys);
    }

abbrev pub decreases-left : goal.decreases-left
decreases-left g l = length l.xs - l.i

abbrev pub invariant-right : goal.invariant-right
invariant-right g l =
    let exps = g.M.Monomial.exps in
    record {
      j_in : l.j ≤ length l.ys;
      so_far : State (over g.F.Field.field g.O.TermOrder.order l.space) exps (entries exps l.xs) (entries exps l.ys) l.terms.items [] (drop l.j l.ys);
    }

abbrev pub decreases-right : goal.decreases-right
decreases-right g l = length l.ys - l.j
