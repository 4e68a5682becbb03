use Rattle.alg_core.specs.Spaces.{over}
use Rattle.secondary_gens.proofs.ColumnSteps.{Rowed}
use Rattle.secondary_gens.proofs.columns.rows_of.Given as goal

abbrev pub invariant-loop-i : goal.invariant-loop-i
invariant-loop-i g l =
    let S = over g.F.Field.field g.O.TermOrder.order l.space in
    Rowed S l.columns l.i l.rows.items
