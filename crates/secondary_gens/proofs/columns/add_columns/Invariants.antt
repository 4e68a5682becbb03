use Rattle.alg_core.specs.Spaces.{over}
use Rattle.secondary_gens.proofs.ColumnSteps.{Added}
use Rattle.secondary_gens.proofs.columns.add_columns.Given as goal

abbrev pub invariant-loop-i : goal.invariant-loop-i
invariant-loop-i g l =
    let S = over g.F.Field.field g.O.TermOrder.order l.space in
    Added S l.level l.polynomial l.j l.i l.initial.columns.items l.columns.items
