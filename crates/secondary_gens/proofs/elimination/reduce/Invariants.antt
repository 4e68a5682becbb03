use Rattle.alg_core.specs.Spaces.{over}
use Rattle.secondary_gens.proofs.RowSteps.{Taken}
use Rattle.secondary_gens.proofs.elimination.reduce.Given as goal

abbrev pub invariant-loop-i : goal.invariant-loop-i
invariant-loop-i g l =
    let S = over g.F.Field.field g.O.TermOrder.order l.space in
    Taken S l.rows l.v l.i l.rest l.factors.items
