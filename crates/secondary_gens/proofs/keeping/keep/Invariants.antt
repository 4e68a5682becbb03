use Rattle.alg_core.specs.Spaces.{over}
use Rattle.secondary_gens.proofs.KeepSteps.{Keeping}
use Rattle.secondary_gens.proofs.keeping.keep.Given as goal

abbrev pub invariant-loop-i : goal.invariant-loop-i
invariant-loop-i g l =
    let S = over g.F.Field.field g.O.TermOrder.order l.space in
    Keeping S l.theta l.fn.kept.items l.candidates l.d l.i l.rows.items l.kept.items
