use Rattle.std.specs.Prelude.{All}
use Rattle.alg_core.specs.Fields.{Has}
use Rattle.alg_core.specs.Spaces.{over, entries, IsPlace}
use Rattle.test_inputs.proofs.vectors.vector.Given as goal

abbrev pub invariant-loop-entry : goal.invariant-loop-entry
invariant-loop-entry g l =
    let S = over g.F.Field.field g.O.TermOrder.order l.space in
    All (λ e. Has S.field e.1 × IsPlace S e.0) (entries (λ m. m) l.terms.items)
