use Rattle.invariant_space.proofs.Common.{over, IsLevel}
use Rattle.invariant_space.proofs.images.level_of_degree.Given as goal

abbrev pub invariant-loop-below : goal.invariant-loop-below
invariant-loop-below g l =
    let S = over g.F.Field.field g.O.TermOrder.order l.space in
    IsLevel S l.gens l._below l.level
