use Rattle.invariant_space.proofs.Common.{over, vector}
use Rattle.invariant_space.proofs.RowSteps.{Row}
use Rattle.invariant_space.proofs.polynomials.polynomial.Given as goal

abbrev pub invariant-loop-l : goal.invariant-loop-l
invariant-loop-l g l =
    let S = over g.F.Field.field g.O.TermOrder.order l.space in
    Row S l.monomials (vector S.field l.row) l.l l.terms.items
