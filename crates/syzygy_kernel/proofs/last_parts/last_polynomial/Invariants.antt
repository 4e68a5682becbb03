use Rattle.std.proofs.Common.{take}
use Rattle.finite_certificate.specs.MarkSpaces.{mark_space}
use Rattle.syzygy_kernel.proofs.LastTerms.{AreLast}
use Rattle.syzygy_kernel.proofs.last_parts.last_polynomial.Given as goal

abbrev pub invariant-loop-i : goal.invariant-loop-i
invariant-loop-i g l =
    let S = mark_space g.F.Field.field l.space in
    AreLast S l.space.order.vars l.space.order.weights.items l.gens l.monomials (take l.i l.given) l.terms.items
