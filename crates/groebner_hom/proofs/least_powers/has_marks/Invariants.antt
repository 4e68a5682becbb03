use Rattle.std.proofs.Common.{take}
use Rattle.std.specs.Prelude.{All}
use Rattle.alg_core.specs.Keys.{key}
use Rattle.alg_core.specs.Spaces.{entries}
use Rattle.finite_certificate.specs.MarkSpaces.{HasMark}
use Rattle.groebner_hom.proofs.least_powers.has_marks.Given as goal

abbrev pub invariant-loop-i : goal.invariant-loop-i
invariant-loop-i g l = All (λ e. HasMark l.space.order.vars (key e.0)) (entries (λ m. m) (take l.i l.terms))
