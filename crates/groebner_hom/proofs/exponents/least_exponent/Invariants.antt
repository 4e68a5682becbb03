use Rattle.std.proofs.Common.{◌≤◌, length, ℕ, ◌+◌, ◌-◌, ◌*◌}
use Rattle.alg_core.specs.Spaces.{over}
use Rattle.poly_module.specs.SpaceVectors.{vectors_of}
use Rattle.groebner_hom.specs.Exponents.{exponent_cap}
use Rattle.groebner_hom.proofs.ExponentSteps.{NoSmaller}
use Rattle.groebner_hom.proofs.exponents.least_exponent.Given as goal

abbrev pub invariant-loop-power : goal.invariant-loop-power
invariant-loop-power g l = let S = over g.F.Field.field g.O.TermOrder.order l.space in record {
  smaller : NoSmaller S.field (vectors_of S (λ m. m) l.basis) l.i l.exponent;
  low : l.exponent ≤ length S.weights * exponent_cap + 1;
}

abbrev pub decreases-loop-power : goal.decreases-loop-power
decreases-loop-power g l = 786422 - l.exponent
