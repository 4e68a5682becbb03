use Rattle.std.proofs.Common.{◌≤◌, ◌+◌, ◌-◌, ◌*◌}
use Rattle.poly_module.specs.SpaceVectors.{vectors_of}
use Rattle.finite_certificate.specs.MarkSpaces.{mark_space, degree_limit}
use Rattle.groebner_hom.proofs.ExponentSteps.{NoSmaller}
use Rattle.groebner_hom.proofs.least_powers.least_power.Given as goal

abbrev pub invariant-loop-power : goal.invariant-loop-power
invariant-loop-power g l = let S = mark_space g.F.Field.field l.space in record {
  smaller : NoSmaller S.field (vectors_of S (λ m. m) l._theta) l.i l.exponent;
  low : l.exponent ≤ l.space.order.vars * degree_limit + 1;
}

abbrev pub decreases-loop-power : goal.decreases-loop-power
decreases-loop-power g l = 786422 - l.exponent
