use Rattle.std.proofs.Common.{◌≡◌, ◌<◌}
use Rattle.prime_field.specs.Residues.{mul_mod}
use Rattle.prime_field.proofs.inverse.inverse.Given as goal

abbrev pub invariant-loop-left : goal.invariant-loop-left
invariant-loop-left l = record {
  positive : 0 < l.left;
  below : l.left < l.p;
  same : l.modulus ≡ l.p;
  factor_below : l.factor < l.p;
  product : mul_mod l.p l.a l.factor ≡ l.left;
}

abbrev pub decreases-loop-left : goal.decreases-loop-left
decreases-loop-left l = l.left
