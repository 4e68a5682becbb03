use Rattle.std.proofs.Common.{◌≡◌, ◌≤◌, take}
use Rattle.poly_module.specs.GreatestExponents.{total}
use Rattle.algebra_tests.proofs.forms.small_total.Given as goal

abbrev pub invariant-loop-i : goal.invariant-loop-i
invariant-loop-i l = record {
  is : l.sum ≡ total (take l.i l.m);
  small : l.sum ≤ 1000;
}
