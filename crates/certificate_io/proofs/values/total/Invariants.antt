use Rattle.std.proofs.Common.{◌≡◌, ◌+◌, drop}
use Rattle.poly_module.specs.GreatestExponents.{total}
use Rattle.certificate_io.proofs.values.total.Given as goal

abbrev pub invariant-loop-i : goal.invariant-loop-i
invariant-loop-i l = l.sum + total (drop l.i l.mono) ≡ total l.mono
