use Rattle.std.proofs.Common.{◌≡◌, take}
use Rattle.poly_module.specs.GreatestExponents.{total}
use Rattle.secondary_gens.proofs.degrees.degree.Given as goal

abbrev pub invariant-loop-i : goal.invariant-loop-i
invariant-loop-i g l = l.sum ≡ total (take l.i l.first.at.mono)
