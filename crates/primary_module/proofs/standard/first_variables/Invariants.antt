use Rattle.std.proofs.Common.{◌≡◌, take}
use Rattle.primary_module.proofs.standard.first_variables.Given as goal

abbrev pub invariant-loop-i : goal.invariant-loop-i
invariant-loop-i l = l.exponents.items ≡ take l.i l.mono
