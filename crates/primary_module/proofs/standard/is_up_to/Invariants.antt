use Rattle.std.proofs.Common.{◌≡◌, ◌+◌}
use Rattle.primary_module.specs.UndividedMonomials.{is_zero_from}
use Rattle.primary_module.proofs.standard.is_up_to.Given as goal

abbrev pub invariant-loop-i : goal.invariant-loop-i
invariant-loop-i l = is_zero_from l.i l.mono ≡ is_zero_from (l.j + 1) l.mono
