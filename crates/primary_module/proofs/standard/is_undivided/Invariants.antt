use Rattle.std.proofs.Common.{◌≡◌, drop}
use Rattle.primary_module.specs.UndividedMonomials.{is_undivided}
use Rattle.primary_module.proofs.standard.is_undivided.Given as goal

abbrev pub invariant-loop-i : goal.invariant-loop-i
invariant-loop-i l = is_undivided (drop l.i l.leads) l.mono ≡ is_undivided l.leads l.mono
