use Rattle.std.proofs.Common.{◌≡◌, take}
use Rattle.alg_core.specs.ExponentLists.{quotient}
use Rattle.alg_core.proofs.mono.MonoMonomial.quotient.Given as goal

abbrev pub invariant-loop-i : goal.invariant-loop-i
invariant-loop-i l = l.exponents.items ≡ take l.i (quotient l.xs l.ys)
