use Rattle.std.proofs.Common.{◌≡◌, take}
use Rattle.alg_core.specs.ExponentLists.{lcm}
use Rattle.alg_core.proofs.mono.MonoMonomial.lcm.Given as goal

abbrev pub invariant-loop-i : goal.invariant-loop-i
invariant-loop-i l = l.exponents.items ≡ take l.i (lcm l.xs l.ys)
