use Rattle.std.proofs.Common.{◌≡◌, drop}
use Rattle.alg_core.specs.ExponentLists.{divides}
use Rattle.alg_core.proofs.mono.MonoMonomial.divides.Given as goal

abbrev pub invariant-loop-i : goal.invariant-loop-i
invariant-loop-i l = divides (drop l.i l.self-inside.exponents.items) (drop l.i l.b-inside.exponents.items) ≡ divides l.self-inside.exponents.items l.b-inside.exponents.items
