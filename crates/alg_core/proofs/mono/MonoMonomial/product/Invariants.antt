use Rattle.std.proofs.Common.{◌≡◌, take}
use Rattle.alg_core.specs.ExponentLists.{product}
use Rattle.alg_core.proofs.mono.MonoMonomial.product.Given as goal

abbrev pub invariant-loop-i : goal.invariant-loop-i
invariant-loop-i l = l.exponents.items ≡ take l.i (product l.xs l.ys)
