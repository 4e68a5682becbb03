use Rattle.std.proofs.Common.{take}
use Rattle.alg_core.specs.Spaces.{entries}
use Rattle.test_inputs.specs.Smallness.{IsSmall}
use Rattle.test_inputs.proofs.polynomials.is_small.Given as goal

abbrev pub invariant-loop-i : goal.invariant-loop-i
invariant-loop-i l = IsSmall (entries (λ m. m) (take l.i l.terms))
