use Rattle.std.proofs.Common.{take}
use Rattle.std.specs.Prelude.{All}
use Rattle.alg_core.specs.Keys.{key}
use Rattle.alg_core.specs.Spaces.{entries}
use Rattle.finite_certificate.specs.Finiteness.{IsBelow}
use Rattle.finite_certificate.proofs.ReachedSteps.{exponents}
use Rattle.finite_certificate.proofs.spreading.is_spread.Given as goal

abbrev pub invariant-loop-i : goal.invariant-loop-i
invariant-loop-i g l = All (λ e. IsBelow (exponents l.powers) (key e.0)) (entries (λ m. m) (take l.i l.terms))
