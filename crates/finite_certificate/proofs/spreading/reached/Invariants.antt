use Rattle.finite_certificate.proofs.ReachedSteps.{NoneBefore}
use Rattle.finite_certificate.proofs.spreading.reached.Given as goal

abbrev pub invariant-loop-i : goal.invariant-loop-i
invariant-loop-i g l = NoneBefore l.powers l.mono l.i
