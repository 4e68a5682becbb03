use Rattle.alg_core.specs.Spaces.{over}
use Rattle.prime_field.specs.PrimeFields.{gfp}
use Rattle.module_groebner.specs.Progress.{left}
use Rattle.module_groebner.specs.Completions.{StandsOver}
use Rattle.algebra_tests.proofs.groebner.completed.Given as goal

abbrev pub invariant-loop-completion : goal.invariant-loop-completion
invariant-loop-completion g l = StandsOver (over (λ f. gfp f.p f.listed) g.O.TermOrder.order l.space) l.completion

abbrev pub decreases-loop-completion : goal.decreases-loop-completion
decreases-loop-completion g l = left l.completion
