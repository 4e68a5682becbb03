use Rattle.std.proofs.Common.{take}
use Rattle.alg_core.specs.Spaces.{entries}
use Rattle.poly_module.proofs.GreatestSteps.{IsGreatest}
use Rattle.poly_module.proofs.substitution.greatest_exponent.Given as goal

abbrev pub invariant-loop-j : goal.invariant-loop-j
invariant-loop-j g l = IsGreatest l.i (entries g.M.Monomial.exps (take l.j l.terms)) l.greatest
