use Rattle.std.proofs.Common.{◌≡◌, take, map}
use Rattle.alg_core.specs.Spaces.{entries}
use Rattle.poly_module.proofs.copies.copy.Given as goal

abbrev pub invariant-loop-i : goal.invariant-loop-i
invariant-loop-i g l = entries g.M.Monomial.exps l.terms.items ≡ map (λ e. e) (entries g.M.Monomial.exps (take l.i l.xs))
