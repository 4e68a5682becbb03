use Rattle.std.proofs.Common.{◌≡◌, take}
use Rattle.alg_core.specs.Spaces.{entries}
use Rattle.poly_module.proofs.lookups.are_equal.Given as goal

abbrev pub invariant-loop-i : goal.invariant-loop-i
invariant-loop-i g l = entries g.M.Monomial.exps (take l.i l.xs) ≡ entries g.M.Monomial.exps (take l.i l.ys)
