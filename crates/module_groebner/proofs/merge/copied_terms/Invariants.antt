use Rattle.std.proofs.Common.{◌≡◌, take}
use Rattle.alg_core.specs.Spaces.{entries}
use Rattle.module_groebner.proofs.merge.copied_terms.Given as goal

abbrev pub invariant-loop-i : goal.invariant-loop-i
invariant-loop-i g l =
    let exps = g.M.Monomial.exps in
    entries exps l.terms.items ≡ entries exps (take l.i l.xs)
