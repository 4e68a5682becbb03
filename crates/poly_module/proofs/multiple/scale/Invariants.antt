use Rattle.std.proofs.Common.{◌≡◌, take}
use Rattle.alg_core.specs.Spaces.{over, entries}
use Rattle.poly_module.proofs.Multiples.{scaled_entries}
use Rattle.poly_module.proofs.multiple.scale.Given as goal

abbrev pub invariant-loop-i : goal.invariant-loop-i
invariant-loop-i g l =
    let exps = g.M.Monomial.exps in
    entries exps l.terms.items ≡ scaled_entries (over g.F.Field.field g.O.TermOrder.order l.space) l.c (entries exps (take l.i l.xs))
