use Rattle.std.proofs.Common.{◌≡◌, ◌+◌, length}
use Rattle.alg_core.specs.Spaces.{over, entries}
use Rattle.alg_core.specs.Vectors.{vec}
use Rattle.poly_module.specs.PowerTables.{IsPowers}
use Rattle.poly_module.proofs.substitution.powers_of.Given as goal

abbrev pub invariant-loop-i : goal.invariant-loop-i
invariant-loop-i g l =
    let S = over g.F.Field.field g.O.TermOrder.order l.space in
    IsPowers S g.M.Monomial.exps (vec S.field (entries g.M.Monomial.exps l.image)) l.values.items × (length l.values.items ≡ l.i + 1)
