use Rattle.std.proofs.Common.{◌≤◌, length}
use Rattle.alg_core.specs.Spaces.{over}
use Rattle.poly_module.specs.SpaceVectors.{IsVectorOf}
use Rattle.poly_module.proofs.ValueSteps.{from}
use Rattle.poly_module.proofs.substitution.value_of_monomial.Given as goal

abbrev pub invariant-loop-i : goal.invariant-loop-i
invariant-loop-i g l =
    let S = over g.F.Field.field g.O.TermOrder.order l.space in
    (l.i ≤ length l.images) × IsVectorOf S g.M.Monomial.exps (from S g.M.Monomial.exps l.images (g.M.Monomial.exps l.mono) l.i) l.value

abbrev pub decreases-loop-i : goal.decreases-loop-i
decreases-loop-i g l = l.i
