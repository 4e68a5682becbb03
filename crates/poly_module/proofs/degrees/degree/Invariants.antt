use Rattle.std.proofs.Common.{take}
use Rattle.alg_core.specs.Keys.{key}
use Rattle.alg_core.specs.Spaces.{over, entries}
use Rattle.alg_core.specs.SpaceGrading.{degree}
use Rattle.poly_module.proofs.GreatestValues.{GreatestOn}
use Rattle.poly_module.proofs.degrees.degree.Given as goal

abbrev pub invariant-loop-i : goal.invariant-loop-i
invariant-loop-i g l =
    let S = over g.F.Field.field g.O.TermOrder.order l.space in
    GreatestOn (λ e. degree S (key e.0)) (entries g.M.Monomial.exps (take l.i l.terms)) l.greatest
