use Rattle.std.proofs.Common.{ap, refl}
use Rattle.alg_core.specs.Spaces.{over}
use Rattle.alg_core.specs.Keys.{key}
use Rattle.secondary_gens.proofs.RowSteps.{row_made, row_multiple, row_one}
use Rattle.secondary_gens.proofs.elimination.row_of.Goals as goal

pub returns-clause-row : goal.returns-clause-row
returns-clause-row g c =
    let S = over g.F.Field.field g.O.TermOrder.order c.args.space.now in
    row_made S c.args.w.now c.in_ok-vector.vector c.in-Some-inv.factor _ c.in-Some.first.now c.requires.polynomial c.in-Some.ensures.term c.in_ok-pivot.ensures.is refl c.in_ok-vector.ensures.multiple

pub returns-clause-multiple : goal.returns-clause-multiple
returns-clause-multiple g c =
    let S = over g.F.Field.field g.O.TermOrder.order c.args.space.now in
    row_multiple S c.args.w.now c.in_ok-vector.vector c.in-Some-inv.factor c.in_ok-vector.ensures.multiple

pub returns-clause-one : goal.returns-clause-one
returns-clause-one g c =
    let S = over g.F.Field.field g.O.TermOrder.order c.args.space.now in
    row_one S c.args.w.now c.in_ok-vector.vector c.in-Some.first.now.coef c.in-Some-inv.factor _ _ c.in-Some.ensures.term.has c.in-Some-inv.ensures.some.0 c.in-Some-inv.ensures.some.1
    (ap key c.in_ok-pivot.ensures.is) c.in-Some.ensures.coefficient c.in_ok-vector.ensures.multiple
