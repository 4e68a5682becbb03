use Rattle.std.proofs.Common.{arith}
use Rattle.alg_core.specs.Spaces.{over, entries}
use Rattle.poly_module.specs.SpaceVectors.{IsPoly}
use Rattle.poly_module.specs.GreatestExponents.{peak}
use Rattle.poly_module.proofs.PowerSteps.{all_read}
use Rattle.poly_module.proofs.TableSteps.{row_small, table_start, table_step, table_is, table_covers}
use Rattle.poly_module.proofs.substitution.power_table.Goals as goal

pub loop-i-init : goal.loop-i-init
loop-i-init g c = table_start (over g.F.Field.field g.O.TermOrder.order c.args.space.now) g.M.Monomial.exps c.args.images.now (entries g.M.Monomial.exps c.args.f.now) _ c.new-table.ensures.items

pub greatest_exponent-last-requires : goal.greatest_exponent-last-requires
greatest_exponent-last-requires g c = record { within = λ k d w. let e = c.requires.variables k d w in omega (arith, c.loop-i-test.true) }

pub powers_of-requires-clause-image : goal.powers_of-requires-clause-image
powers_of-requires-clause-image g c = all_read (IsPoly (over g.F.Field.field g.O.TermOrder.order c.args.space.now) g.M.Monomial.exps) c.args.images.now c.loop-i.i c.index-images-i.result c.loop-i-test.true c.index-images-i.is c.requires.images

pub powers_of-requires-clause-small : goal.powers_of-requires-clause-small
powers_of-requires-clause-small g c =
    let S = over g.F.Field.field g.O.TermOrder.order c.args.space.now in
    let exps = g.M.Monomial.exps in
    c.greatest_exponent-last.ensures.least (peak (entries exps c.index-images-i.result)) g.M.Monomial.MAX_EXP
    (row_small S exps g.M.Monomial.MAX_EXP c.loop-i.i c.args.images.now c.index-images-i.result (entries exps c.args.f.now) c.loop-i-test.true c.index-images-i.is c.requires.room)

pub loop-i-preserved : goal.loop-i-preserved
loop-i-preserved g c =
    table_step (over g.F.Field.field g.O.TermOrder.order c.args.space.now) g.M.Monomial.exps c.args.images.now (entries g.M.Monomial.exps c.args.f.now) c.loop-i.i c.greatest_exponent-last.result c.index-images-i.result
    c.loop-i.table.items _ c.in_ok-row.row c.loop-i-test.true c.index-images-i.is c.in_ok-push.ensures.items c.in_ok-row.ensures.powers c.in_ok-row.ensures.count c.greatest_exponent-last.ensures.covers c.loop-i.invariant

pub returns-clause-table : goal.returns-clause-table
returns-clause-table g c =
    table_is (over g.F.Field.field g.O.TermOrder.order c.args.space.now) g.M.Monomial.exps c.args.images.now (entries g.M.Monomial.exps c.args.f.now) c.loop-i.i c.loop-i.table.items c.loop-i-test.false c.loop-i.auto.i-end c.loop-i.invariant

pub returns-clause-covers : goal.returns-clause-covers
returns-clause-covers g c =
    table_covers (over g.F.Field.field g.O.TermOrder.order c.args.space.now) g.M.Monomial.exps c.args.images.now (entries g.M.Monomial.exps c.args.f.now) c.loop-i.i c.loop-i.table.items c.loop-i.invariant
