use Rattle.std.proofs.Common.{arith}
use Rattle.alg_core.specs.Spaces.{over}
use Rattle.secondary_gens.proofs.ColumnSteps.{rowed_none, rowed_more, rowed_all}
use Rattle.secondary_gens.proofs.columns.rows_of.Goals as goal

pub loop-i-init : goal.loop-i-init
loop-i-init g c = rowed_none (over g.F.Field.field g.O.TermOrder.order c.args.space.now) c.args.columns.now c.new-rows.result.items c.new-rows.ensures.items

pub loop-i-preserved : goal.loop-i-preserved
loop-i-preserved g c =
    rowed_more (over g.F.Field.field g.O.TermOrder.order c.args.space.now) c.args.columns.now c.loop-i.i c.index-columns-i.result c.loop-i.rows.items c.absorb.new.rows.items c.loop-i-test.true c.index-columns-i.is
    c.in_ok-absorb.ensures.rows (λ vs e. c.in_ok-absorb.ensures.new vs e) c.loop-i.invariant

pub returns-clause-echelon : goal.returns-clause-echelon
returns-clause-echelon g c = rowed_all (over g.F.Field.field g.O.TermOrder.order c.args.space.now) c.args.columns.now c.loop-i.i c.loop-i.rows.items (omega (arith, c.loop-i-test.false)) c.loop-i.invariant
