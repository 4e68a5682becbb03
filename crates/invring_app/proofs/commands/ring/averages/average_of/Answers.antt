use Rattle.alg_core.specs.Spaces.{over}
use Rattle.invring_app.proofs.SmallForms.{small_low, average_small}
use Rattle.invring_app.proofs.commands.ring.averages.average_of.Goals as goal

pub apply-requires-clause-low : goal.apply-requires-clause-low
apply-requires-clause-low g c = small_low (over g.F.Field.field g.O.TermOrder.order c.args.space.now) c.in_ok-f.f c.in_ok-f.ensures.form

pub returns-clause-form : goal.returns-clause-form
returns-clause-form g c =
    average_small (over g.F.Field.field g.O.TermOrder.order c.args.space.now) c.args.mono.now c.requires.small c.args.averaging.now c.requires.averaging c.in_ok-f.f c.in_ok-average.average c.in_ok-f.ensures.is c.in_ok-average.ensures.average
