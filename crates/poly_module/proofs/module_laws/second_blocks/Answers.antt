use Rattle.poly_module.proofs.LeadLaws.{lead_second}
use Rattle.poly_module.proofs.module_laws.second_blocks.Goals as goal

pub returns : goal.returns
returns g c = record { second = lead_second (g.F.Field.field c.args._space.now.field) c.args._space.now.order.first c.args._space.now.order.weights.items c.args._space.now.grading.weights.items c.args._space.now.grading.shifts.items }
