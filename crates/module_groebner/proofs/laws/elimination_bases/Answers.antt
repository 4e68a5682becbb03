use Rattle.module_groebner.proofs.ListLaws.{eliminated_generate, eliminated_reduced}
use Rattle.module_groebner.proofs.laws.elimination_bases.Goals as goal

pub returns-clause-generates : goal.returns-clause-generates
returns-clause-generates g c = eliminated_generate (g.F.Field.field c.args._space.now.field) c.args._space.now.order.first c.args._space.now.order.weights.items c.args._space.now.grading.weights.items c.args._space.now.grading.shifts.items

pub returns-clause-reduced : goal.returns-clause-reduced
returns-clause-reduced g c = eliminated_reduced (g.F.Field.field c.args._space.now.field) c.args._space.now.order.first c.args._space.now.order.weights.items c.args._space.now.grading.weights.items c.args._space.now.grading.shifts.items
