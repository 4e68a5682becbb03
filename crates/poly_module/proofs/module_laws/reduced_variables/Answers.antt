use Rattle.alg_core.specs.Spaces.{over}
use Rattle.poly_module.proofs.ReducedVariables.{reduced_variables}
use Rattle.poly_module.proofs.module_laws.reduced_variables.Goals as goal

pub returns : goal.returns
returns g c = record { variables = λ h n given. reduced_variables (over g.F.Field.field g.O.TermOrder.order c.args._space.now) h n given }
