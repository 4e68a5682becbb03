use Rattle.primary_module.proofs.Places.{standard_different, standard_parts}
use Rattle.primary_module.proofs.positions.standard_positions.Goals as goal

pub returns-clause-different : goal.returns-clause-different
returns-clause-different g c = λ n θ B. standard_different n (g.F.Field.field c.args._field.now) θ B

pub returns-clause-parts : goal.returns-clause-parts
returns-clause-parts g c = λ n θ B. standard_parts n (g.F.Field.field c.args._field.now) θ B
