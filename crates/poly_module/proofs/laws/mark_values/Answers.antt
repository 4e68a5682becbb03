use Rattle.poly_module.proofs.MarkValues.{mark_value_polynomial, mark_value_mark, mark_value_form}
use Rattle.poly_module.proofs.laws.mark_values.Goals as goal

pub returns-clause-variables : goal.returns-clause-variables
returns-clause-variables g c = mark_value_polynomial (g.F.Field.field c.args._field.now)

pub returns-clause-mark : goal.returns-clause-mark
returns-clause-mark g c = mark_value_mark (g.F.Field.field c.args._field.now)

pub returns-clause-degree : goal.returns-clause-degree
returns-clause-degree g c = mark_value_form (g.F.Field.field c.args._field.now)
