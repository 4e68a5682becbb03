use Rattle.primary_module.proofs.CoordinateLaws.{difference_plus, difference_marks}
use Rattle.primary_module.proofs.laws.difference_laws.Goals as goal

pub returns-clause-sum : goal.returns-clause-sum
returns-clause-sum g c = difference_plus (g.F.Field.field c.args._field.now)

pub returns-clause-marks : goal.returns-clause-marks
returns-clause-marks g c = difference_marks (g.F.Field.field c.args._field.now)
