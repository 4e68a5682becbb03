use Rattle.primary_module.proofs.CoordinateLaws.{coordinates_plus, coordinates_scale, coordinates_marks}
use Rattle.primary_module.proofs.laws.coordinate_laws.Goals as goal

pub returns-clause-sum : goal.returns-clause-sum
returns-clause-sum g c = coordinates_plus (g.F.Field.field c.args._field.now)

pub returns-clause-multiple : goal.returns-clause-multiple
returns-clause-multiple g c = coordinates_scale (g.F.Field.field c.args._field.now)

pub returns-clause-marks : goal.returns-clause-marks
returns-clause-marks g c = coordinates_marks (g.F.Field.field c.args._field.now)
