use Rattle.finite_certificate.proofs.Coordinates.{form_coordinates, coordinates}
use Rattle.finite_certificate.proofs.laws.coordinates_exist.Goals as goal

pub returns-clause-any : goal.returns-clause-any
returns-clause-any g c = coordinates (g.F.Field.field c.args._field.now)

pub returns-clause-homogeneous : goal.returns-clause-homogeneous
returns-clause-homogeneous g c = form_coordinates (g.F.Field.field c.args._field.now)
