use Rattle.finite_certificate.proofs.Coordinates.{standard_decided}
use Rattle.finite_certificate.proofs.StandardTests.{standard_by_basis, standard_by_lifts, standard_divisor, one_standard}
use Rattle.finite_certificate.proofs.laws.standard_monomials.Goals as goal

pub returns-clause-by_basis : goal.returns-clause-by_basis
returns-clause-by_basis g c = standard_by_basis (g.F.Field.field c.args._field.now)

pub returns-clause-by_lifts : goal.returns-clause-by_lifts
returns-clause-by_lifts g c = λ n ds θ gs primaries. standard_by_lifts (g.F.Field.field c.args._field.now) n θ ds primaries gs

pub returns-clause-divisor : goal.returns-clause-divisor
returns-clause-divisor g c = standard_divisor (g.F.Field.field c.args._field.now)

pub returns-clause-one : goal.returns-clause-one
returns-clause-one g c = λ n ds θ primaries. one_standard (g.F.Field.field c.args._field.now) n θ ds primaries

pub returns-clause-decided : goal.returns-clause-decided
returns-clause-decided g c = standard_decided (g.F.Field.field c.args._field.now)
