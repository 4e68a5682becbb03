use Rattle.alg_core.proofs.VectorLaws.{plus_comm, plus_assoc, plus_zero}
use Rattle.alg_core.proofs.laws.vector_sums.Goals as goal

pub returns-clause-comm : goal.returns-clause-comm
returns-clause-comm g c = plus_comm (g.F.Field.field c.args._field.now)

pub returns-clause-assoc : goal.returns-clause-assoc
returns-clause-assoc g c = plus_assoc (g.F.Field.field c.args._field.now)

pub returns-clause-zero : goal.returns-clause-zero
returns-clause-zero g c = plus_zero (g.F.Field.field c.args._field.now)
