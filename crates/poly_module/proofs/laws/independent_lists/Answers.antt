use Rattle.alg_core.specs.Fields.{is_field}
use Rattle.alg_core.specs.Vectors.{vectors}
use Rattle.poly_module.proofs.Echelon.{echelon_independent}
use Rattle.poly_module.proofs.Exchange.{same_length}
use Rattle.poly_module.proofs.laws.independent_lists.Goals as goal

pub returns-clause-echelon : goal.returns-clause-echelon
returns-clause-echelon g c = echelon_independent (g.F.Field.field c.args._space.now.field)

pub returns-clause-length : goal.returns-clause-length
returns-clause-length g c = let k = g.F.Field.field c.args._space.now.field in same_length (is_field k) (vectors k)
