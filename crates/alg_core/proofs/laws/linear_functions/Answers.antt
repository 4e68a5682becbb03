use Rattle.alg_core.specs.Fields.{scalars}
use Rattle.alg_core.specs.FreeModules.{linear_unique}
use Rattle.alg_core.specs.Keys.{key_same}
use Rattle.alg_core.specs.Vectors.{vectors}
use Rattle.alg_core.proofs.laws.linear_functions.Goals as goal

pub returns : goal.returns
returns g c =
    let k = g.F.Field.field c.args._field.now in
    record { unique = linear_unique (scalars k) key_same (vectors k) }
