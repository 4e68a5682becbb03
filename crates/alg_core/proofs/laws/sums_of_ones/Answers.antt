use Rattle.alg_core.proofs.OnesLaws.{ones_zero}
use Rattle.alg_core.proofs.laws.sums_of_ones.Goals as goal

pub returns : goal.returns
returns g c = record { zero = ones_zero (g.F.Field.field c.args._field.now) }
