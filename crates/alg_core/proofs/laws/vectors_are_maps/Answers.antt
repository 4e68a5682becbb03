use Rattle.alg_core.proofs.VectorLaws.{coef_at_ext}
use Rattle.alg_core.proofs.laws.vectors_are_maps.Goals as goal

pub returns : goal.returns
returns g c = record { same = coef_at_ext (g.F.Field.field c.args._field.now) }
