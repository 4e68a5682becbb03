use Rattle.groebner_hom.proofs.ColonModules.{colon_pair, pair_colon}
use Rattle.groebner_hom.proofs.laws.colon_modules.Goals as goal

pub returns : goal.returns
returns g c = record { pairs = λ θ f p q v. (colon_pair (g.F.Field.field c.args._field.now) θ f p q v, pair_colon (g.F.Field.field c.args._field.now) θ f p q v) }
