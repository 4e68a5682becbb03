use Rattle.finite_certificate.proofs.Spanning.{finite_spans}
use Rattle.finite_certificate.proofs.laws.finite_modules.Goals as goal

pub returns : goal.returns
returns g c = record { spanned = finite_spans (g.F.Field.field c.args._field.now) }
