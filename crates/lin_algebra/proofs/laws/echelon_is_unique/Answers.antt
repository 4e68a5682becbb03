use Rattle.alg_core.specs.Fields.{scalars, is_field}
use Rattle.lin_algebra.proofs.EchelonLaws.{reduced_unique}
use Rattle.lin_algebra.proofs.laws.echelon_is_unique.Goals as goal

pub returns : goal.returns
returns g c =
    let k = g.F.Field.field c.args.field.now in
    record { unique = reduced_unique (scalars k) (is_field k).one_not_zero }
