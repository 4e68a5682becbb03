use Rattle.lin_algebra.proofs.BasisLaws.{monic_by}
use Rattle.lin_algebra.proofs.elimination.normalize.Goals as goal

pub returns-clause-monic : goal.returns-clause-monic
returns-clause-monic g c =
    monic_by (g.F.Field.field c.args.field.now) c.args.row.now c.scale.new.row c.args.pivot c.index-row-pivot.result c.unwrap-factor.result c.inv.result c.requires.column c.requires.has c.index-row-pivot.is c.unwrap-factor.ensures c.inv.ensures.some c.scale.ensures.multiple
