use Rattle.std.proofs.Common.{◌∙◌, ap, slice_set}
use Rattle.lin_algebra.specs.Vectors.{vector}
use Rattle.lin_algebra.proofs.RowLaws.{vector_set}
use Rattle.lin_algebra.proofs.rows.add_at.Goals as goal

pub returns-clause-sum : goal.returns-clause-sum
returns-clause-sum g c =
    let k = g.F.Field.field c.args.field.now in
    ap (λ a. vector k (slice_set c.args.row.now c.args.j a)) c.add.ensures.is ∙ vector_set k c.args.row.now c.args.j c.index-row-j.result c.args.a c.requires.column c.requires.has c.requires.value c.index-row-j.is
