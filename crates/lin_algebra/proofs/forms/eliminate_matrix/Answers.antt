use Rattle.std.proofs.Common.{◌∙◌, ap, map, subst}
use Rattle.alg_core.specs.Fields.{scalars}
use Rattle.lin_algebra.specs.Vectors.{vectors, vector, IsRow}
use Rattle.alg_core.specs.Spans.{SameSpan}
use Rattle.lin_algebra.specs.Matrices.{rows_of}
use Rattle.lin_algebra.specs.Bases.{rows_of_basis}
use Rattle.lin_algebra.proofs.CutLaws.{IsRow_rows_of}
use Rattle.lin_algebra.proofs.FormLaws.{vectors_of_rows, All_of_rows}
use Rattle.lin_algebra.proofs.forms.eliminate_matrix.Goals as goal

pub eliminate-requires : goal.eliminate-requires
eliminate-requires g c =
    let k = g.F.Field.field c.args.field.now in
    record { rows = All_of_rows k (IsRow k c.args.a.now.cols) c.in_ok-copied_rows.field-0.items (rows_of c.args.a.now) c.in_ok-copied_rows.ensures.rows (IsRow_rows_of k c.args.a.now c.requires.matrix) }

pub returns-clause-span : goal.returns-clause-span
returns-clause-span g c =
    let k = g.F.Field.field c.args.field.now in
    subst (SameSpan (vectors (scalars k)) (rows_of_basis k c.in_ok-basis.basis.items)) (vectors_of_rows k c.in_ok-copied_rows.field-0.items ∙ ap (map (vector k)) c.in_ok-copied_rows.ensures.rows) c.in_ok-basis.ensures.span
