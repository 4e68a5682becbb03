use Rattle.std.proofs.Common.{◌∙◌, ◌+◌, ap, map, subst}
use Rattle.alg_core.specs.Fields.{scalars}
use Rattle.lin_algebra.specs.Vectors.{vectors, vector, IsRow}
use Rattle.alg_core.specs.Spans.{SameSpan}
use Rattle.lin_algebra.specs.Matrices.{rows_of, joined}
use Rattle.lin_algebra.specs.Bases.{rows_of_basis}
use Rattle.lin_algebra.proofs.BesideLaws.{IsRow_beside}
use Rattle.lin_algebra.proofs.FormLaws.{vectors_of_rows, All_of_rows}
use Rattle.lin_algebra.proofs.systems.eliminate_beside.Goals as goal

pub eliminate-requires : goal.eliminate-requires
eliminate-requires g c =
    let k = g.F.Field.field c.args.field.now in
    let a = c.args.a.now in
    let r = c.args.right.now in
    record { rows = All_of_rows k (IsRow k (a.cols + r.cols)) c.in_ok-rows.rows.items (joined (rows_of a) (rows_of r)) c.in_ok-rows.ensures.rows (IsRow_beside k a r c.requires.left c.requires.right c.requires.same) }

pub returns-clause-span : goal.returns-clause-span
returns-clause-span g c =
    let k = g.F.Field.field c.args.field.now in
    subst (SameSpan (vectors (scalars k)) (rows_of_basis k c.in_ok-basis.basis.items)) (vectors_of_rows k c.in_ok-rows.rows.items ∙ ap (map (vector k)) c.in_ok-rows.ensures.rows) c.in_ok-basis.ensures.span
