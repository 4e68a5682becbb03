use Rattle.std.proofs.Common.{◌∙◌, ap, map, sym, subst, All}
use Rattle.alg_core.specs.Fields.{scalars}
use Rattle.lin_algebra.specs.declared.elimination.BasisRow.{BasisRow}
use Rattle.lin_algebra.specs.Vectors.{vectors, IsRow}
use Rattle.alg_core.specs.Spans.{SameSpan}
use Rattle.lin_algebra.specs.Echelons.{IsReducedEchelon}
use Rattle.lin_algebra.specs.Matrices.{vectors_of}
use Rattle.lin_algebra.proofs.FormLaws.{IsMatrix_of_basis, vectors_of_made, pivot_rows_made}
use Rattle.lin_algebra.proofs.forms.echelon.Goals as goal

pub returns-clause-matrix : goal.returns-clause-matrix
returns-clause-matrix g c =
    let k = g.F.Field.field c.args.field.now in
    let basis = c.in_ok-basis.basis.items in
    let made = c.in_ok-matrix_of.ensures in
    IsMatrix_of_basis k (λ e. e.entries.items) basis c.in_ok-matrix_of.field-0 (subst (λ n. All (λ (e : BasisRow g.row.F-Elem.Denot). IsRow k n e.entries.items) basis) (sym made.columns) c.in_ok-basis.ensures.basis.rows) made.whole (made.rows ∙ ap (map (λ e. e.entries.items)) c.deref.ensures.value)

pub returns-clause-echelon : goal.returns-clause-echelon
returns-clause-echelon g c =
    let k = g.F.Field.field c.args.field.now in
    let basis = c.in_ok-basis.basis.items in
    subst (IsReducedEchelon (scalars k))
    (sym (pivot_rows_made k basis c.in_ok-matrix_of.field-0 c.in_ok-pivots_of.field-0.items (c.in_ok-pivots_of.ensures.pivots ∙ ap (map (λ e. e.pivot)) c.deref-2.ensures.value) (c.in_ok-matrix_of.ensures.rows ∙ ap (map (λ e. e.entries.items)) c.deref.ensures.value)))
    c.in_ok-basis.ensures.basis.reduced

pub returns-clause-span : goal.returns-clause-span
returns-clause-span g c =
    let k = g.F.Field.field c.args.field.now in
    let basis = c.in_ok-basis.basis.items in
    subst (λ l. SameSpan (vectors (scalars k)) l (vectors_of k c.args.a.now)) (sym (vectors_of_made k basis c.in_ok-matrix_of.field-0 (c.in_ok-matrix_of.ensures.rows ∙ ap (map (λ e. e.entries.items)) c.deref.ensures.value))) c.in_ok-basis.ensures.span
