use Rattle.std.proofs.Common.{◌≡◌, ◌≢◌, ◌∙◌, ◌<◌, ap, sym, subst, arith, refl, All, length, slice_index_or}
use Rattle.alg_core.specs.Fields.{scalars, is_field}
use Rattle.lin_algebra.specs.declared.elimination.BasisRow.{BasisRow}
use Rattle.lin_algebra.specs.declared.matrix.Matrix.{Matrix}
use Rattle.lin_algebra.specs.Vectors.{vectors, vector, dot}
use Rattle.alg_core.specs.Spans.{SameSpan}
use Rattle.lin_algebra.specs.Matrices.{entries}
use Rattle.lin_algebra.specs.Bases.{rows_of_basis, basis_rows}
use Rattle.lin_algebra.specs.Kernels.{particular}
use Rattle.lin_algebra.proofs.BasisLaws.{in_basis_rows, inside_rows}
use Rattle.lin_algebra.proofs.BesideLaws.{vectors_beside, column_entries}
use Rattle.lin_algebra.proofs.SolutionLaws.{no_solution, particular_solves, particular_first}
use Rattle.lin_algebra.proofs.systems.solve.Goals as goal

pub returns-then-has_pivot-clause-none : goal.returns-then-has_pivot-clause-none
returns-then-has_pivot-clause-none g c = λ x solves.
    let k = g.F.Field.field c.args.field.now in
    let a = c.args.a.now in
    let basis = c.in_ok-basis.basis.items in
    let right : Matrix g.row.F-Elem.Denot = record { rows = a.rows; cols = 1; cells = c.in_ok-from_slice.field-0 } in
    let spans = subst (SameSpan (vectors (scalars k)) (rows_of_basis k basis)) (vectors_beside k a right c.requires.matrix refl) c.in_ok-basis.ensures.span in
    let found = c.has_pivot.ensures.found c.if-has_pivot.true in
    let read : slice_index_or basis found.0 found.1 ≡ found.1 = subst (λ l. slice_index_or l found.0 found.1 ≡ found.1) c.deref.ensures.value found.3 in
    let inside : found.0 < length basis = subst (λ l. found.0 < length l) c.deref.ensures.value found.2 in
    no_solution (scalars k) (entries k a) (entries k right) a.rows a.cols (basis_rows k basis) c.in_ok-basis.ensures.basis.reduced spans (is_field k).one_not_zero
    (found.1.pivot, vector k found.1.entries.items) (in_basis_rows k basis found.0 found.1 inside read) found.4 x
    (λ i h. solves i h ∙ sym (column_entries k right c.args.b.now i refl c.in_ok-from_slice.ensures.items h))

pub particular_row-requires-clause-inside : goal.particular_row-requires-clause-inside
particular_row-requires-clause-inside g c =
    let k = g.F.Field.field c.args.field.now in
    let none = c.has_pivot.ensures.none c.if-has_pivot.false in
    let P : BasisRow g.row.F-Elem.Denot → Type 0 = λ e. e.pivot ≢ c.args.a.now.cols in
    let none : All P c.in_ok-basis.basis.items = subst (All P) c.deref.ensures.value none in
    subst (All (λ (e : BasisRow g.row.F-Elem.Denot). e.pivot < c.args.a.now.cols)) (sym c.deref-2.ensures.value)
    (λ i d h. let low = c.in_ok-basis.ensures.basis.inside i d h in omega (arith, low, none i d h))

pub returns-clause-solution : goal.returns-clause-solution
returns-clause-solution g c = λ i h.
    let k = g.F.Field.field c.args.field.now in
    let a = c.args.a.now in
    let basis = c.in_ok-basis.basis.items in
    let right : Matrix g.row.F-Elem.Denot = record { rows = a.rows; cols = 1; cells = c.in_ok-from_slice.field-0 } in
    let spans = subst (SameSpan (vectors (scalars k)) (rows_of_basis k basis)) (vectors_beside k a right c.requires.matrix refl) c.in_ok-basis.ensures.span in
    let P : BasisRow g.row.F-Elem.Denot → Type 0 = λ e. e.pivot ≢ a.cols in
    let none : All P basis = subst (All P) c.deref.ensures.value (c.has_pivot.ensures.none c.if-has_pivot.false) in
    let below : All (λ (e : BasisRow g.row.F-Elem.Denot). e.pivot < a.cols) basis = λ i d h. let low = c.in_ok-basis.ensures.basis.inside i d h in omega (arith, low, none i d h) in
    let is = c.in_ok-solution.ensures.is ∙ ap (λ b. particular (scalars k) a.cols (basis_rows k b)) c.deref-2.ensures.value in
    ap (dot (scalars k) a.cols (entries k a i)) is ∙ particular_solves (scalars k) (entries k a) (entries k right) a.rows a.cols (basis_rows k basis) c.in_ok-basis.ensures.basis.reduced spans (inside_rows k a.cols basis below) i h
    ∙ column_entries k right c.args.b.now i refl c.in_ok-from_slice.ensures.items h

pub returns-clause-first_columns : goal.returns-clause-first_columns
returns-clause-first_columns g c = λ j dependent.
    let k = g.F.Field.field c.args.field.now in
    let a = c.args.a.now in
    let basis = c.in_ok-basis.basis.items in
    let right : Matrix g.row.F-Elem.Denot = record { rows = a.rows; cols = 1; cells = c.in_ok-from_slice.field-0 } in
    let spans = subst (SameSpan (vectors (scalars k)) (rows_of_basis k basis)) (vectors_beside k a right c.requires.matrix refl) c.in_ok-basis.ensures.span in
    let P : BasisRow g.row.F-Elem.Denot → Type 0 = λ e. e.pivot ≢ a.cols in
    let none : All P basis = subst (All P) c.deref.ensures.value (c.has_pivot.ensures.none c.if-has_pivot.false) in
    let below : All (λ (e : BasisRow g.row.F-Elem.Denot). e.pivot < a.cols) basis = λ i d h. let low = c.in_ok-basis.ensures.basis.inside i d h in omega (arith, low, none i d h) in
    let is = c.in_ok-solution.ensures.is ∙ ap (λ b. particular (scalars k) a.cols (basis_rows k b)) c.deref-2.ensures.value in
    ap (λ v. v j) is ∙ particular_first (scalars k) (entries k a) (entries k right) a.rows a.cols (basis_rows k basis) c.in_ok-basis.ensures.basis.reduced spans (is_field k).one_not_zero (inside_rows k a.cols basis below) j dependent.0 dependent.1
