use Rattle.std.proofs.Common.{◌≡◌, ◌∙◌, ◌++◌, ◌∷◌, [], suc, ◌+◌, ap, ap₂, map, length, sym, subst, arith, All, Vec, Global, ℕ, refl}
use Rattle.std.proofs.lemmas.List.{map-append, length-map}
use Rattle.std.proofs.lemmas.List.Elements.{All-push}
use Rattle.alg_core.specs.Fields.{scalars, Scalar}
use Rattle.lin_algebra.specs.declared.elimination.BasisRow.{BasisRow}
use Rattle.lin_algebra.specs.Vectors.{vectors, vector, IsRow}
use Rattle.alg_core.specs.Spans.{SameSpan}
use Rattle.lin_algebra.specs.Echelons.{IsReducedEchelon}
use Rattle.lin_algebra.specs.Bases.{basis_rows, rows_of_basis}
use Rattle.lin_algebra.specs.Kernels.{kernel_vector}
use Rattle.lin_algebra.proofs.CutLaws.{listing}
use Rattle.lin_algebra.proofs.BasisLaws.{inside_rows}
use Rattle.lin_algebra.proofs.FormLaws.{IsMatrix_of_basis, vectors_of_made, pivot_rows_made}
use Rattle.lin_algebra.proofs.KernelOf.{kernel_of}
use Rattle.lin_algebra.proofs.forms.kernel.Goals as goal

pub loop-j-preserved : goal.loop-j-preserved
loop-j-preserved g c =
    let k = g.F.Field.field c.args.field.now in
    let f : Vec g.row.F-Elem.Denot Global → ℕ → Scalar k = λ r. vector k r.items in
    let rows : ℕ → ℕ → Scalar k = λ j. kernel_vector (scalars k) j (basis_rows k c.in_ok-basis.basis.items) in
    let one : suc c.loop-j.j ≡ c.loop-j.j + 1 = omega arith in
    record {
      rows = subst (All (λ (r : Vec g.row.F-Elem.Denot Global). IsRow k c.args.a.now.cols r.items)) (sym c.in_ok-push.ensures.items) (All-push (λ (r : Vec g.row.F-Elem.Denot Global). IsRow k c.args.a.now.cols r.items) c.loop-j.rows.items c.in_ok-kernel_row.field-0 c.loop-j.invariant.rows c.in_ok-kernel_row.ensures.row);
      list = ap (map f) c.in_ok-push.ensures.items ∙ map-append f c.loop-j.rows.items (c.in_ok-kernel_row.field-0 ∷ [])
          ∙ ap₂ (λ l x. l ++ x ∷ []) c.loop-j.invariant.list (c.in_ok-kernel_row.ensures.is ∙ ap (λ b. kernel_vector (scalars k) c.loop-j.j (basis_rows k b)) c.deref.ensures.value) ∙ ap (listing rows) one;
    }

pub returns-clause-matrix : goal.returns-clause-matrix
returns-clause-matrix g c =
    let k = g.F.Field.field c.args.field.now in
    let basis = c.in_ok-kernel.kernel.items in
    let made = c.in_ok-matrix.ensures in
    IsMatrix_of_basis k (λ e. e.entries.items) basis c.in_ok-matrix.matrix (subst (λ n. All (λ (e : BasisRow g.row.F-Elem.Denot). IsRow k n e.entries.items) basis) (sym made.columns) c.in_ok-kernel.ensures.basis.rows) made.whole (made.rows ∙ ap (map (λ e. e.entries.items)) c.deref-2.ensures.value)

pub returns-clause-echelon : goal.returns-clause-echelon
returns-clause-echelon g c =
    let k = g.F.Field.field c.args.field.now in
    let basis = c.in_ok-kernel.kernel.items in (
      map (λ e. e.pivot) basis,
      length-map basis (λ e. e.pivot) ∙ sym (c.in_ok-matrix.ensures.count ∙ ap length c.deref-2.ensures.value),
      subst (IsReducedEchelon (scalars k)) (sym (pivot_rows_made k basis c.in_ok-matrix.matrix (map (λ e. e.pivot) basis) refl (c.in_ok-matrix.ensures.rows ∙ ap (map (λ e. e.entries.items)) c.deref-2.ensures.value))) c.in_ok-kernel.ensures.basis.reduced,
    )

pub returns-clause-kernel : goal.returns-clause-kernel
returns-clause-kernel g c =
    let k = g.F.Field.field c.args.field.now in
    let X = vectors (scalars k) in
    let a = c.args.a.now in
    let b = c.in_ok-matrix.matrix in
    let basis = c.in_ok-basis.basis.items in
    let rows : ℕ → ℕ → Scalar k = λ j. kernel_vector (scalars k) j (basis_rows k basis) in
    let all : c.loop-j.j ≡ a.cols = omega arith in
    let made = vectors_of_made k c.in_ok-kernel.kernel.items b (c.in_ok-matrix.ensures.rows ∙ ap (map (λ e. e.entries.items)) c.deref-2.ensures.value) in
    let spans : SameSpan X (rows_of_basis k c.in_ok-kernel.kernel.items) (listing rows a.cols) = subst (SameSpan X (rows_of_basis k c.in_ok-kernel.kernel.items)) (c.loop-j.invariant.list ∙ ap (listing rows) all) c.in_ok-kernel.ensures.span in
    kernel_of k a b (basis_rows k basis) (returns-clause-matrix g c) c.in_ok-matrix.ensures.columns (inside_rows k a.cols basis c.in_ok-basis.ensures.basis.inside) c.in_ok-basis.ensures.basis.reduced c.in_ok-basis.ensures.span
    (subst (λ l. SameSpan X l (listing rows a.cols)) (sym made) spans)
