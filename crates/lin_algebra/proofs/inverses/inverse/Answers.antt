use Rattle.std.proofs.Common.{◌≡◌, ◌∙◌, ◌<◌, ◌+◌, ap, map, sym, subst, arith, All, drop, length, slice_index_or, ℕ, true}
use Rattle.std.proofs.lemmas.Bool.{false≢true}
use Rattle.alg_core.specs.Fields.{scalars, is_field}
use Rattle.lin_algebra.specs.declared.elimination.BasisRow.{BasisRow}
use Rattle.lin_algebra.specs.Vectors.{IsRow}
use Rattle.lin_algebra.specs.Matrices.{entries}
use Rattle.lin_algebra.specs.Bases.{basis_rows}
use Rattle.lin_algebra.proofs.BasisLaws.{no_row, length_basis_rows}
use Rattle.lin_algebra.proofs.FormLaws.{IsMatrix_of_basis}
use Rattle.lin_algebra.proofs.InverseLaws.{inverse_count, inverse_pivots, half_is_inverse, right_half}
use Rattle.lin_algebra.proofs.HalfLaws.{augmented_span, pivots_of_rows, rows_of_pivots, entries_of_half, IsRow_half, IsInverse_same}
use Rattle.lin_algebra.proofs.inverses.inverse.Goals as goal

pub returns-then-not-has_all_pivots-clause-singular : goal.returns-then-not-has_all_pivots-clause-singular
returns-then-not-has_all_pivots-clause-singular g c = λ b inverse.
    let k = g.F.Field.field c.args.field.now in
    let a = c.args.a.now in
    let basis = c.in_ok-basis.basis.items in
    let spans = augmented_span k a c.in_ok-right.right basis c.requires.matrix c.requires.square c.in_ok-right.ensures.rows c.in_ok-right.ensures.unit c.in_ok-basis.ensures.span in
    let count : length basis ≡ a.rows = sym (length_basis_rows k basis) ∙ inverse_count (scalars k) a.rows (entries k a) (basis_rows k basis) c.in_ok-basis.ensures.basis.reduced spans (is_field k).one_not_zero b inverse in
    let pivots = pivots_of_rows k a.rows basis count (inverse_pivots (scalars k) a.rows (entries k a) (basis_rows k basis) c.in_ok-basis.ensures.basis.reduced spans (is_field k).one_not_zero b inverse) in
    let all : c.has_all_pivots.result ≡ true = c.has_all_pivots.ensures.all (ap length c.deref.ensures.value ∙ count) (subst (λ l. (i : ℕ) (d : BasisRow g.row.F-Elem.Denot) → i < a.rows → (slice_index_or l i d).pivot ≡ i) (sym c.deref.ensures.value) pivots) in
    false≢true (sym c.if-not-has_all_pivots.true ∙ all)

pub returns-clause-matrix : goal.returns-clause-matrix
returns-clause-matrix g c =
    let k = g.F.Field.field c.args.field.now in
    let n = c.args.a.now.rows in
    let basis = c.in_ok-basis.basis.items in
    let made = c.in_ok-inverse.ensures in
    let wide : c.args.a.now.cols + c.in_ok-right.right.cols ≡ n + n = omega (arith, c.requires.square, c.in_ok-right.ensures.cols) in
    let halves : All (λ (e : BasisRow g.row.F-Elem.Denot). IsRow k n (drop n e.entries.items)) basis = λ i d h. IsRow_half k n _ (subst (λ w. IsRow k w (slice_index_or basis i d).entries.items) wide (c.in_ok-basis.ensures.basis.rows i d h)) in
    IsMatrix_of_basis k (λ e. drop n e.entries.items) basis c.in_ok-inverse.inverse (subst (λ m. All (λ (e : BasisRow g.row.F-Elem.Denot). IsRow k m (drop n e.entries.items)) basis) (sym made.columns) halves) made.whole (made.rows ∙ ap (map (λ e. drop n e.entries.items)) c.deref-2.ensures.value)

pub returns-clause-inverse : goal.returns-clause-inverse
returns-clause-inverse g c =
    let k = g.F.Field.field c.args.field.now in
    let a = c.args.a.now in
    let n = a.rows in
    let basis = c.in_ok-basis.basis.items in
    let l = basis_rows k basis in
    let spans = augmented_span k a c.in_ok-right.right basis c.requires.matrix c.requires.square c.in_ok-right.ensures.rows c.in_ok-right.ensures.unit c.in_ok-basis.ensures.span in
    let count : length basis ≡ n = sym (ap length c.deref.ensures.value) ∙ c.has_all_pivots.ensures.count c.if-not-has_all_pivots.false in
    let pivots = rows_of_pivots k n basis count (subst (λ l. (i : ℕ) (d : BasisRow g.row.F-Elem.Denot) → i < n → (slice_index_or l i d).pivot ≡ i) c.deref.ensures.value (c.has_all_pivots.ensures.pivots c.if-not-has_all_pivots.false)) in
    let half = right_half (scalars k) n (entries k a) l c.in_ok-basis.ensures.basis.reduced spans (no_row k) (length_basis_rows k basis ∙ count) pivots in
    IsInverse_same (scalars k) n (entries k a) half (entries k c.in_ok-inverse.inverse)
    (λ i h. entries_of_half k n basis c.in_ok-inverse.inverse (c.in_ok-inverse.ensures.rows ∙ ap (map (λ e. drop n e.entries.items)) c.deref-2.ensures.value) i (omega (arith, count)))
    (half_is_inverse (scalars k) n (entries k a) l c.in_ok-basis.ensures.basis.reduced spans (no_row k) (length_basis_rows k basis ∙ count) pivots)
