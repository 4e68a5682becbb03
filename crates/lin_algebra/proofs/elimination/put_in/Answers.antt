use Rattle.std.proofs.Common.{◌≡◌, ◌∙◌, ◌<◌, ◌≤◌, ℕ, ap, ap₂, refl, subst, sym, arith, map, length, take, drop, All, ◌∷◌, slice_index_or, vec_len}
use Rattle.std.specs.List.{insert}
use Rattle.std.proofs.lemmas.List.{with_items_is}
use Rattle.std.proofs.lemmas.List.Elements.{All-append, All-cons, All-take, All-drop}
use Rattle.alg_core.specs.Fields.{scalars}
use Rattle.lin_algebra.specs.declared.elimination.BasisRow.{BasisRow}
use Rattle.lin_algebra.specs.Vectors.{vector}
use Rattle.lin_algebra.specs.Bases.{basis_rows, cleared}
use Rattle.lin_algebra.proofs.BasisLaws.{inside_cleared, put_in_by}
use Rattle.lin_algebra.proofs.elimination.put_in.Goals as goal

pub returns-clause-inside : goal.returns-clause-inside
returns-clause-inside g c =
    let k = g.F.Field.field c.args.field.now in
    let n = vec_len c.args.entries in
    let mid = c.clear_column.new.basis in
    let whole = c.args.basis.now.ok.0 in
    let written = with_items_is c.args.basis.now mid (omega (arith, whole)) in
    let x : BasisRow g.row.F-Elem.Denot = record { pivot = c.args.pivot; entries = c.args.entries } in
    let P : BasisRow g.row.F-Elem.Denot → Type 0 = λ e. e.pivot < n in
    let inside : All P mid = inside_cleared k n c.args.pivot (vector k c.deref.result.now) c.args.basis.now.items mid (c.clear_column.ensures.cleared ∙ ap (λ b. map (cleared (scalars k) c.args.pivot (vector k c.deref.result.now)) (basis_rows k b)) c.deref_mut.ensures.value) c.requires.inside in
    subst (All P) (sym (c.in_ok-insert.ensures.items ∙ ap (λ l. insert l c.place-at.result x) written))
    (All-append P (take c.place-at.result mid) (x ∷ drop c.place-at.result mid) (All-take P c.place-at.result mid inside) (All-cons P x (drop c.place-at.result mid) c.requires.column (All-drop P c.place-at.result mid inside)))

pub returns-clause-put : goal.returns-clause-put
returns-clause-put g c =
    let k = g.F.Field.field c.args.field.now in
    let p = c.args.pivot in
    let t = c.place-at.result in
    let mid = c.clear_column.new.basis in
    let whole = c.args.basis.now.ok.0 in
    let written = with_items_is c.args.basis.now mid (omega (arith, whole)) in
    let seen : c.deref-2.result.now ≡ mid = c.deref-2.ensures.value ∙ written in
    let x : BasisRow g.row.F-Elem.Denot = record { pivot = p; entries = c.args.entries } in
    put_in_by k p t c.args.entries.items c.args.basis.now.items mid c.insert.new.self.items x
    (c.clear_column.ensures.cleared ∙ ap₂ (λ r b. map (cleared (scalars k) p (vector k r)) (basis_rows k b)) c.deref.ensures.value c.deref_mut.ensures.value)
    (omega (arith, ap length seen))
    (subst (λ l. (i : ℕ) (d : BasisRow g.row.F-Elem.Denot) → i < t → (slice_index_or l i d).pivot < p) seen c.place-at.ensures.before)
    (subst (λ l. (d : BasisRow g.row.F-Elem.Denot) → t < length l → p ≤ (slice_index_or l t d).pivot) seen c.place-at.ensures.after)
    (c.in_ok-insert.ensures.items ∙ ap (λ l. insert l t x) written) refl refl
