use Rattle.std.proofs.Common.{◌≡◌, ◌∙◌, ◌<◌, ℕ, ap₂, subst, sym, arith, All, slice_index_or}
use Rattle.std.specs.Vec.{with_items}
use Rattle.std.proofs.lemmas.List.{with_items_is}
use Rattle.alg_core.specs.Fields.{scalars, is_field}
use Rattle.lin_algebra.specs.Vectors.{vector}
use Rattle.lin_algebra.specs.Bases.{basis_rows, reduced_by, IsMonicMultiple, IsPutIn}
use Rattle.lin_algebra.proofs.RowLaws.{vector_zero}
use Rattle.lin_algebra.proofs.BasisLaws.{zero_before, monic_before}
use Rattle.lin_algebra.proofs.InsertLaws.{SameSpan_reduced_to_zero, put_in_reduced, put_in_span}
use Rattle.lin_algebra.proofs.elimination.insert.Goals as goal

pub returns-in_default-clause-span : goal.returns-in_default-clause-span
returns-in_default-clause-span g c =
    let k = g.F.Field.field c.args.field.now in
    let R = scalars k in
    let whole = c.args.row.ok.0 in
    let left = c.reduce.ensures.reduced ∙ ap₂ (λ r b. reduced_by R (vector k r) (basis_rows k b)) c.deref_mut.ensures.value c.deref.ensures.value in
    let seen : c.deref-2.result.now ≡ c.reduce.new.row = c.deref-2.ensures.value ∙ with_items_is c.args.row c.reduce.new.row (omega (arith, whole)) in
    let none : All (λ a. a ≡ k.zero) c.reduce.new.row = subst (All (λ a. a ≡ k.zero)) seen c.in_default.ensures.none in
    SameSpan_reduced_to_zero R (vector k c.args.row.items) (basis_rows k c.args.basis.now.items) (sym left ∙ vector_zero k c.reduce.new.row none)

pub put_in-requires-clause-before : goal.put_in-requires-clause-before
put_in-requires-clause-before g c =
    let k = g.F.Field.field c.args.field.now in
    let p = c.in-Some.pivot in
    let whole = c.args.row.ok.0 in
    let written = with_items_is c.args.row c.reduce.new.row (omega (arith, whole)) in
    let seen : c.deref-2.result.now ≡ c.reduce.new.row = c.deref-2.ensures.value ∙ written in
    let before = zero_before k c.reduce.new.row p (subst (λ l. (i : ℕ) → i < p → slice_index_or l i k.zero ≡ k.zero) seen c.in-Some.ensures.before) in
    let monic = subst (λ r. IsMonicMultiple (scalars k) p (vector k r) (vector k c.normalize.new.row)) (c.deref_mut-2.ensures.value ∙ written) c.normalize.ensures.monic in
    subst (λ r. (j : ℕ) → j < p → vector k r j ≡ (scalars k).zero) (sym (with_items_is (with_items c.args.row c.reduce.new.row) c.normalize.new.row (omega (arith, whole))))
    (monic_before k p (vector k c.reduce.new.row) (vector k c.normalize.new.row) monic before)

pub returns-clause-basis : goal.returns-clause-basis
returns-clause-basis g c =
    let k = g.F.Field.field c.args.field.now in
    let R = scalars k in
    let p = c.in-Some.pivot in
    let l = basis_rows k c.args.basis.now.items in
    let l' = basis_rows k c.put_in.new.basis.items in
    let whole = c.args.row.ok.0 in
    let left = c.reduce.ensures.reduced ∙ ap₂ (λ r b. reduced_by R (vector k r) (basis_rows k b)) c.deref_mut.ensures.value c.deref.ensures.value in
    let written = with_items_is c.args.row c.reduce.new.row (omega (arith, whole)) in
    let seen : c.deref-2.result.now ≡ c.reduce.new.row = c.deref-2.ensures.value ∙ written in
    let before = zero_before k c.reduce.new.row p (subst (λ l. (i : ℕ) → i < p → slice_index_or l i k.zero ≡ k.zero) seen c.in-Some.ensures.before) in
    let monic = subst (λ r. IsMonicMultiple R p (vector k r) (vector k c.normalize.new.row)) (c.deref_mut-2.ensures.value ∙ written) c.normalize.ensures.monic in
    let put = subst (λ r. IsPutIn R p (vector k r) l l') (with_items_is (with_items c.args.row c.reduce.new.row) c.normalize.new.row (omega (arith, whole))) c.in_ok-put_in.ensures.put in
    record {
      reduced = put_in_reduced R l l' (vector k c.args.row.items) (vector k c.reduce.new.row) (vector k c.normalize.new.row) p (is_field k).one_not_zero c.requires.basis.reduced left before monic put;
      rows = c.in_ok-put_in.ensures.rows;
      inside = c.in_ok-put_in.ensures.inside;
    }

pub returns-clause-span : goal.returns-clause-span
returns-clause-span g c =
    let k = g.F.Field.field c.args.field.now in
    let R = scalars k in
    let p = c.in-Some.pivot in
    let l = basis_rows k c.args.basis.now.items in
    let l' = basis_rows k c.put_in.new.basis.items in
    let whole = c.args.row.ok.0 in
    let left = c.reduce.ensures.reduced ∙ ap₂ (λ r b. reduced_by R (vector k r) (basis_rows k b)) c.deref_mut.ensures.value c.deref.ensures.value in
    let written = with_items_is c.args.row c.reduce.new.row (omega (arith, whole)) in
    let seen : c.deref-2.result.now ≡ c.reduce.new.row = c.deref-2.ensures.value ∙ written in
    let before = zero_before k c.reduce.new.row p (subst (λ l. (i : ℕ) → i < p → slice_index_or l i k.zero ≡ k.zero) seen c.in-Some.ensures.before) in
    let monic = subst (λ r. IsMonicMultiple R p (vector k r) (vector k c.normalize.new.row)) (c.deref_mut-2.ensures.value ∙ written) c.normalize.ensures.monic in
    let put = subst (λ r. IsPutIn R p (vector k r) l l') (with_items_is (with_items c.args.row c.reduce.new.row) c.normalize.new.row (omega (arith, whole))) c.in_ok-put_in.ensures.put in
    put_in_span R l l' (vector k c.args.row.items) (vector k c.reduce.new.row) (vector k c.normalize.new.row) p (is_field k).one_not_zero c.requires.basis.reduced left before monic put
