use Rattle.std.proofs.Common.{◌∙◌, ap, subst, sym, arith, length, ◌<◌}
use Rattle.std.proofs.lemmas.List.{with_items_is}
use Rattle.lin_algebra.specs.Vectors.{vector, IsRow}
use Rattle.lin_algebra.specs.declared.elimination.BasisRow.{BasisRow}
use Rattle.lin_algebra.proofs.FormLaws.{particular_more}
use Rattle.lin_algebra.proofs.forms.particular_row.Goals as goal

pub loop-old-preserved : goal.loop-old-preserved
loop-old-preserved g c =
    let k = g.F.Field.field c.args.field.now in
    let whole = c.loop-old.row.ok.0 in
    let count = c.loop-old.invariant.row.count in
    let written = with_items_is c.loop-old.row c.add_at.new.row (omega (arith, whole)) in
    let wide : c.args.j < length c.old-item.result.entries.items = subst (λ (e : BasisRow g.row.F-Elem.Denot). c.args.j < length e.entries.items) (sym c.old-item.is) (c.requires.columns c.loop-old.old-index c.old-item.result (omega arith)) in
    record {
      row = subst (IsRow k c.args.n) (sym written) (record { count = omega (arith, whole, count); has = c.add_at.ensures.has });
      is = ap (vector k) written ∙ particular_more k c.args.basis.now c.loop-old.old-index c.args.j c.old-item.result c.index.result.now c.deref_mut.result.now c.add_at.new.row (omega arith) c.old-item.is wide c.index.ensures c.add_at.ensures.sum (ap (vector k) c.deref_mut.ensures.value ∙ c.loop-old.invariant.is);
    }
