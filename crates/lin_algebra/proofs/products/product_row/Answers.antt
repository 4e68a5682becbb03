use Rattle.std.proofs.Common.{◌≡◌, ◌∙◌, ap, subst, sym, arith, length}
use Rattle.std.proofs.lemmas.List.{with_items_is}
use Rattle.lin_algebra.specs.Vectors.{vector, IsRow}
use Rattle.lin_algebra.proofs.CutLaws.{IsRow_row}
use Rattle.lin_algebra.proofs.ProductLaws.{times, times_more}
use Rattle.lin_algebra.proofs.products.product_row.Goals as goal

pub add_multiple-requires-clause-by_has : goal.add_multiple-requires-clause-by_has
add_multiple-requires-clause-by_has g c =
    let count = c.requires.row.count in
    (IsRow_row (g.F.Field.field c.args.field.now) c.args.b.now c.loop-l.l c.row.result.now c.requires.matrix (omega (arith, count)) c.row.ensures.is).has

pub loop-l-preserved : goal.loop-l-preserved
loop-l-preserved g c =
    let k = g.F.Field.field c.args.field.now in
    let whole = c.loop-l.sum.ok.0 in
    let count = c.loop-l.invariant.row.count in
    let same : length c.add_multiple.new.row ≡ length c.deref_mut.result.now = omega arith in
    let written = with_items_is c.loop-l.sum c.add_multiple.new.row (omega (arith, whole)) in
    record {
      row = subst (IsRow k c.args.b.now.cols) (sym written) (record { count = omega (arith, whole, count); has = c.add_multiple.ensures.has });
      product = ap (vector k) written ∙ times_more k c.args.b.now c.args.row.now c.deref_mut.result.now c.add_multiple.new.row c.row.result.now c.loop-l.l c.index-row-l.result (omega arith) c.index-row-l.is c.row.ensures.is c.add_multiple.ensures.sum (ap (vector k) c.deref_mut.ensures.value ∙ c.loop-l.invariant.product);
    }

pub returns-clause-product : goal.returns-clause-product
returns-clause-product g c =
    let k = g.F.Field.field c.args.field.now in
    let count = c.requires.row.count in
    c.loop-l.invariant.product ∙ ap (λ n. times k c.args.b.now n (vector k c.args.row.now)) (omega (arith, count))
