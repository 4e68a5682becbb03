use Rattle.std.proofs.Common.{◌≡◌, ◌∙◌, All, map, ap, subst, sym, arith, length}
use Rattle.std.proofs.lemmas.List.{length-append}
use Rattle.std.proofs.lemmas.List.Elements.{All-append}
use Rattle.alg_core.specs.Fields.{Has}
use Rattle.lin_algebra.specs.Vectors.{vector, IsRow}
use Rattle.lin_algebra.specs.Matrices.{cut, entries}
use Rattle.lin_algebra.proofs.CutLaws.{listing, IsRow_row, listed_row_more}
use Rattle.lin_algebra.proofs.ProductLaws.{times, product_of_rows}
use Rattle.lin_algebra.proofs.products.multiply.Goals as goal

pub product_row-requires-clause-row : goal.product_row-requires-clause-row
product_row-requires-clause-row g c =
    let k = g.F.Field.field c.args.field.now in
    subst (λ n. IsRow k n c.row.result.now) c.requires.fit (IsRow_row k c.args.a.now c.loop-i.i c.row.result.now c.requires.left (omega arith) c.row.ensures.is)

pub loop-i-preserved : goal.loop-i-preserved
loop-i-preserved g c =
    let k = g.F.Field.field c.args.field.now in
    let b = c.args.b.now in
    let row = c.in_ok-row.ensures.row in
    let width : length c.deref.result.now ≡ b.cols = ap length c.deref.ensures.value ∙ row.count in
    record {
      count = ap length c.in_ok-extend_from_slice.ensures.items ∙ length-append c.loop-i.cells.items c.deref.result.now ∙ omega (arith, width, c.loop-i.invariant.count);
      has = subst (λ l. All (Has k) l) (sym c.in_ok-extend_from_slice.ensures.items) (All-append (Has k) c.loop-i.cells.items c.deref.result.now c.loop-i.invariant.has (subst (λ l. All (Has k) l) (sym c.deref.ensures.value) row.has));
      product = listed_row_more (vector k) (λ i. times k b b.rows (entries k c.args.a.now i)) c.loop-i.i b.cols c.loop-i.cells.items c.extend_from_slice.new.self.items c.deref.result.now c.in_ok-extend_from_slice.ensures.items c.loop-i.invariant.count width c.loop-i.invariant.product
          (ap (vector k) c.deref.ensures.value ∙ c.in_ok-row.ensures.product ∙ ap (λ r. times k b b.rows (vector k r)) c.row.ensures.is);
    }

pub returns-clause-product : goal.returns-clause-product
returns-clause-product g c =
    let k = g.F.Field.field c.args.field.now in
    let a = c.args.a.now in
    let b = c.args.b.now in
    let done : c.loop-i.i ≡ a.rows = omega arith in
    product_of_rows k a b record { rows = a.rows; cols = b.cols; cells = c.loop-i.cells } (λ _. a.rows) c.requires.fit
    (subst (λ n. map (vector k) (cut n b.cols c.loop-i.cells.items) ≡ listing (λ i. times k b b.rows (entries k a i)) n) done c.loop-i.invariant.product)
