use Rattle.std.proofs.Common.{◌≡◌, ◌∙◌, ap, subst, sym, arith, length, All, map}
use Rattle.std.proofs.lemmas.List.{length-append}
use Rattle.std.proofs.lemmas.List.Elements.{All-append}
use Rattle.alg_core.specs.Fields.{Has, scalars}
use Rattle.lin_algebra.specs.Vectors.{vector, unit}
use Rattle.lin_algebra.specs.Matrices.{cut}
use Rattle.lin_algebra.proofs.CutLaws.{listing, listed_row_more, entries_of_listing}
use Rattle.lin_algebra.proofs.inverses.identity.Goals as goal

pub loop-i-preserved : goal.loop-i-preserved
loop-i-preserved g c =
    let k = g.F.Field.field c.args.field.now in
    let row = c.in_ok-row.ensures.row in
    let width : length c.deref.result.now ≡ c.args.n = ap length c.deref.ensures.value ∙ row.count in
    record {
      count = ap length c.in_ok-extend_from_slice.ensures.items ∙ length-append c.loop-i.cells.items c.deref.result.now ∙ omega (arith, width, c.loop-i.invariant.count);
      has = subst (λ l. All (Has k) l) (sym c.in_ok-extend_from_slice.ensures.items) (All-append (Has k) c.loop-i.cells.items c.deref.result.now c.loop-i.invariant.has (subst (λ l. All (Has k) l) (sym c.deref.ensures.value) row.has));
      rows = listed_row_more (vector k) (unit (scalars k)) c.loop-i.i c.args.n c.loop-i.cells.items c.extend_from_slice.new.self.items c.deref.result.now c.in_ok-extend_from_slice.ensures.items c.loop-i.invariant.count width c.loop-i.invariant.rows
          (ap (vector k) c.deref.ensures.value ∙ c.in_ok-row.ensures.unit);
    }

pub returns-clause-unit : goal.returns-clause-unit
returns-clause-unit g c = λ i h.
    let k = g.F.Field.field c.args.field.now in
    let done : c.loop-i.i ≡ c.args.n = omega arith in
    entries_of_listing k record { rows = c.args.n; cols = c.args.n; cells = c.loop-i.cells } (unit (scalars k))
    (subst (λ m. map (vector k) (cut m c.args.n c.loop-i.cells.items) ≡ listing (unit (scalars k)) m) done c.loop-i.invariant.rows) i h
