use Rattle.invariant_space.proofs.Common.{◌≡◌, ◌<◌, ◌∙◌, ℕ, List, ap, length, get_or, sym, subst, arith, rules, All, IfSome, Some, Has, Key, over, single_vector, vector, IsRow, IsRow_row, act_by, IsQuotient, IsTable, IsCoordinates}
use Rattle.invariant_space.proofs.ImageLaws.{some_first, first_within, image_row, next_row}
use Rattle.invariant_space.proofs.Places.{at_more, length_more}
use Rattle.invariant_space.proofs.images.next_rows.Goals as goal

pub unwrap-variable-requires : goal.unwrap-variable-requires
unwrap-variable-requires g c =
    let r = c.requires.step in
    let e = r.4 in
    some_first (over g.F.Field.field g.O.TermOrder.order c.args.space.now) r.0 r.1 r.2 c.args.table.now c.loop-l.l c.first_quotient.result r.3 (omega (arith, c.loop-l-test.true)) c.first_quotient.ensures.none

pub bounds-rows-place : goal.bounds-rows-place
bounds-rows-place g c =
    let r = c.requires.step in
    let e = r.4 in
    first_within (over g.F.Field.field g.O.TermOrder.order c.args.space.now) r.0 r.1 r.2 c.args.table.now c.args.m.now c.args.rows.now c.loop-l.l c.first_quotient.result c.unwrap-variable.result r.3 r.5 (omega (arith, c.loop-l-test.true)) c.unwrap-variable.ensures c.first_quotient.ensures.some

pub offset_bounds-rows-place : goal.offset_bounds-rows-place
offset_bounds-rows-place g c =
    let r = c.requires.step in
    let e = r.4 in
    let inside : c.unwrap-variable.result.1 < length c.args.rows.now = first_within (over g.F.Field.field g.O.TermOrder.order c.args.space.now) r.0 r.1 r.2 c.args.table.now c.args.m.now c.args.rows.now c.loop-l.l c.first_quotient.result c.unwrap-variable.result r.3 r.5 (omega (arith, c.loop-l-test.true)) c.unwrap-variable.ensures c.first_quotient.ensures.some in
    search rules

pub product_row-requires-clause-form : goal.product_row-requires-clause-form
product_row-requires-clause-form g c =
    let k = g.F.Field.field c.args.space.now.field in
    let square = c.requires.square in
    let n = c.requires.step.3.count in
    let within = subst (λ o. IfSome o (λ p. p.0 < length c.args.table.now)) c.unwrap-variable.ensures c.first_quotient.ensures.within in
    let wide : c.args.m.now.cols ≡ length c.args.table.now = omega (arith, square.cols) in
    subst (λ (x : ℕ). IsRow k x c.row-form.result.now) wide (IsRow_row k c.args.m.now c.unwrap-variable.result.0 c.row-form.result.now square.matrix (omega (arith, square.rows)) c.row-form.ensures.is)

pub product_row-requires-clause-row : goal.product_row-requires-clause-row
product_row-requires-clause-row g c =
    let k = g.F.Field.field c.args.space.now.field in
    let r = c.requires.step in
    let e = r.4 in
    subst (All (Has k)) (sym c.deref.ensures.value) (image_row k c.args.m.now r.2 c.args.rows.now c.unwrap-variable.result.1 c.index-rows-place.result r.5 (first_within (over g.F.Field.field g.O.TermOrder.order c.args.space.now) r.0 r.1 r.2 c.args.table.now c.args.m.now c.args.rows.now c.loop-l.l c.first_quotient.result c.unwrap-variable.result r.3 r.5 (omega (arith, c.loop-l-test.true)) c.unwrap-variable.ensures c.first_quotient.ensures.some) c.index-rows-place.is).has

pub product_row-requires-clause-table : goal.product_row-requires-clause-table
product_row-requires-clause-table g c =
    let k = g.F.Field.field c.args.space.now.field in
    let r = c.requires.step in
    let e = r.4 in
    let row = image_row k c.args.m.now r.2 c.args.rows.now c.unwrap-variable.result.1 c.index-rows-place.result r.5 (first_within (over g.F.Field.field g.O.TermOrder.order c.args.space.now) r.0 r.1 r.2 c.args.table.now c.args.m.now c.args.rows.now c.loop-l.l c.first_quotient.result c.unwrap-variable.result r.3 r.5 (omega (arith, c.loop-l-test.true)) c.unwrap-variable.ensures c.first_quotient.ensures.some) c.index-rows-place.is in
    (r.1, r.2, r.3.quotients, r.4, sym (ap length c.deref.ensures.value ∙ row.count))

pub loop-l-preserved : goal.loop-l-preserved
loop-l-preserved g c =
    let S = over g.F.Field.field g.O.TermOrder.order c.args.space.now in
    let n = c.loop-l.invariant.count in
    let made = c.in_ok-push.ensures.items in
    let r = c.requires.step in
    let e = r.4 in
    let some = subst (λ o. IfSome o (λ p. (ts below : List Key) (t : Key) → IsTable ts below c.args.table.now → get_or ts c.loop-l.l t ≡ t → IsQuotient below p.0 t (Some p.1))) c.unwrap-variable.ensures c.first_quotient.ensures.some in
    let within = subst (λ o. IfSome o (λ p. p.0 < length c.args.table.now)) c.unwrap-variable.ensures c.first_quotient.ensures.within in
    record {
      count = length_more c.loop-l.images.items c.push.new.self.items c.loop-l.l c.in_ok-product_row.field-0 made n;
      is = λ d ts below step many images.
          at_more (λ i r. (t : Key) → get_or ts i t ≡ t → IsCoordinates S.field ts (act_by S.field c.args.m.now (single_vector S.field t)) r.items) c.loop-l.images.items c.push.new.self.items c.loop-l.l c.in_ok-product_row.field-0 made n
          (c.loop-l.invariant.is d ts below step many images)
          (next_row S d ts below c.args.table.now c.args.m.now c.args.rows.now c.loop-l.l c.unwrap-variable.result.0 c.unwrap-variable.result.1 c.row-form.result.now c.index-rows-place.result c.in_ok-product_row.field-0 step c.requires.square images within c.row-form.ensures.is (first_within (over g.F.Field.field g.O.TermOrder.order c.args.space.now) r.0 r.1 r.2 c.args.table.now c.args.m.now c.args.rows.now c.loop-l.l c.first_quotient.result c.unwrap-variable.result r.3 r.5 (omega (arith, c.loop-l-test.true)) c.unwrap-variable.ensures c.first_quotient.ensures.some) c.index-rows-place.is some
          (λ f keys is. c.in_ok-product_row.ensures.product ts below f step.quotients many keys (ap (vector S.field) c.deref.ensures.value ∙ is)));
    }

pub returns : goal.returns
returns g c =
    let n = c.loop-l.invariant.count in
    record { images = λ d ts below step many images. record { count = omega (arith, c.loop-l-test.false, c.loop-l.auto.l-end); each = c.loop-l.invariant.is d ts below step many images } }
