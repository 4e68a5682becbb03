use Rattle.std.proofs.Common.{◌≡◌, ◌<◌, ◌≤◌, ◌-◌, ◌+◌, [], get_or, length, map, refl, sym, ap, subst, ◌∙◌, arith}
use Rattle.std.proofs.lemmas.List.{length-map}
use Rattle.std.specs.List.{insert}
use Rattle.alg_core.specs.KeyLists.{inserted}
use Rattle.poly_module.specs.Modules.{listed}
use Rattle.secondary_gens.specs.Images.{IsImage}
use Rattle.alg_core.specs.Spaces.{over}
use Rattle.alg_core.specs.ExponentLists.{product as list_product, Within}
use Rattle.poly_module.specs.SpaceVectors.{vectors_of}
use Rattle.poly_module.proofs.SpaceVectorLaws.{poly_of}
use Rattle.secondary_gens.specs.Images.{unit_exponents}
use Rattle.secondary_gens.proofs.MonomialDegrees.{length_unit}
use Rattle.secondary_gens.specs.Columns.{turned, mark_order, key_of, keys_of}
use Rattle.secondary_gens.specs.Forms.{degree_of, degrees_of}
use Rattle.secondary_gens.specs.declared.columns.Column.{Column}
use Rattle.secondary_gens.proofs.FormDegrees.{weight_read, primary_image}
use Rattle.secondary_gens.proofs.LowerLevels.{weight_positive, lower_of}
use Rattle.secondary_gens.proofs.ProductSteps.{read_map, part_skip, adding_none, adding_end, lower_product, lower_within, lower_wide, lower_room, add_same, add_more, Adding}
use Rattle.secondary_gens.proofs.products.add_products.Goals as goal
use Rattle.secondary_gens.proofs.products.add_products.Goals.{in-Some+in_ok-value-in-Some+in_ok-insert-in-Some, in-None+in-Heap-1, in-None+in-Inline-1}

pub returns-then-degree-e : goal.returns-then-degree-e
returns-then-degree-e g c =
    let S = over g.F.Field.field g.O.TermOrder.order c.args.space.now in
    let ds = degrees_of c.args.theta.now in
    let n = length-map c.args.theta.now degree_of in
    let w = weight_read c.args.order.now.weights.items ds c.args.i c.index.result.now c.requires.weights (omega (arith, c.requires.mark)) c.index.ensures in
    record { part = part_skip S (vectors_of S (λ m. m) c.args.theta.now) ds c.args.e (get_or ds c.args.i 0) c.args.i c.args.level.now.items (omega (arith, c.requires.mark)) refl (omega (arith, c.if-degree-e.true)) c.requires.part }

pub bounds-levels-e : goal.bounds-levels-e
bounds-levels-e g c =
    let S = over g.F.Field.field g.O.TermOrder.order c.args.space.now in
    let p = weight_positive S c.args.theta.now c.args.order.now.weights.items c.requires.primaries c.requires.weights c.args.i c.index.result.now c.requires.mark c.index.ensures in
    omega (arith, c.requires.count, c.if-degree-e.false)

pub loop-j-init : goal.loop-j-init
loop-j-init g c =
    let S = over g.F.Field.field g.O.TermOrder.order c.args.space.now in
    adding_none S (vectors_of S (λ m. m) c.args.theta.now) (degrees_of c.args.theta.now) c.args.e c.args.i _ c.args.level.now.items c.requires.part

pub product-requires-clause-same : goal.product-requires-clause-same
product-requires-clause-same g c =
    let S = over g.F.Field.field g.O.TermOrder.order c.args.space.now in
    let θ = vectors_of S (λ m. m) c.args.theta.now in
    let ds = degrees_of c.args.theta.now in
    let r = c.index.result.now in
    let n = length-map c.args.theta.now degree_of in
    let positive = weight_positive S c.args.theta.now c.args.order.now.weights.items c.requires.primaries c.requires.weights c.args.i r c.requires.mark c.index.ensures in
    let lower = c.as_slice-lower.result.now in
    let low : r ≤ c.args.e = omega (arith, c.if-degree-e.false) in
    let at : c.args.e - r < length c.args.levels.now = omega (arith, c.requires.count) in
    let q = lower_of S c.args.theta.now c.args.order.now.weights.items c.requires.primaries c.requires.weights c.args.i r c.requires.mark c.index.ensures
    (map (λ v. v.items) c.args.levels.now) c.args.e lower c.requires.degree (let m = length-map c.args.levels.now (λ v. v.items) in omega (arith, c.requires.count)) c.requires.levels low
    (c.as_slice-lower.ensures.value ∙ read_map (λ v. v.items) c.args.levels.now (c.args.e - r) c.index-levels-e.result [] at c.index-levels-e.is) in
    let p = c.index-lower-j.result in
    let inside = c.loop-j-test.true in
    let read = c.index-lower-j.is in
    let mark : c.in_ok-mark.mark ≡ unit_exponents (length ds) c.args.i = c.in_ok-mark.ensures.is ∙ ap (λ l. unit_exponents l c.args.i) (sym n) in
    (lower_product S θ ds c.args.e c.args.i r (c.args.e - r) c.loop-j.j lower c.loop-j.level.items q p inside read).wide ∙ sym (ap length mark ∙ length_unit (length ds) c.args.i)

pub product-requires-clause-fits : goal.product-requires-clause-fits
product-requires-clause-fits g c =
    let S = over g.F.Field.field g.O.TermOrder.order c.args.space.now in
    let θ = vectors_of S (λ m. m) c.args.theta.now in
    let ds = degrees_of c.args.theta.now in
    let r = c.index.result.now in
    let n = length-map c.args.theta.now degree_of in
    let positive = weight_positive S c.args.theta.now c.args.order.now.weights.items c.requires.primaries c.requires.weights c.args.i r c.requires.mark c.index.ensures in
    let lower = c.as_slice-lower.result.now in
    let low : r ≤ c.args.e = omega (arith, c.if-degree-e.false) in
    let at : c.args.e - r < length c.args.levels.now = omega (arith, c.requires.count) in
    let q = lower_of S c.args.theta.now c.args.order.now.weights.items c.requires.primaries c.requires.weights c.args.i r c.requires.mark c.index.ensures
    (map (λ v. v.items) c.args.levels.now) c.args.e lower c.requires.degree (let m = length-map c.args.levels.now (λ v. v.items) in omega (arith, c.requires.count)) c.requires.levels low
    (c.as_slice-lower.ensures.value ∙ read_map (λ v. v.items) c.args.levels.now (c.args.e - r) c.index-levels-e.result [] at c.index-levels-e.is) in
    let p = c.index-lower-j.result in
    let inside = c.loop-j-test.true in
    let read = c.index-lower-j.is in
    let mark : c.in_ok-mark.mark ≡ unit_exponents (length ds) c.args.i = c.in_ok-mark.ensures.is ∙ ap (λ l. unit_exponents l c.args.i) (sym n) in
    subst (λ a. Within 4294967295 (list_product p.at.mono a)) (sym mark) (lower_within S θ ds c.args.e c.args.i r (c.args.e - r) c.loop-j.j lower c.loop-j.level.items q p inside read)

pub place_of-requires-clause-wide : goal.place_of-requires-clause-wide
place_of-requires-clause-wide g c =
    let S = over g.F.Field.field g.O.TermOrder.order c.args.space.now in
    let θ = vectors_of S (λ m. m) c.args.theta.now in
    let ds = degrees_of c.args.theta.now in
    let r = c.index.result.now in
    let n = length-map c.args.theta.now degree_of in
    let positive = weight_positive S c.args.theta.now c.args.order.now.weights.items c.requires.primaries c.requires.weights c.args.i r c.requires.mark c.index.ensures in
    let lower = c.as_slice-lower.result.now in
    let low : r ≤ c.args.e = omega (arith, c.if-degree-e.false) in
    let at : c.args.e - r < length c.args.levels.now = omega (arith, c.requires.count) in
    let q = lower_of S c.args.theta.now c.args.order.now.weights.items c.requires.primaries c.requires.weights c.args.i r c.requires.mark c.index.ensures
    (map (λ v. v.items) c.args.levels.now) c.args.e lower c.requires.degree (let m = length-map c.args.levels.now (λ v. v.items) in omega (arith, c.requires.count)) c.requires.levels low
    (c.as_slice-lower.ensures.value ∙ read_map (λ v. v.items) c.args.levels.now (c.args.e - r) c.index-levels-e.result [] at c.index-levels-e.is) in
    let p = c.index-lower-j.result in
    let inside = c.loop-j-test.true in
    let read = c.index-lower-j.is in
    let mark : c.in_ok-mark.mark ≡ unit_exponents (length ds) c.args.i = c.in_ok-mark.ensures.is ∙ ap (λ l. unit_exponents l c.args.i) (sym n) in
    lower_wide S θ ds c.args.e c.args.i r (c.args.e - r) c.loop-j.j lower c.loop-j.level.items q p inside read c.in_ok-mono.mono (c.in_ok-mono.ensures.ok ∙ ap (list_product p.at.mono) mark) ∙ ap length (sym c.requires.weights)

pub mul-requires-clause-polynomial : goal.mul-requires-clause-polynomial
mul-requires-clause-polynomial g c =
    let S = over g.F.Field.field g.O.TermOrder.order c.args.space.now in
    let θ = vectors_of S (λ m. m) c.args.theta.now in
    let ds = degrees_of c.args.theta.now in
    let r = c.index.result.now in
    let n = length-map c.args.theta.now degree_of in
    let positive = weight_positive S c.args.theta.now c.args.order.now.weights.items c.requires.primaries c.requires.weights c.args.i r c.requires.mark c.index.ensures in
    let lower = c.as_slice-lower.result.now in
    let low : r ≤ c.args.e = omega (arith, c.if-degree-e.false) in
    let at : c.args.e - r < length c.args.levels.now = omega (arith, c.requires.count) in
    let q = lower_of S c.args.theta.now c.args.order.now.weights.items c.requires.primaries c.requires.weights c.args.i r c.requires.mark c.index.ensures
    (map (λ v. v.items) c.args.levels.now) c.args.e lower c.requires.degree (let m = length-map c.args.levels.now (λ v. v.items) in omega (arith, c.requires.count)) c.requires.levels low
    (c.as_slice-lower.ensures.value ∙ read_map (λ v. v.items) c.args.levels.now (c.args.e - r) c.index-levels-e.result [] at c.index-levels-e.is) in
    let p = c.index-lower-j.result in
    let inside = c.loop-j-test.true in
    let read = c.index-lower-j.is in
    poly_of S (λ m. m) _ _ (lower_product S θ ds c.args.e c.args.i r (c.args.e - r) c.loop-j.j lower c.loop-j.level.items q p inside read).value.polynomial

pub mul-requires-clause-room : goal.mul-requires-clause-room
mul-requires-clause-room g c =
    let S = over g.F.Field.field g.O.TermOrder.order c.args.space.now in
    let θ = vectors_of S (λ m. m) c.args.theta.now in
    let ds = degrees_of c.args.theta.now in
    let r = c.index.result.now in
    let n = length-map c.args.theta.now degree_of in
    let positive = weight_positive S c.args.theta.now c.args.order.now.weights.items c.requires.primaries c.requires.weights c.args.i r c.requires.mark c.index.ensures in
    let lower = c.as_slice-lower.result.now in
    let low : r ≤ c.args.e = omega (arith, c.if-degree-e.false) in
    let at : c.args.e - r < length c.args.levels.now = omega (arith, c.requires.count) in
    let q = lower_of S c.args.theta.now c.args.order.now.weights.items c.requires.primaries c.requires.weights c.args.i r c.requires.mark c.index.ensures
    (map (λ v. v.items) c.args.levels.now) c.args.e lower c.requires.degree (let m = length-map c.args.levels.now (λ v. v.items) in omega (arith, c.requires.count)) c.requires.levels low
    (c.as_slice-lower.ensures.value ∙ read_map (λ v. v.items) c.args.levels.now (c.args.e - r) c.index-levels-e.result [] at c.index-levels-e.is) in
    let p = c.index-lower-j.result in
    let inside = c.loop-j-test.true in
    let read = c.index-lower-j.is in
    lower_room S θ ds c.args.e c.args.i r (c.args.e - r) c.loop-j.j lower c.loop-j.level.items q p inside read c.index-theta-i.result (subst (λ d. IsImage S d (listed S.field θ c.args.i) c.index-theta-i.result) (sym q.degree) (primary_image S c.args.theta.now c.args.i c.index-theta-i.result c.requires.primaries c.requires.mark c.index-theta-i.is))

pub loop-j-preserved : goal.loop-j-preserved
loop-j-preserved g c =
    let S = over g.F.Field.field g.O.TermOrder.order c.args.space.now in
    let θ = vectors_of S (λ m. m) c.args.theta.now in
    let ds = degrees_of c.args.theta.now in
    let r = c.index.result.now in
    let n = length-map c.args.theta.now degree_of in
    let positive = weight_positive S c.args.theta.now c.args.order.now.weights.items c.requires.primaries c.requires.weights c.args.i r c.requires.mark c.index.ensures in
    let lower = c.as_slice-lower.result.now in
    let low : r ≤ c.args.e = omega (arith, c.if-degree-e.false) in
    let at : c.args.e - r < length c.args.levels.now = omega (arith, c.requires.count) in
    let q = lower_of S c.args.theta.now c.args.order.now.weights.items c.requires.primaries c.requires.weights c.args.i r c.requires.mark c.index.ensures
    (map (λ v. v.items) c.args.levels.now) c.args.e lower c.requires.degree (let m = length-map c.args.levels.now (λ v. v.items) in omega (arith, c.requires.count)) c.requires.levels low
    (c.as_slice-lower.ensures.value ∙ read_map (λ v. v.items) c.args.levels.now (c.args.e - r) c.index-levels-e.result [] at c.index-levels-e.is) in
    let p = c.index-lower-j.result in
    let inside = c.loop-j-test.true in
    let read = c.index-lower-j.is in
    let mark : c.in_ok-mark.mark ≡ unit_exponents (length ds) c.args.i = c.in_ok-mark.ensures.is ∙ ap (λ l. unit_exponents l c.args.i) (sym n) in
    let ws = c.args.order.now.weights.items in
    elim c.match-place_of.branch [
      | in-Some+in_ok-value-in-Some+in_ok-insert-in-Some w ↦
          let own : Column g.row.F-Elem.Denot = record { at = record { pos = 0; mono = c.in_ok-mono.mono }; value = w.in_ok-value-in-Some.value } in
          subst (λ l. Adding S θ ds c.args.e c.args.i lower (c.loop-j.j + 1) l.items) (sym w.level-is)
          (add_more S θ ds c.args.e c.args.i r (c.args.e - r) c.loop-j.j lower c.loop-j.level.items q p inside read c.loop-j.invariant own refl (c.in_ok-mono.ensures.ok ∙ ap (list_product p.at.mono) mark)
          w.index-theta-i.result (subst (λ d. IsImage S d (listed S.field θ c.args.i) w.index-theta-i.result) (sym q.degree) (primary_image S c.args.theta.now c.args.i w.index-theta-i.result c.requires.primaries c.requires.mark w.index-theta-i.is))
          w.in_ok-value-in-Some.ensures.product w.in-Some.l w.insert.new.self.items (subst (λ l. w.in-Some.l ≤ length l) c.as_slice.ensures.value w.in-Some.ensures.within) w.in_ok-insert-in-Some.ensures.items
          (subst (λ l. inserted (turned (mark_order ds)) (key_of own) (keys_of l) ≡ insert (keys_of l) w.in-Some.l (key_of own)) c.as_slice.ensures.value
          (subst (λ us. inserted (turned (mark_order us)) (key_of own) (keys_of c.as_slice.result.now) ≡ insert (keys_of c.as_slice.result.now) w.in-Some.l (key_of own)) c.requires.weights w.in-Some.ensures.some)))
      | in-None+in-Heap-1 w ↦
          let own : Column g.row.F-Elem.Denot = record { at = record { pos = 0; mono = c.in_ok-mono.mono }; value = [] } in
          subst (λ l. Adding S θ ds c.args.e c.args.i lower (c.loop-j.j + 1) l.items) (sym w.level-is)
          (add_same S θ ds c.args.e c.args.i r (c.args.e - r) c.loop-j.j lower c.loop-j.level.items q p inside read c.loop-j.invariant own refl (c.in_ok-mono.ensures.ok ∙ ap (list_product p.at.mono) mark)
          (subst (λ l. inserted (turned (mark_order ds)) (key_of own) (keys_of l) ≡ keys_of l) c.as_slice.ensures.value
          (subst (λ us. inserted (turned (mark_order us)) (key_of own) (keys_of c.as_slice.result.now) ≡ keys_of c.as_slice.result.now) c.requires.weights w.in-None.ensures.none)))
      | in-None+in-Inline-1 w ↦
          let own : Column g.row.F-Elem.Denot = record { at = record { pos = 0; mono = c.in_ok-mono.mono }; value = [] } in
          subst (λ l. Adding S θ ds c.args.e c.args.i lower (c.loop-j.j + 1) l.items) (sym w.level-is)
          (add_same S θ ds c.args.e c.args.i r (c.args.e - r) c.loop-j.j lower c.loop-j.level.items q p inside read c.loop-j.invariant own refl (c.in_ok-mono.ensures.ok ∙ ap (list_product p.at.mono) mark)
          (subst (λ l. inserted (turned (mark_order ds)) (key_of own) (keys_of l) ≡ keys_of l) c.as_slice.ensures.value
          (subst (λ us. inserted (turned (mark_order us)) (key_of own) (keys_of c.as_slice.result.now) ≡ keys_of c.as_slice.result.now) c.requires.weights w.in-None.ensures.none)))
    ]

pub returns : goal.returns
returns g c =
    let S = over g.F.Field.field g.O.TermOrder.order c.args.space.now in
    let θ = vectors_of S (λ m. m) c.args.theta.now in
    let ds = degrees_of c.args.theta.now in
    let r = c.index.result.now in
    let n = length-map c.args.theta.now degree_of in
    let positive = weight_positive S c.args.theta.now c.args.order.now.weights.items c.requires.primaries c.requires.weights c.args.i r c.requires.mark c.index.ensures in
    let lower = c.as_slice-lower.result.now in
    let low : r ≤ c.args.e = omega (arith, c.if-degree-e.false) in
    let at : c.args.e - r < length c.args.levels.now = omega (arith, c.requires.count) in
    let q = lower_of S c.args.theta.now c.args.order.now.weights.items c.requires.primaries c.requires.weights c.args.i r c.requires.mark c.index.ensures
    (map (λ v. v.items) c.args.levels.now) c.args.e lower c.requires.degree (let m = length-map c.args.levels.now (λ v. v.items) in omega (arith, c.requires.count)) c.requires.levels low
    (c.as_slice-lower.ensures.value ∙ read_map (λ v. v.items) c.args.levels.now (c.args.e - r) c.index-levels-e.result [] at c.index-levels-e.is) in
    record { part = adding_end S θ ds c.args.e c.args.i r (c.args.e - r) c.loop-j.j lower c.loop-j.level.items q (omega (arith, c.loop-j-test.false)) c.loop-j.invariant }
