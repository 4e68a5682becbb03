use Rattle.invariant_space.proofs.Common.{◌≡◌, ◌∙◌, ℕ, ap, length, get_or, sym, subst, arith, over, AllImages, AreSums, keys_of}
use Rattle.invariant_space.proofs.ImageLaws.{level_step}
use Rattle.invariant_space.proofs.Places.{length_keys, read_twice}
use Rattle.invariant_space.proofs.images.next_level.Goals as goal

pub next_sums-requires-clause-sums : goal.next_sums-requires-clause-sums
next_sums-requires-clause-sums g c =
    let r = c.requires.level in
    (r.0, r.1, subst (AreSums (over g.F.Field.field g.O.TermOrder.order c.args.space.now) r.0) (sym c.deref.ensures.value) r.2.sums)

pub index-monomials-requires : goal.index-monomials-requires
index-monomials-requires g c =
    let r = c.requires.level in
    let sums = c.in_ok-sums.ensures.sums r.0 (subst (AreSums (over g.F.Field.field g.O.TermOrder.order c.args.space.now) r.0) (sym c.deref.ensures.value) r.2.sums) in
    let n = sums.count in
    let w = c.args.space.now.grading.weights.ok.0 in
    let v = c.in_ok-sums.sums.ok.0 in
    omega (arith, c.len-n.ensures)

pub index-requires : goal.index-requires
index-requires g c =
    let n = c.requires.level.2.sums.count in
    let w = c.args.space.now.grading.weights.ok.0 in
    let v = c.args.level.now.sums.ok.0 in
    omega (arith, c.len-n.ensures)

pub table-requires-clause-above : goal.table-requires-clause-above
table-requires-clause-above g c =
    let r = c.requires.level in
    let sums = c.in_ok-sums.ensures.sums r.0 (subst (AreSums (over g.F.Field.field g.O.TermOrder.order c.args.space.now) r.0) (sym c.deref.ensures.value) r.2.sums) in
    let n = sums.count in
    let w = c.args.space.now.grading.weights.ok.0 in
    let p = sums.each c.len-n.result c.index-monomials.result.now (omega (arith, c.len-n.ensures)) c.index-monomials.ensures in
    record { fits = p.fits; position = p.position }

pub table-requires-clause-below : goal.table-requires-clause-below
table-requires-clause-below g c =
    let sums = c.requires.level.2.sums in
    let n = sums.count in
    let w = c.args.space.now.grading.weights.ok.0 in
    (sums.each c.len-n.result c.index.result.now (omega (arith, c.len-n.ensures)) c.index.ensures).fits

pub next_images-requires-clause-step : goal.next_images-requires-clause-step
next_images-requires-clause-step g c =
    let S = over g.F.Field.field g.O.TermOrder.order c.args.space.now in
    let r = c.requires.level in
    let w = c.args.space.now.grading.weights.ok.0 in
    let p = c.index-monomials.result.now in
    let q = c.index.result.now in
    let both = level_step S c.args.gens.now r.0 c.len-n.result c.args.level.now c.in_ok-sums.sums.items p q c.in_ok-table.table.items c.deref-2.result.now c.deref-3.result.now (omega (arith, c.len-n.ensures)) r.2
    (c.in_ok-sums.ensures.sums r.0 (subst (AreSums S r.0) (sym c.deref.ensures.value) r.2.sums)) c.index-monomials.ensures c.index.ensures c.in_ok-table.ensures.count c.in_ok-table.ensures.table c.deref-2.ensures.value c.deref-3.ensures.value in
    (r.0, keys_of p, keys_of q, both.0, length_keys p ∙ sym (ap length c.terms-count.ensures.is), both.1)

pub returns : goal.returns
returns g c =
    let S = over g.F.Field.field g.O.TermOrder.order c.args.space.now in
    let w = c.args.space.now.grading.weights.ok.0 in
    let p = c.index-monomials.result.now in
    let q = c.index.result.now in
    let last : c.len-n.result ≡ length c.args.space.now.grading.weights.items = omega (arith, c.len-n.ensures) in
    record {
      level = λ d level.
          let sums = c.in_ok-sums.ensures.sums d (subst (AreSums S d) (sym c.deref.ensures.value) level.sums) in
          let n = sums.count in
          let both = level_step S c.args.gens.now d c.len-n.result c.args.level.now c.in_ok-sums.sums.items p q c.in_ok-table.table.items c.deref-2.result.now c.deref-3.result.now last level
          sums c.index-monomials.ensures c.index.ensures c.in_ok-table.ensures.count c.in_ok-table.ensures.table c.deref-2.ensures.value c.deref-3.ensures.value in
          record {
            sums = sums;
            images = λ x read. subst (λ y. AllImages S.field c.args.gens.now (keys_of y) c.in_ok-images.images.items)
                (read_twice c.in_ok-sums.sums.items (length S.weights) p x (omega arith) (c.index-monomials.ensures ∙ ap (λ (j : ℕ). get_or c.in_ok-sums.sums.items j p) last) read)
                (c.in_ok-images.ensures.images d (keys_of p) (keys_of q) both.0 (length_keys p ∙ sym (ap length c.terms-count.ensures.is)) both.1);
          };
    }
