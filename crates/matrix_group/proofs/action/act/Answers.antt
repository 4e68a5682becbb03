use Rattle.matrix_group.proofs.Common.{◌≡◌, ℕ, List, length, sym, ap, subst, arith, over, entries}
use Rattle.matrix_group.proofs.ImageLists.{AreImages, images_start, images_count, images_step, images_polys, images_small, fits_has, fits_wide, value_acted}
use Rattle.matrix_group.proofs.action.act.Goals as goal

pub loop-i-init : goal.loop-i-init
loop-i-init g c =
    let S = over g.F.Field.field g.O.TermOrder.order c.args.space.now in
    record {
      count = ap length c.new-images.ensures.items;
      images = images_start S c.args.m.now c.new-images.result.items c.new-images.ensures.items;
    }

pub loop-i-preserved : goal.loop-i-preserved
loop-i-preserved g c =
    let S = over g.F.Field.field g.O.TermOrder.order c.args.space.now in
    record {
      count = images_count S c.args.m.now c.loop-i.images.items _ c.in_ok-image_of.field-0 c.loop-i.i c.in_ok-push.ensures.items c.loop-i.invariant.count;
      images = images_step S c.args.m.now c.loop-i.images.items _ c.in_ok-image_of.field-0 c.loop-i.i c.loop-i.invariant.count c.in_ok-push.ensures.items c.loop-i.invariant.images c.in_ok-image_of.ensures.image;
    }

pub substitute-requires : goal.substitute-requires
substitute-requires g c =
    let S = over g.F.Field.field g.O.TermOrder.order c.args.space.now in
    let f = c.args.f.now in
    let listed : length c.as_slice.result.now ≡ length c.loop-i.images.items = ap length c.as_slice.ensures.value in
    let count = c.loop-i.invariant.count in
    let whole = c.args.space.now.grading.weights.ok.0 in
    let are : AreImages S c.args.m.now c.as_slice.result.now = subst (AreImages S c.args.m.now) (sym c.as_slice.ensures.value) c.loop-i.invariant.images in
    record {
      variables = record { values = fits_has S f c.requires.polynomial.fits; wide = fits_wide S f (length c.as_slice.result.now) (omega arith) c.requires.polynomial.fits };
      images = images_polys S c.args.m.now c.as_slice.result.now are;
      polynomials = c.requires.polynomials;
      room = images_small S c.args.m.now 4294967295 (entries (λ (m : List ℕ). m) f) c.as_slice.result.now are c.requires.low;
    }

pub returns : goal.returns
returns g c =
    let S = over g.F.Field.field g.O.TermOrder.order c.args.space.now in
    let listed : length c.as_slice.result.now ≡ length c.loop-i.images.items = ap length c.as_slice.ensures.value in
    let count = c.loop-i.invariant.count in
    let whole = c.args.space.now.grading.weights.ok.0 in
    let value = c.in_ok-image.ensures.value in
    let are : AreImages S c.args.m.now c.as_slice.result.now = subst (AreImages S c.args.m.now) (sym c.as_slice.ensures.value) c.loop-i.invariant.images in
    record { image = record { fits = value.fits; position = value.position; is = value_acted S c.args.m.now c.as_slice.result.now c.args.f.now c.in_ok-image.image are (omega arith) c.requires.polynomial.fits value.is } }
