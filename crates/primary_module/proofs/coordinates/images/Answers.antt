use Rattle.std.proofs.Common.{arith}
use Rattle.poly_module.specs.Variables.{variables}
use Rattle.finite_certificate.specs.MarkSpaces.{mark_space}
use Rattle.finite_certificate.proofs.ImageSteps.{no_images, image_variable, image_copy, first_copies, all_copies}
use Rattle.primary_module.proofs.coordinates.images.Goals as goal

pub loop-i-init : goal.loop-i-init
loop-i-init g c = no_images (mark_space g.F.Field.field c.args.space.now) c.new-images.result.items c.new-images.ensures.items

pub loop-i-preserved : goal.loop-i-preserved
loop-i-preserved g c =
    image_variable (mark_space g.F.Field.field c.args.space.now) c.loop-i.images.items _ c.in_ok-variable.field-0 c.loop-i.i c.in_ok-push.ensures.items c.in_ok-variable.ensures.variable c.loop-i.invariant

pub loop-i-2-init : goal.loop-i-2-init
loop-i-2-init g c = first_copies (mark_space g.F.Field.field c.args.space.now) c.loop-i.images.items c.args.space.now.order.vars c.loop-i.i c.args.theta.now (omega arith) c.loop-i.invariant

pub loop-i-2-preserved : goal.loop-i-2-preserved
loop-i-2-preserved g c =
    let S = mark_space g.F.Field.field c.args.space.now in
    image_copy S c.loop-i-2.images.items _ c.in_ok-copy.field-0 c.index-theta-i.result (variables S.field c.args.space.now.order.vars) c.args.theta.now c.loop-i-2.i c.in_ok-push-2.ensures.items c.in_ok-copy.ensures.same c.loop-i-2-test.true c.index-theta-i.is c.requires.theta c.loop-i-2.invariant

pub returns : goal.returns
returns g c =
    let S = mark_space g.F.Field.field c.args.space.now in
    let h = all_copies S c.loop-i-2.images.items (variables S.field c.args.space.now.order.vars) c.args.theta.now c.loop-i-2.i c.loop-i-2-test.false c.loop-i-2.invariant in
    record { polys = h.polys; are = h.are }
