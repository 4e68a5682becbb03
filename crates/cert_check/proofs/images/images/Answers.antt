use Rattle.std.proofs.Common.{length, arith}
use Rattle.poly_module.specs.Variables.{variables}
use Rattle.finite_certificate.proofs.ImageSteps.{no_images, image_variable, image_copy, first_copies, all_copies}
use Rattle.cert_check.proofs.CheckSpaces.{plain_of}
use Rattle.cert_check.proofs.images.images.Goals as goal

pub loop-i-init : goal.loop-i-init
loop-i-init c = no_images (plain_of c.args.space.now) c.new-images.result.items c.new-images.ensures.items

pub loop-i-preserved : goal.loop-i-preserved
loop-i-preserved c =
    image_variable (plain_of c.args.space.now) c.loop-i.images.items _ c.in_ok-variable.field-0 c.loop-i.i c.in_ok-push.ensures.items c.in_ok-variable.ensures.variable c.loop-i.invariant

pub loop-i-2-init : goal.loop-i-2-init
loop-i-2-init c = first_copies (plain_of c.args.space.now) c.loop-i.images.items (length c.args.space.now.grading.weights.items) c.loop-i.i c.args.theta.now (omega arith) c.loop-i.invariant

pub loop-i-2-preserved : goal.loop-i-2-preserved
loop-i-2-preserved c =
    let S = plain_of c.args.space.now in
    image_copy S c.loop-i-2.images.items _ c.in_ok-copy.field-0 c.index-theta-i.result (variables S.field (length S.weights)) c.args.theta.now c.loop-i-2.i c.in_ok-push-2.ensures.items
    c.in_ok-copy.ensures.same c.loop-i-2-test.true c.index-theta-i.is c.requires.theta c.loop-i-2.invariant

pub returns : goal.returns
returns c =
    let S = plain_of c.args.space.now in
    let h = all_copies S c.loop-i-2.images.items (variables S.field (length S.weights)) c.args.theta.now c.loop-i-2.i c.loop-i-2-test.false c.loop-i-2.invariant in
    record { polys = h.polys; are = h.are }
