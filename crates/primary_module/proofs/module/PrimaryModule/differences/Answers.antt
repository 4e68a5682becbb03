use Rattle.std.proofs.Common.{◌≡◌, ◌∙◌, ◌<◌, [], length, arith}
use Rattle.poly_module.specs.SpaceVectors.{vectors_of}
use Rattle.finite_certificate.specs.MarkSpaces.{mark_space}
use Rattle.primary_module.specs.PrimaryModules.{IsStandardDifference}
use Rattle.primary_module.proofs.StandardPlaces.{first_none, first_more, less_place}
use Rattle.primary_module.proofs.module.PrimaryModule.differences.Goals as goal

pub loop-i-init : goal.loop-i-init
loop-i-init g c = let S = mark_space g.F.Field.field c.args.space.now in
    first_none (IsStandardDifference S c.args.space.now.order.vars (vectors_of S (λ m. m) c.args.self.now.theta) c.args.m.now) c.args.self.now.monomials [] [] c.new-differences.result.items c.new-differences.ensures.items

pub loop-i-preserved : goal.loop-i-preserved
loop-i-preserved g c =
    let S = mark_space g.F.Field.field c.args.space.now in
    let images = c.in_ok-images.ensures.images in
    let count = images.count in
    let test = c.loop-i-test.true in
    let low : c.loop-i.i < length c.in_ok-images.images.items = omega arith in
    let within : c.loop-i.i < length c.args.self.now.monomials = omega arith in
    first_more (IsStandardDifference S c.args.space.now.order.vars (vectors_of S (λ m. m) c.args.self.now.theta) c.args.m.now) c.args.self.now.monomials [] [] c.loop-i.differences.items c.push.new.self.items
    c.in_ok-difference.difference c.loop-i.i c.in_ok-push.ensures.items c.loop-i.invariant
    (less_place S c.args.space.now.order.vars c.args.space.now.order.weights.items c.args.self.now c.requires.stands c.args.m.now c.requires.square c.monomials.result.now c.in_ok-images.images.items
    c.loop-i.i c.index-monomials-i.result c.index.result.now c.in_ok-monomial.monomial c.in_ok-difference.difference c.monomials.ensures.is within low
    c.index-monomials-i.is c.index.ensures (images.each c.loop-i.i within) c.in_ok-monomial.ensures.is c.in_ok-difference.ensures.difference)

pub returns : goal.returns
returns g c =
    let images = c.in_ok-images.ensures.images in
    let past = c.loop-i-test.false in
    let end = c.loop-i.auto.i-end in
    let all = images.count in
    let count = c.loop-i.invariant.count in
    let whole : c.loop-i.i ≡ length c.args.self.now.monomials = omega arith in
    record { differences = record { count = count ∙ whole; each = λ j h. c.loop-i.invariant.each j (omega arith) } }
