use Rattle.std.proofs.Common.{◌≡◌, ◌∙◌, [], length, get_or, sym, ap, subst, arith}
use Rattle.poly_module.specs.SpaceVectors.{vectors_of}
use Rattle.finite_certificate.specs.MarkSpaces.{mark_space}
use Rattle.primary_module.specs.PrimaryModules.{IsStandardImage}
use Rattle.primary_module.proofs.StandardPlaces.{first_none, first_more}
use Rattle.primary_module.proofs.module.PrimaryModule.standard_images.Goals as goal

pub loop-i-init : goal.loop-i-init
loop-i-init g c = let S = mark_space g.F.Field.field c.args.space.now in
    first_none (IsStandardImage S c.args.space.now.order.vars (vectors_of S (λ m. m) c.args.self.now.theta) c.args.m.now) c.args.self.now.monomials [] [] c.new-images.result.items c.new-images.ensures.items

pub standard_image-requires-clause-many : goal.standard_image-requires-clause-many
standard_image-requires-clause-many g c = let e = ap length c.as_slice.ensures.value in let h = c.loop-i.invariant.count in omega arith

pub standard_image-requires-clause-images : goal.standard_image-requires-clause-images
standard_image-requires-clause-images g c = let S = mark_space g.F.Field.field c.args.space.now in
    λ j h. subst (λ l. IsStandardImage S c.args.space.now.order.vars (vectors_of S (λ m. m) c.args.self.now.theta) c.args.m.now (get_or c.args.self.now.monomials j []) (get_or l j [])) (sym c.as_slice.ensures.value) (c.loop-i.invariant.each j h)

pub loop-i-preserved : goal.loop-i-preserved
loop-i-preserved g c = let S = mark_space g.F.Field.field c.args.space.now in
    first_more (IsStandardImage S c.args.space.now.order.vars (vectors_of S (λ m. m) c.args.self.now.theta) c.args.m.now) c.args.self.now.monomials [] [] c.loop-i.images.items c.push.new.self.items c.in_ok-image.image c.loop-i.i
    c.in_ok-push.ensures.items c.loop-i.invariant c.in_ok-image.ensures.image

pub returns : goal.returns
returns g c =
    let past = c.loop-i-test.false in
    let end = c.loop-i.auto.i-end in
    let all : length c.monomials-i-end.result.now ≡ length c.args.self.now.monomials = ap length c.monomials-i-end.ensures.is in
    let count = c.loop-i.invariant.count in
    let whole : c.loop-i.i ≡ length c.args.self.now.monomials = omega arith in
    record { images = record { count = count ∙ whole; each = λ j h. c.loop-i.invariant.each j (omega arith) } }
