use Rattle.std.proofs.Common.{◌<◌, length, arith}
use Rattle.finite_certificate.specs.MarkSpaces.{mark_space}
use Rattle.primary_module.proofs.StandardPlaces.{low_place, wide_places, known_place}
use Rattle.primary_module.proofs.module.PrimaryModule.standard_image.Goals as goal

pub divisor_before-requires-clause-wide : goal.divisor_before-requires-clause-wide
divisor_before-requires-clause-wide g c = (
  c.args.space.now.order.vars,
  wide_places (mark_space g.F.Field.field c.args.space.now) c.args.space.now.order.vars c.args.space.now.order.weights.items c.args.self.now c.requires.stands c.monomials-monomials.result.now c.monomials-monomials.ensures.is,
)

pub direct_image-requires-clause-mono : goal.direct_image-requires-clause-mono
direct_image-requires-clause-mono g c =
    low_place (mark_space g.F.Field.field c.args.space.now) c.args.space.now.order.vars c.args.space.now.order.weights.items c.args.self.now c.requires.stands c.monomials-monomials.result.now c.args.place
    c.index-monomials-place.result c.monomials-monomials.ensures.is c.requires.within c.index-monomials-place.is

pub image_by_divisor-requires-clause-mono : goal.image_by_divisor-requires-clause-mono
image_by_divisor-requires-clause-mono g c =
    low_place (mark_space g.F.Field.field c.args.space.now) c.args.space.now.order.vars c.args.space.now.order.weights.items c.args.self.now c.requires.stands c.monomials-monomials.result.now c.args.place
    c.index-monomials-place.result c.monomials-monomials.ensures.is c.requires.within c.index-monomials-place.is

pub image_by_divisor-requires-clause-known : goal.image_by_divisor-requires-clause-known
image_by_divisor-requires-clause-known g c =
    let before : c.in-Some.j < c.args.place = c.in-Some.ensures.before in
    let within : c.args.place < length c.args.self.now.monomials = c.requires.within in
    let many = c.requires.many in
    known_place (mark_space g.F.Field.field c.args.space.now) c.args.space.now.order.vars c.args.space.now.order.weights.items c.args.self.now c.requires.stands c.args.m.now c.monomials-monomials.result.now
    c.args.images.now c.in-Some.j c.index-monomials-j.result c.index-images-j.result c.monomials-monomials.ensures.is (omega arith) (omega arith) c.index-monomials-j.is c.index-images-j.is
    (c.requires.images c.in-Some.j before)
