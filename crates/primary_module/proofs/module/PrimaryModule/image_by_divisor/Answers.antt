use Rattle.poly_module.specs.SpaceVectors.{vectors_of}
use Rattle.finite_certificate.specs.MarkSpaces.{mark_space}
use Rattle.primary_module.proofs.StandardImages.{rest_low, product_room, product_low, product_reduced}
use Rattle.primary_module.proofs.module.PrimaryModule.image_by_divisor.Goals as goal

pub image_of-requires-clause-mono : goal.image_of-requires-clause-mono
image_of-requires-clause-mono g c =
    rest_low (mark_space g.F.Field.field c.args.space.now) c.args.space.now.order.vars c.args.space.now.order.weights.items c.requires.stands.is.space c.args.m.now c.requires.square
    c.args.mono.now c.args.divisor.now c.in_ok-rest.rest c.requires.mono c.requires.divisor c.requires.divides c.in_ok-rest.ensures.ok

pub mul-requires-clause-room : goal.mul-requires-clause-room
mul-requires-clause-room g c =
    let S = mark_space g.F.Field.field c.args.space.now in
    product_room S c.args.space.now.order.vars c.args.space.now.order.weights.items c.requires.stands.is.space c.args.m.now c.requires.square
    c.args.mono.now c.args.divisor.now c.in_ok-rest.rest c.requires.mono c.requires.divisor c.requires.divides c.in_ok-rest.ensures.ok
    (vectors_of S (λ m. m) c.args.self.now.theta) c.in_ok-image.image c.args.known.now c.in_ok-image.ensures.image c.requires.known c.requires.stands.is.positive

pub coords-requires-clause-f : goal.coords-requires-clause-f
coords-requires-clause-f g c =
    let S = mark_space g.F.Field.field c.args.space.now in
    product_low S c.args.space.now.order.vars c.args.space.now.order.weights.items c.requires.stands.is.space c.args.m.now c.requires.square
    c.args.mono.now c.args.divisor.now c.in_ok-rest.rest c.requires.mono c.requires.divisor c.requires.divides c.in_ok-rest.ensures.ok
    (vectors_of S (λ m. m) c.args.self.now.theta) c.in_ok-image.image c.args.known.now c.in_ok-image.ensures.image c.requires.known
    c.in_ok-product.product c.in_ok-product.ensures.product

pub returns : goal.returns
returns g c =
    let S = mark_space g.F.Field.field c.args.space.now in
    record {
      image = product_reduced S c.args.space.now.order.vars c.args.space.now.order.weights.items c.requires.stands.is.space c.args.m.now c.requires.square
          c.args.mono.now c.args.divisor.now c.in_ok-rest.rest c.requires.mono c.requires.divisor c.requires.divides c.in_ok-rest.ensures.ok
          (vectors_of S (λ m. m) c.args.self.now.theta) c.in_ok-image.image c.args.known.now c.in_ok-image.ensures.image c.requires.known
          c.in_ok-product.product c.in_ok-product.ensures.product c.in_ok-coordinates.coordinates
          c.in_ok-coordinates.ensures.fits c.in_ok-coordinates.ensures.coordinates c.in_ok-coordinates.ensures.homogeneous;
    }
