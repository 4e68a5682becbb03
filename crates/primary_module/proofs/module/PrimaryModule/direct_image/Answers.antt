use Rattle.poly_module.specs.SpaceVectors.{vectors_of}
use Rattle.finite_certificate.specs.MarkSpaces.{mark_space}
use Rattle.primary_module.proofs.StandardImages.{image_low, image_reduced}
use Rattle.primary_module.proofs.module.PrimaryModule.direct_image.Goals as goal

pub coords-requires-clause-f : goal.coords-requires-clause-f
coords-requires-clause-f g c =
    image_low (mark_space g.F.Field.field c.args.space.now) c.args.space.now.order.vars c.args.space.now.order.weights.items c.requires.stands.is.space c.args.m.now c.requires.square
    c.args.mono.now c.requires.mono.wide c.requires.mono.low c.in_ok-image.image c.in_ok-image.ensures.image

pub returns : goal.returns
returns g c =
    let S = mark_space g.F.Field.field c.args.space.now in
    record {
      image = image_reduced S c.args.space.now.order.vars c.args.space.now.order.weights.items c.requires.stands.is.space c.args.m.now c.requires.square c.args.mono.now c.requires.mono.wide
          (vectors_of S (λ m. m) c.args.self.now.theta) c.in_ok-image.image c.in_ok-coordinates.coordinates c.in_ok-image.ensures.image
          c.in_ok-coordinates.ensures.fits c.in_ok-coordinates.ensures.coordinates c.in_ok-coordinates.ensures.homogeneous;
    }
