use Rattle.poly_module.specs.SpaceVectors.{vector_of}
use Rattle.finite_certificate.specs.MarkSpaces.{mark_space}
use Rattle.primary_module.proofs.DifferenceSteps.{image_room, moved_keeps, moved_low, moved_difference}
use Rattle.primary_module.proofs.module.PrimaryModule.difference.Goals as goal

pub act-requires-clause-low : goal.act-requires-clause-low
act-requires-clause-low g c = image_room (mark_space g.F.Field.field c.args.space.now) _ _ c.args.self.now.theta c.args.self.now.lifts c.requires.stands.is c.args.u.now c.requires.u

pub coords-requires-clause-f : goal.coords-requires-clause-f
coords-requires-clause-f g c =
    moved_low (mark_space g.F.Field.field c.args.space.now) _ _ c.args.self.now.theta c.args.self.now.lifts c.requires.stands.is c.args.m.now c.requires.square c.args.u.now c.requires.u
    c.in_ok-image.image c.in_ok-moved.moved c.in_ok-image.ensures.image c.in_ok-moved.ensures.difference

pub returns-clause-difference : goal.returns-clause-difference
returns-clause-difference g c =
    let S = mark_space g.F.Field.field c.args.space.now in
    moved_difference S _ _ c.args.self.now.theta c.args.self.now.lifts c.requires.stands.is c.args.m.now c.requires.square c.args.u.now c.requires.u
    c.in_ok-image.image c.in_ok-moved.moved c.in_ok-image.ensures.image c.in_ok-moved.ensures.difference c.requires.invariant (vector_of S (λ m. m) c.in_ok-difference.difference) c.in_ok-difference.ensures.coordinates

pub returns-clause-homogeneous : goal.returns-clause-homogeneous
returns-clause-homogeneous g c = λ d h.
    c.in_ok-difference.ensures.homogeneous d
    (moved_keeps (mark_space g.F.Field.field c.args.space.now) _ _ c.args.self.now.theta c.args.self.now.lifts c.requires.stands.is c.args.m.now c.requires.square c.args.u.now c.requires.u
    c.in_ok-image.image c.in_ok-moved.moved c.in_ok-image.ensures.image c.in_ok-moved.ensures.difference d h)
