use Rattle.finite_certificate.specs.MarkSpaces.{mark_space}
use Rattle.primary_module.proofs.ValueSteps.{images_wide, value_wide, value_room, value_made}
use Rattle.primary_module.proofs.module.PrimaryModule.value.Goals as goal

pub images-requires-clause-variables : goal.images-requires-clause-variables
images-requires-clause-variables g c =
    images_wide (mark_space g.F.Field.field c.args.space.now) c.args.space.now.order.vars c.args.space.now.order.weights.items c.args.self.now.theta c.args.self.now.lifts c.requires.stands.is
    c.theta.result.now c.theta.ensures.is

pub substitute-requires-clause-variables : goal.substitute-requires-clause-variables
substitute-requires-clause-variables g c =
    value_wide (mark_space g.F.Field.field c.args.space.now) c.args.space.now.order.vars c.args.space.now.order.weights.items c.args.self.now.theta c.args.self.now.lifts c.requires.stands.is
    c.in_ok-images.images.items c.theta.result.now (record { polys = c.in_ok-images.ensures.polys; are = c.in_ok-images.ensures.are }) c.theta.ensures.is
    c.as_slice.result.now c.as_slice.ensures.value c.args.u.now c.requires.u

pub substitute-requires-clause-room : goal.substitute-requires-clause-room
substitute-requires-clause-room g c =
    value_room (mark_space g.F.Field.field c.args.space.now) c.args.space.now.order.vars c.args.space.now.order.weights.items c.args.self.now.theta c.args.self.now.lifts c.requires.stands.is
    c.in_ok-images.images.items c.theta.result.now (record { polys = c.in_ok-images.ensures.polys; are = c.in_ok-images.ensures.are }) c.theta.ensures.is
    c.as_slice.result.now c.as_slice.ensures.value c.args.u.now c.requires.u

pub returns : goal.returns
returns g c =
    let made = value_made (mark_space g.F.Field.field c.args.space.now) c.args.space.now.order.vars c.args.space.now.order.weights.items c.args.self.now.theta c.args.self.now.lifts c.requires.stands.is
    c.in_ok-images.images.items c.theta.result.now (record { polys = c.in_ok-images.ensures.polys; are = c.in_ok-images.ensures.are }) c.theta.ensures.is
    c.as_slice.result.now c.as_slice.ensures.value c.args.u.now c.requires.u c.in_ok-value.value c.in_ok-value.ensures.value in
    record { fits = made.fits; variables = made.variables; value = made.value; homogeneous = made.homogeneous; degrees = made.degrees; back = made.back }
