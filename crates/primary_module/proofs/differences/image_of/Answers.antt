use Rattle.finite_certificate.specs.MarkSpaces.{mark_space}
use Rattle.primary_module.proofs.StandardImages.{monomial_room}
use Rattle.primary_module.proofs.differences.image_of.Goals as goal

pub act-requires-clause-low : goal.act-requires-clause-low
act-requires-clause-low g c = monomial_room (mark_space g.F.Field.field c.args.space.now) c.args.space.now.order.vars c.args.space.now.order.weights.items c.requires.space c.requires.positive c.args.mono.now c.requires.mono.wide c.requires.mono.low c.in_ok-polynomial.polynomial c.in_ok-polynomial.ensures.is
