use Rattle.std.proofs.Common.{Err, ap, arith}
use Rattle.poly_module.specs.SpaceVectors.{vectors_of}
use Rattle.finite_certificate.specs.MarkSpaces.{mark_space, degree_limit}
use Rattle.groebner_hom.proofs.NonzerodivisorSteps.{polys_weaken}
use Rattle.groebner_hom.proofs.RelationsAbove.{nothing_with_marks}
use Rattle.invring_app.proofs.commands.ring.over.lifts_of.Goals as goal

pub unreachable-requires : goal.unreachable-requires
unreachable-requires g c =
    let S = mark_space g.F.Field.field c.args.space.now in
    let found = c.requires.found in
    c.in-Err-Above.ensures.ideal_above c.in-Err-Above.field-0-0 found.regular (ap Err c.in-Err-Above.field-0-is)
    (nothing_with_marks S c.args.space.now.order.vars c.args.space.now.order.weights.items (vectors_of S (λ m. m) c.args.theta.now) found.space found.forms c.args.cap found.ideal)

pub returns-clause-lifts : goal.returns-clause-lifts
returns-clause-lifts g c =
    let S = mark_space g.F.Field.field c.args.space.now in
    let low = c.requires.found.low_cap in
    record {
      polynomials = polys_weaken S c.args.cap degree_limit c.in-Ok.lifts.items (omega arith) c.in-Ok.ensures.polynomials;
      lifts = c.in-Ok.ensures.lifts;
      unmarked = c.in-Ok.ensures.unmarked c.requires.found.regular;
    }

pub returns-clause-powers : goal.returns-clause-powers
returns-clause-powers g c = c.in-Ok.ensures.powers c.requires.found.ended
