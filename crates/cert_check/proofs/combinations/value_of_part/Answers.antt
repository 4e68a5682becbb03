use Rattle.std.proofs.Common.{length}
use Rattle.cert_check.proofs.CheckSpaces.{plain_of}
use Rattle.cert_check.proofs.CombinationSteps.{small_polys, part_variables, part_room, factor_poly, factor_room, part_value}
use Rattle.cert_check.proofs.combinations.value_of_part.Goals as goal

pub substitute-requires-clause-variables : goal.substitute-requires-clause-variables
substitute-requires-clause-variables c =
    part_variables (plain_of c.args.space.now) c.args.j (length c.args.theta.now) c.args.terms.now c.in_ok-part.part c.in_ok-part.ensures.is c.requires.terms.variables

pub substitute-requires-clause-images : goal.substitute-requires-clause-images
substitute-requires-clause-images c = small_polys (plain_of c.args.space.now) c.args.theta.now c.requires.theta

pub substitute-requires-clause-room : goal.substitute-requires-clause-room
substitute-requires-clause-room c =
    part_room (plain_of c.args.space.now) c.requires.positive c.args.theta.now c.args.j c.args.terms.now c.in_ok-part.part c.requires.theta c.in_ok-part.ensures.is c.requires.terms.low

pub mul-requires-clause-polynomial : goal.mul-requires-clause-polynomial
mul-requires-clause-polynomial c =
    factor_poly (plain_of c.args.space.now) c.requires.positive c.args.theta.now c.requires.theta c.args.j c.args.terms.now c.in_ok-part.part c.in_ok-factor.factor c.args.sec.now
    c.in_ok-part.ensures.is c.in_ok-factor.ensures.value c.requires.sec

pub mul-requires-clause-vector : goal.mul-requires-clause-vector
mul-requires-clause-vector c = c.requires.sec.poly.fits

pub mul-requires-clause-room : goal.mul-requires-clause-room
mul-requires-clause-room c =
    factor_room (plain_of c.args.space.now) c.requires.positive c.args.theta.now c.requires.theta c.args.j c.args.terms.now c.in_ok-part.part c.in_ok-factor.factor c.args.sec.now
    c.in_ok-part.ensures.is c.in_ok-factor.ensures.value c.requires.sec c.requires.terms.low

pub returns : goal.returns
returns c = record {
  value = part_value (plain_of c.args.space.now) c.requires.positive c.args.theta.now c.requires.theta c.args.j c.args.terms.now c.in_ok-part.part c.in_ok-factor.factor c.args.sec.now
      c.in_ok-part.ensures.is c.in_ok-factor.ensures.value c.requires.sec c.in_ok-value.value c.in_ok-value.ensures.product;
}
