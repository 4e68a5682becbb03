use Rattle.std.proofs.Common.{arith}
use Rattle.poly_module.specs.Marks.{relations}
use Rattle.poly_module.specs.SpaceVectors.{vectors_of}
use Rattle.finite_certificate.specs.Ideals.{InIdeal}
use Rattle.finite_certificate.specs.MarkSpaces.{mark_space, degree_limit}
use Rattle.finite_certificate.proofs.LowImages.{marked_length, marked_polynomials}
use Rattle.groebner_hom.proofs.PolynomialLists.{are_vectors, are_homogeneous, members_nonzero}
use Rattle.groebner_hom.proofs.PowerSteps.{power_low, form_poly, form_degree, found_least, found_power, none_smaller, low_enough}
use Rattle.groebner_hom.proofs.SecondParts.{not_true}
use Rattle.groebner_hom.proofs.least_powers.least_power.Goals as goal

pub loop-power-init : goal.loop-power-init
loop-power-init g c = record { smaller = λ d h. absurd (omega arith); low = omega arith }

pub variable_power-requires-clause-polynomials : goal.variable_power-requires-clause-polynomials
variable_power-requires-clause-polynomials g c = marked_polynomials (mark_space g.F.Field.field c.args.space.now) _ _ c.requires.space

pub variable_power-requires-clause-within : goal.variable_power-requires-clause-within
variable_power-requires-clause-within g c =
    let wide = marked_length (mark_space g.F.Field.field c.args.space.now) _ _ c.requires.space in
    let within = c.requires.within in
    omega arith

pub divide-requires-clause-degree : goal.divide-requires-clause-degree
divide-requires-clause-degree g c =
    let few = c.requires.few in
    let low = c.loop-power.invariant.low in
    power_low (mark_space g.F.Field.field c.args.space.now) _ _ c.requires.space c.args.i c.loop-power.exponent c.requires.within c.in_ok-power.power c.in_ok-power.ensures.power (omega arith)

pub divide-requires-clause-list : goal.divide-requires-clause-list
divide-requires-clause-list g c = are_vectors (mark_space g.F.Field.field c.args.space.now) degree_limit c.args.lifts.now c.requires.lifts.polynomials

pub divide-requires-clause-homogeneous : goal.divide-requires-clause-homogeneous
divide-requires-clause-homogeneous g c = are_homogeneous (mark_space g.F.Field.field c.args.space.now) degree_limit c.args.lifts.now c.requires.lifts.polynomials

pub divide-requires-clause-nonzero : goal.divide-requires-clause-nonzero
divide-requires-clause-nonzero g c =
    let S = mark_space g.F.Field.field c.args.space.now in
    members_nonzero S (InIdeal S.field (relations S.field c.args.space.now.order.vars (vectors_of S (λ m. m) c.args._theta.now))) (vectors_of S (λ m. m) c.args.lifts.now) c.requires.lifts.lifts

pub has_marks-requires : goal.has_marks-requires
has_marks-requires g c =
    let S = mark_space g.F.Field.field c.args.space.now in
    record {
      form = form_poly S _ _ c.requires.space (vectors_of S (λ m. m) c.args._theta.now) c.requires.forms c.args.lifts.now c.requires.lifts c.args.i c.loop-power.exponent c.requires.within
          c.in_ok-power.power c.in_ok-power.ensures.power c.in_ok-form.form c.in_ok-form.ensures.fits c.in_ok-form.ensures.remainder;
    }

pub returns-then-has_marks-clause-fit : goal.returns-then-has_marks-clause-fit
returns-then-has_marks-clause-fit g c =
    let S = mark_space g.F.Field.field c.args.space.now in
    let poly = form_poly S _ _ c.requires.space (vectors_of S (λ m. m) c.args._theta.now) c.requires.forms c.args.lifts.now c.requires.lifts c.args.i c.loop-power.exponent c.requires.within
    c.in_ok-power.power c.in_ok-power.ensures.power c.in_ok-form.form c.in_ok-form.ensures.fits c.in_ok-form.ensures.remainder in (
      poly,
      form_degree S _ _ c.requires.space (vectors_of S (λ m. m) c.args._theta.now) c.requires.forms c.args.lifts.now c.requires.lifts c.args.i c.loop-power.exponent c.requires.within
          c.in_ok-power.power c.in_ok-power.ensures.power c.in_ok-form.form c.in_ok-form.ensures.fits c.in_ok-form.ensures.remainder c.in_ok-form.ensures.degrees,
    )

pub returns-then-has_marks-clause-least : goal.returns-then-has_marks-clause-least
returns-then-has_marks-clause-least g c =
    let S = mark_space g.F.Field.field c.args.space.now in
    found_least S _ _ c.requires.space (vectors_of S (λ m. m) c.args._theta.now) c.requires.forms c.args.lifts.now c.requires.lifts c.args.i c.loop-power.exponent c.requires.within
    c.in_ok-power.power c.in_ok-power.ensures.power c.in_ok-form.form c.in_ok-form.ensures.fits c.in_ok-form.ensures.remainder c.loop-power.invariant.smaller (c.has_marks.ensures.exact.0 c.if-has_marks.true)

pub returns-then-has_marks-clause-power : goal.returns-then-has_marks-clause-power
returns-then-has_marks-clause-power g c =
    let S = mark_space g.F.Field.field c.args.space.now in
    found_power S _ _ c.requires.space (vectors_of S (λ m. m) c.args._theta.now) c.requires.forms c.args.lifts.now c.requires.lifts c.args.i c.loop-power.exponent c.requires.within
    c.in_ok-power.power c.in_ok-power.ensures.power c.in_ok-form.form c.in_ok-form.ensures.fits c.in_ok-form.ensures.remainder (c.has_marks.ensures.exact.0 c.if-has_marks.true)

pub overflow_add-exponent : goal.overflow_add-exponent
overflow_add-exponent g c =
    let few = c.requires.few in
    let low = c.loop-power.invariant.low in
    omega arith

pub loop-power-smaller : goal.loop-power-smaller
loop-power-smaller g c =
    let few = c.requires.few in
    let low = c.loop-power.invariant.low in
    omega arith

pub loop-power-preserved : goal.loop-power-preserved
loop-power-preserved g c =
    let S = mark_space g.F.Field.field c.args.space.now in
    let bound = low_enough S _ _ c.requires.space (vectors_of S (λ m. m) c.args._theta.now) c.requires.forms c.args.lifts.now c.requires.lifts c.args.i c.loop-power.exponent c.requires.within
    c.in_ok-power.power c.in_ok-power.ensures.power c.in_ok-form.form c.in_ok-form.ensures.fits c.in_ok-form.ensures.remainder c.in_ok-form.ensures.degrees c.requires.ended
    (λ marks. not_true c.has_marks.result c.if-has_marks.false (c.has_marks.ensures.exact.1 marks)) in
    record {
      smaller = none_smaller S _ _ c.requires.space (vectors_of S (λ m. m) c.args._theta.now) c.requires.forms c.args.lifts.now c.requires.lifts c.args.i c.loop-power.exponent c.requires.within
          c.in_ok-power.power c.in_ok-power.ensures.power c.in_ok-form.form c.in_ok-form.ensures.fits c.in_ok-form.ensures.remainder c.loop-power.invariant.smaller
          (λ marks. not_true c.has_marks.result c.if-has_marks.false (c.has_marks.ensures.exact.1 marks));
      low = omega arith;
    }
