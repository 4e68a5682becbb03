use Rattle.std.proofs.Common.{◌≡◌, ◌∙◌, ℕ, length, replicate, slice_set, ap, arith}
use Rattle.finite_certificate.specs.MarkSpaces.{mark_space}
use Rattle.finite_certificate.proofs.PowerTests.{form_variables, form_room, power_exact}
use Rattle.finite_certificate.proofs.verification.is_power.Goals as goal

pub substitute-requires-clause-variables : goal.substitute-requires-clause-variables
substitute-requires-clause-variables g c = form_variables (mark_space g.F.Field.field c.args.space.now) _ c.args.power.now.form c.requires.count c.requires.power.poly.fits

pub substitute-requires-clause-room : goal.substitute-requires-clause-room
substitute-requires-clause-room g c = form_room (mark_space g.F.Field.field c.args.space.now) c.requires.positive c.args.power.now.form c.args.images.now c.requires.power.poly.fits c.requires.power.low c.requires.images

pub returns : goal.returns
returns g c =
    let S = mark_space g.F.Field.field c.args.space.now in
    let i = c.args.i in
    let e = c.args.power.now.exponent in
    let n = length c.args.space.now.grading.weights.items in
    let zeros : c.as_slice.result.now ≡ slice_set (replicate n 0) i e = c.as_slice.ensures.value ∙ ap (λ l. slice_set l i e) (c.in_ok-exponents.ensures.items_if_clones_equal (λ y h. h)) ∙ ap (λ (m : ℕ). slice_set (replicate m 0) i e) (omega arith) in
    record {
      exact = λ θ are. power_exact S c.args.space.now.order.vars c.args.i θ c.args.images.now c.args.power.now c.in_ok-value.value c.in_ok-wanted.wanted c.one.result _ c.are_equal.result are c.requires.count c.requires.power.poly
          (c.has_marks.ensures.exact.0 c.if-not-has_marks.false) c.in_ok-value.ensures.value c.in_ok-wanted.ensures.monomial c.one.ensures.is zeros c.requires.variable c.are_equal.ensures.exact;
    }
