use Rattle.std.proofs.Common.{◌≡◌, ◌∙◌, ℕ, length, replicate, slice_set, sym, ap, arith}
use Rattle.alg_core.specs.Monomials.{mono}
use Rattle.alg_core.specs.Spaces.{over}
use Rattle.poly_module.specs.Polynomials.{single_vector}
use Rattle.poly_module.specs.SpaceVectors.{IsPolyOf}
use Rattle.poly_module.proofs.PowerSteps.{scale_one}
use Rattle.finite_certificate.proofs.VariablePowers.{power_exponents}
use Rattle.groebner_hom.proofs.exponents.variable_power.Goals as goal

pub returns : goal.returns
returns g c =
    let S = over g.F.Field.field g.O.TermOrder.order c.args.space.now in
    let i = c.args.i in
    let e = c.args.exponent in
    let n = length c.args.space.now.grading.weights.items in
    let zeros : c.as_slice.result.now ≡ slice_set (replicate n 0) i e = c.as_slice.ensures.value ∙ ap (λ l. slice_set l i e) (c.in_ok-exponents.ensures.items_if_clones_equal (λ y h. h)) ∙ ap (λ (m : ℕ). slice_set (replicate m 0) i e) (omega arith) in
    let is = c.in_ok-power.ensures.monomial in
    record {
      power = record {
        fits = is.fits;
        position = is.position;
        is = is.is ∙ scale_one S (λ m. m) c.one.result c.one.ensures.is _ ∙ ap (λ a. single_vector S.field (0, mono a)) zeros ∙ power_exponents S.field n i e c.requires.within;
      };
    }
