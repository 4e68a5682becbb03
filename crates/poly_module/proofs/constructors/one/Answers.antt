use Rattle.std.proofs.Common.{◌≡◌, ℕ, List, length, ap, subst, ◌∙◌, arith}
use Rattle.alg_core.specs.Monomials.{mono}
use Rattle.alg_core.specs.Vectors.{scale}
use Rattle.alg_core.specs.Spaces.{over}
use Rattle.poly_module.specs.Polynomials.{single_vector}
use Rattle.poly_module.specs.SpaceVectors.{IsPolyOf}
use Rattle.poly_module.proofs.ConstantSteps.{length_zeros, one_given}
use Rattle.poly_module.proofs.constructors.one.Goals as goal

pub monomial-requires-clause-wide : goal.monomial-requires-clause-wide
monomial-requires-clause-wide g c =
    let made : length c.as_slice.result.now ≡ c.len.result = ap length (c.as_slice.ensures.value ∙ c.in_ok-exponents.ensures.items_if_clones_equal (λ y h. h)) ∙ length_zeros c.len.result in
    omega arith

pub returns : goal.returns
returns g c =
    let S = over g.F.Field.field g.O.TermOrder.order c.args.space.now in
    let zeros = c.as_slice.ensures.value ∙ c.in_ok-exponents.ensures.items_if_clones_equal (λ y h. h) in
    record { one = one_given S c.len.result c.one.result c.in_ok-one.one c.one.ensures.is (subst (λ (a : List ℕ). IsPolyOf S (λ (m : List ℕ). m) (scale S.field c.one.result (single_vector S.field (0, mono a))) c.in_ok-one.one) zeros c.in_ok-one.ensures.monomial) }
