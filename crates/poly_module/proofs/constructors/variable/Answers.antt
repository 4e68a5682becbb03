use Rattle.std.proofs.Common.{◌≡◌, ℕ, List, replicate, length, slice_set, ap, subst, ◌∙◌, arith}
use Rattle.std.proofs.lemmas.List.{length-set}
use Rattle.alg_core.specs.Monomials.{mono}
use Rattle.alg_core.specs.Vectors.{scale}
use Rattle.alg_core.specs.Spaces.{over}
use Rattle.poly_module.specs.Polynomials.{single_vector}
use Rattle.poly_module.specs.SpaceVectors.{IsPolyOf}
use Rattle.poly_module.proofs.ConstantSteps.{length_zeros, variable_given}
use Rattle.poly_module.proofs.constructors.variable.Goals as goal

pub monomial-requires-clause-wide : goal.monomial-requires-clause-wide
monomial-requires-clause-wide g c =
    let made : length c.as_slice.result.now ≡ c.len.result = ap length (c.as_slice.ensures.value ∙ ap (λ l. slice_set l c.args.i 1) (c.in_ok-exponents.ensures.items_if_clones_equal (λ y h. h))) ∙ length-set _ c.args.i 1 ∙ length_zeros c.len.result in
    omega arith

pub returns : goal.returns
returns g c =
    let S = over g.F.Field.field g.O.TermOrder.order c.args.space.now in
    let set : c.as_slice.result.now ≡ slice_set (replicate c.len.result 0) c.args.i 1 = c.as_slice.ensures.value ∙ ap (λ l. slice_set l c.args.i 1) (c.in_ok-exponents.ensures.items_if_clones_equal (λ y h. h)) in
    record { variable = variable_given S c.len.result c.args.i c.one.result c.in_ok-variable.variable (omega arith) c.one.ensures.is (subst (λ (a : List ℕ). IsPolyOf S (λ (m : List ℕ). m) (scale S.field c.one.result (single_vector S.field (0, mono a))) c.in_ok-variable.variable) set c.in_ok-variable.ensures.monomial) }
