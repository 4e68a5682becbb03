use Rattle.std.proofs.Common.{◌≡◌, ◌∙◌, ℕ, Bool, true, length, replicate, slice_set, ap, arith}
use Rattle.std.specs.Prelude.{IsTrue}
use Rattle.alg_core.specs.ExponentLists.{quotient, divides}
use Rattle.finite_certificate.proofs.ReachedSteps.{quotient_without, power_divides}
use Rattle.finite_certificate.proofs.spreading.lowered.Goals as goal

test : (b : Bool) → b ≡ true → IsTrue b
test b h = grind arith

pub quotient-requires-clause-divides : goal.quotient-requires-clause-divides
quotient-requires-clause-divides c =
    let a = c.args.mono.now in
    let i = c.args.i in
    let e = c.args.exponent in
    let zeros : c.as_slice.result.now ≡ slice_set (replicate (length a) 0) i e =
    c.as_slice.ensures.value ∙ ap (λ l. slice_set l i e) (c.in_ok-exponents.ensures.items_if_clones_equal (λ y h. h)) ∙ ap (λ (m : ℕ). slice_set (replicate m 0) i e) (omega arith) in
    test (divides c.in_ok-power.power a) (ap (λ l. divides l a) (c.in_ok-power.ensures.is ∙ zeros) ∙ power_divides a (length a) i e (omega arith) c.requires.within c.requires.high)

pub returns : goal.returns
returns c =
    let a = c.args.mono.now in
    let i = c.args.i in
    let e = c.args.exponent in
    let zeros : c.as_slice.result.now ≡ slice_set (replicate (length a) 0) i e =
    c.as_slice.ensures.value ∙ ap (λ l. slice_set l i e) (c.in_ok-exponents.ensures.items_if_clones_equal (λ y h. h)) ∙ ap (λ (m : ℕ). slice_set (replicate m 0) i e) (omega arith) in
    record { is = c.in_ok-lowered.ensures.ok ∙ ap (quotient a) (c.in_ok-power.ensures.is ∙ zeros) ∙ quotient_without a (length a) i e (omega arith) }
