use Rattle.std.proofs.Common.{◌∙◌, ◌*◌, ap, arith}
use Rattle.finvar_text.proofs.NumberSteps.{value_nil, value_more, value_all, number_within, step_over}
use Rattle.finvar_text.proofs.number.number_of.Goals as goal

pub loop-digit-init : goal.loop-digit-init
loop-digit-init c = record { is = value_nil; within = omega arith }

pub returns-in_err-checked_mul : goal.returns-in_err-checked_mul
returns-in_err-checked_mul c =
    let over = c.in_err-checked_mul.ensures in
    record { is = c.from_residual.ensures ∙ step_over c.args.digits.now _ c.loop-digit.number c.loop-digit-test.true c.loop-digit.invariant.is (omega (arith, over)) }

pub returns-in_err-number : goal.returns-in_err-number
returns-in_err-number c =
    let over = c.in_err-number.ensures in
    let tens = c.in_ok-checked_mul.ensures.1 in
    let one = c.from-one.ensures ∙ c.saturating_sub.ensures in
    record { is = c.from_residual-in_err-number.ensures ∙ step_over c.args.digits.now _ c.loop-digit.number c.loop-digit-test.true c.loop-digit.invariant.is (omega (arith, over, tens, one)) }

pub loop-digit-preserved : goal.loop-digit-preserved
loop-digit-preserved c =
    let tens = c.in_ok-checked_mul.ensures.1 in
    let one = c.from-one.ensures ∙ c.saturating_sub.ensures in
    let more = value_more c.args.digits.now c.loop-digit.digit-index c.loop-digit-test.true in
    let before = ap (λ n. n * 10) c.loop-digit.invariant.is in
    let here = c.in_ok-number.ensures in
    record { is = omega (arith, tens, one, more, before, here.1); within = omega (arith, here.0, here.1) }

pub returns : goal.returns
returns c = record { is = number_within c.args.digits.now _ (value_all c.args.digits.now _ _ c.loop-digit-test.false c.loop-digit.auto.digit-index-end c.loop-digit.invariant.is) c.loop-digit.invariant.within }
