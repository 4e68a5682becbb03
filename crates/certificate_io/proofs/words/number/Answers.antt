use Rattle.std.proofs.Common.{refl, get_or, rules, arith}
use Rattle.std.specs.Int.{IsInRange}
use Rattle.certificate_io.proofs.DigitSteps.{no_empty, no_zero, no_other, no_more, read_more, number_read}
use Rattle.certificate_io.proofs.words.number.Goals as goal

pub returns-then-is_empty : goal.returns-then-is_empty
returns-then-is_empty c = record { is = no_empty c.args.limit c.requires.limit c.args.text.now (search rules) }

pub returns-then-text-eq48 : goal.returns-then-text-eq48
returns-then-text-eq48 c = record { is = no_zero c.args.limit c.requires.limit c.args.text.now (search rules) }

pub returns-then-not-is_digit : goal.returns-then-not-is_digit
returns-then-not-is_digit c =
    let other : ¬ IsInRange 48 57 (get_or c.args.text.now c.loop-i.i 0) = search rules in
    record { is = no_other c.args.limit c.requires.limit c.args.text.now c.loop-i.i c.loop-i-test.true other }

pub returns-then-number-limit : goal.returns-then-number-limit
returns-then-number-limit c =
    record { is = no_more c.args.limit c.requires.limit c.args.text.now c.loop-i.i c.loop-i.number (get_or c.args.text.now c.loop-i.i 0) c.loop-i-test.true c.loop-i.invariant refl (omega (arith, c.if-number-limit.true, c.from.ensures)) }

pub loop-i-preserved : goal.loop-i-preserved
loop-i-preserved c =
    let range : IsInRange 48 57 (get_or c.args.text.now c.loop-i.i 0) = search rules in
    read_more c.args.limit c.args.text.now c.loop-i.i c.loop-i.number (get_or c.args.text.now c.loop-i.i 0) _ c.loop-i-test.true c.loop-i.invariant refl range (omega (arith, c.from.ensures)) (omega (arith, c.if-number-limit.false))

pub returns : goal.returns
returns c = record { is = number_read c.args.limit c.requires.limit c.args.text.now c.loop-i.i c.loop-i.number (omega (arith, c.loop-i-test.false)) (omega (arith, c.loop-i.auto.i-end)) c.loop-i.invariant (search rules) (search rules) }
