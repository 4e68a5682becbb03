use Rattle.std.proofs.Common.{◌≡◌, ◌+◌, ◌<◌, length, get_or, slice_set, ◌∙◌, subst, suc, arith}
use Rattle.primary_search.proofs.Carries.{Carried, carried_length, carried_digits, set_digits, carried_more, carried_done, set_rest, carried_rest, carried_zeros, carried_all}
use Rattle.primary_search.proofs.candidates.increment.Goals as goal

pub overflow_add-digits : goal.overflow_add-digits
overflow_add-digits c =
    let same = carried_length c.args.size c.loop-i.i c.args.digits.now c.loop-i.digits c.loop-i.invariant in
    let below : c.loop-i.i < length c.loop-i.digits = let a = c.requires.within in let b = c.loop-i-test.true in omega arith in
    let low = carried_digits c.args.size c.loop-i.i c.args.digits.now c.loop-i.digits c.loop-i.invariant c.requires.digits c.loop-i.i 0 below in
    let fits = c.ranges.size.fits in
    omega arith

pub returns-then-digits-i-clause-digits : goal.returns-then-digits-i-clause-digits
returns-then-digits-i-clause-digits c =
    set_digits c.args.size c.loop-i.digits c.loop-i.i (get_or c.loop-i.digits c.loop-i.i 0 + 1) c.if-digits-i.true
    (carried_digits c.args.size c.loop-i.i c.args.digits.now c.loop-i.digits c.loop-i.invariant c.requires.digits)

pub returns-then-digits-i-clause-rest : goal.returns-then-digits-i-clause-rest
returns-then-digits-i-clause-rest c =
    set_rest c.args.size c.loop-i.i c.args.count (get_or c.loop-i.digits c.loop-i.i 0 + 1) c.loop-i.digits c.loop-i-test.true
    ∙ carried_rest c.args.size c.loop-i.i c.args.count c.args.digits.now c.loop-i.digits c.loop-i.invariant (let a = c.loop-i-test.true in omega arith)

pub returns-then-digits-i-clause-more : goal.returns-then-digits-i-clause-more
returns-then-digits-i-clause-more c e =
    let same = carried_length c.args.size c.loop-i.i c.args.digits.now c.loop-i.digits c.loop-i.invariant in
    let below : c.loop-i.i < length c.loop-i.digits = let a = c.requires.within in let b = c.loop-i-test.true in omega arith in
    carried_done c.args.size c.loop-i.i c.args.count c.args.digits.now c.loop-i.digits c.loop-i.invariant c.loop-i-test.true below

pub loop-i-preserved : goal.loop-i-preserved
loop-i-preserved c =
    let same = carried_length c.args.size c.loop-i.i c.args.digits.now c.loop-i.digits c.loop-i.invariant in
    let below : c.loop-i.i < length c.loop-i.digits = let a = c.requires.within in let b = c.loop-i-test.true in omega arith in
    let low = carried_digits c.args.size c.loop-i.i c.args.digits.now c.loop-i.digits c.loop-i.invariant c.requires.digits c.loop-i.i 0 below in
    let last : get_or c.loop-i.digits c.loop-i.i 0 + 1 ≡ c.args.size = let a = c.if-digits-i.false in omega arith in
    let next : suc c.loop-i.i ≡ c.loop-i.i + 1 = omega arith in
    subst (λ j. Carried c.args.size j c.args.digits.now (slice_set c.loop-i.digits c.loop-i.i 0)) next (carried_more c.args.size c.loop-i.i c.args.digits.now c.loop-i.digits c.loop-i.invariant below last)

pub returns-clause-digits : goal.returns-clause-digits
returns-clause-digits c = carried_digits c.args.size c.loop-i.i c.args.digits.now c.loop-i.digits c.loop-i.invariant c.requires.digits

pub returns-clause-rest : goal.returns-clause-rest
returns-clause-rest c = carried_rest c.args.size c.loop-i.i c.args.count c.args.digits.now c.loop-i.digits c.loop-i.invariant (let a = c.loop-i.auto.i-end in omega arith)

pub returns-clause-over : goal.returns-clause-over
returns-clause-over c e =
    let all : c.loop-i.i ≡ c.args.count = let a = c.loop-i.auto.i-end in let b = c.loop-i-test.false in omega arith in
    let done = subst (λ j. Carried c.args.size j c.args.digits.now c.loop-i.digits) all c.loop-i.invariant in
    (carried_zeros c.args.size c.args.count c.args.digits.now c.loop-i.digits done, carried_all c.args.size c.args.count c.args.digits.now c.loop-i.digits done)
