use Rattle.std.proofs.Common.{◌≡◌, ◌∙◌, length, refl, sym, ap, arith}
use Rattle.cert_check.proofs.SameFronts.{front_more, front_whole, front_differs}
use Rattle.cert_check.proofs.averages.are_same.Goals as goal

pub returns-then-len : goal.returns-then-len
returns-then-len c = record { exact = (λ e. absurd cc, λ e. absurd (c.if-len.true (c.len.ensures.is ∙ ap length e ∙ sym c.len-2.ensures.is))) }

pub loop-i-preserved : goal.loop-i-preserved
loop-i-preserved c =
    let low = c.loop-i-test.true in
    let end = c.len-i-end.ensures.is in
    let first = c.len.ensures.is in
    let second = c.len-2.ensures.is in
    let same = c.if-len.false in
    front_more c.args.a.now c.args.b.now c.loop-i.i c.exp.result c.exp-in-loop-i.result 0 0 (omega (arith, low, end)) (omega (arith, low, end, first, second, same))
    c.exp.ensures.is c.exp-in-loop-i.ensures.is c.if-exp.false c.loop-i.invariant

pub returns-then-exp : goal.returns-then-exp
returns-then-exp c =
    let low = c.loop-i-test.true in
    let end = c.len-i-end.ensures.is in
    record {
      exact = (
        λ e. absurd cc,
        λ e. absurd (front_differs c.args.a.now c.args.b.now c.loop-i.i c.exp.result c.exp-in-loop-i.result 0 0 (omega (arith, low, end)) c.exp.ensures.is c.exp-in-loop-i.ensures.is c.if-exp.true e),
      );
    }

pub returns : goal.returns
returns c =
    let past = c.loop-i-test.false in
    let end = c.len-i-end.ensures.is in
    let first = c.len.ensures.is in
    let second = c.len-2.ensures.is in
    let same = c.if-len.false in
    let lengths : length c.args.a.now ≡ length c.args.b.now = omega (arith, first, second, same) in
    record { exact = (λ _. front_whole c.args.a.now c.args.b.now c.loop-i.i lengths (omega (arith, past, end)) c.loop-i.invariant, λ _. refl) }
