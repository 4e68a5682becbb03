use Rattle.std.proofs.Common.{◌+◌, arith}
use Rattle.primary_search.proofs.DigitSteps.{advanced_more, advanced_over, advanced_up}
use Rattle.primary_search.proofs.candidates.advance.Goals as goal

pub returns-then-increment-clause-digits : goal.returns-then-increment-clause-digits
returns-then-increment-clause-digits c =
    let e = c.increment.ensures in
    (advanced_more c.args.size c.requires.size c.args.last c.args.digits.now c.increment.new.digits c.requires.digits e.length e.digits e.rest (e.more c.if-increment.true)).digits

pub returns-then-increment-clause-some : goal.returns-then-increment-clause-some
returns-then-increment-clause-some c =
    let e = c.increment.ensures in
    (advanced_more c.args.size c.requires.size c.args.last c.args.digits.now c.increment.new.digits c.requires.digits e.length e.digits e.rest (e.more c.if-increment.true)).next

pub returns-then-next-digits-clause-none : goal.returns-then-next-digits-clause-none
returns-then-next-digits-clause-none c =
    let e = c.increment.ensures in
    let over = e.over c.if-increment.false in
    let same = e.length in
    advanced_over c.args.size c.requires.size c.args.last c.args.digits.now c.increment.new.digits c.requires.digits e.length e.rest over.0 over.1 (let p = c.if-next-digits.true in omega arith)

pub returns-clause-digits : goal.returns-clause-digits
returns-clause-digits c =
    let e = c.increment.ensures in
    let over = e.over c.if-increment.false in
    let same = e.length in
    (advanced_up c.args.size c.requires.size c.args.last c.args.digits.now c.increment.new.digits c.requires.digits e.length e.rest over.0 over.1 (c.args.last + 1) (omega arith) (let p = c.if-next-digits.false in omega arith)).digits

pub returns-clause-some : goal.returns-clause-some
returns-clause-some c =
    let e = c.increment.ensures in
    let over = e.over c.if-increment.false in
    let same = e.length in
    (advanced_up c.args.size c.requires.size c.args.last c.args.digits.now c.increment.new.digits c.requires.digits e.length e.rest over.0 over.1 (c.args.last + 1) (omega arith) (let p = c.if-next-digits.false in omega arith)).next
