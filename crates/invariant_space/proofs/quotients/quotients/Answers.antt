use Rattle.invariant_space.proofs.Common.{◌≡◌, ◌<◌, ◌∙◌, ap, get_or, length, sym, subst, arith, Key, over, entry_at, given_at, IsQuotient, keys_of}
use Rattle.invariant_space.proofs.Places.{at_more, length_more, length_keys, key_read}
use Rattle.invariant_space.proofs.QuotientLaws.{next_from}
use Rattle.invariant_space.proofs.quotients.quotients.Goals as goal

pub quotient_place-requires-clause-place : goal.quotient_place-requires-clause-place
quotient_place-requires-clause-place g c =
    let S = over g.F.Field.field g.O.TermOrder.order c.args.space.now in
    let same = c.terms-term-items.ensures.is in
    let many = ap length same in
    (entry_at S (λ m. m) c.args.above.now c.loop-term.term-index c.term-item.result (omega (arith, c.loop-term-test.true)) (c.term-item.is ∙ ap (λ l. get_or l c.loop-term.term-index c.term-item.result) same) c.requires.above.fits).place

pub quotient_place-requires-clause-position : goal.quotient_place-requires-clause-position
quotient_place-requires-clause-position g c =
    let S = over g.F.Field.field g.O.TermOrder.order c.args.space.now in
    let same = c.terms-term-items.ensures.is in
    let many = ap length same in
    given_at S (λ m. m) (λ e. e.0.0 ≡ 0) c.args.above.now c.loop-term.term-index c.term-item.result (omega (arith, c.loop-term-test.true)) (c.term-item.is ∙ ap (λ l. get_or l c.loop-term.term-index c.term-item.result) same) c.requires.above.position

pub quotient_place-requires-clause-same : goal.quotient_place-requires-clause-same
quotient_place-requires-clause-same g c =
    let S = over g.F.Field.field g.O.TermOrder.order c.args.space.now in
    let same = c.terms-term-items.ensures.is in
    let many = ap length same in
    (entry_at S (λ m. m) c.args.above.now c.loop-term.term-index c.term-item.result (omega (arith, c.loop-term-test.true)) (c.term-item.is ∙ ap (λ l. get_or l c.loop-term.term-index c.term-item.result) same) c.requires.above.fits).place.wide ∙ sym c.requires.wide

pub loop-term-preserved : goal.loop-term-preserved
loop-term-preserved g c =
    let n = c.loop-term.invariant.count in
    let made = c.in_ok-push.ensures.items in
    let i = c.loop-term.term-index in
    let same = c.terms-term-items.ensures.is in
    let many = ap length same in
    let inside : c.loop-term.term-index < length c.args.above.now = omega (arith, c.loop-term-test.true) in
    let read : c.term-item.result ≡ get_or c.args.above.now i c.term-item.result = c.term-item.is ∙ ap (λ l. get_or l i c.term-item.result) same in
    record {
      from = next_from c.in_ok-place.place c.loop-term.from (length c.args.below.now) c.unwrap_or-from.result c.unwrap_or-from.ensures c.in_ok-place.ensures.within c.loop-term.invariant.from;
      count = length_more c.loop-term.places.items c.push.new.self.items i c.in_ok-place.place made n;
      each = λ j is. at_more (λ s o. (t : Key) → get_or (keys_of c.args.above.now) s t ≡ t → IsQuotient (keys_of c.args.below.now) j t o) c.loop-term.places.items c.push.new.self.items i c.in_ok-place.place made n (c.loop-term.invariant.each j is)
          (λ t at. subst (λ x. IsQuotient (keys_of c.args.below.now) j x c.in_ok-place.place) (sym (key_read c.args.above.now i c.term-item.result t inside read) ∙ at) (c.in_ok-place.ensures.quotient j is));
    }

pub returns : goal.returns
returns g c =
    let n = c.loop-term.invariant.count in
    let many = ap length c.terms-term-items.ensures.is in
    let keys = length_keys c.args.above.now in
    record { quotients = λ j is. record { count = omega (arith, c.loop-term-test.false, c.loop-term.auto.term-index-end); each = c.loop-term.invariant.each j is } }
