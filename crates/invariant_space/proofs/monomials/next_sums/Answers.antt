use Rattle.invariant_space.proofs.Common.{◌≡◌, ◌+◌, ℕ, suc, length, ap, sym, subst, arith, over, IsPolyOf, all_monomials}
use Rattle.invariant_space.proofs.MonomialSums.{none_sum, sum_room, sum_more}
use Rattle.invariant_space.proofs.Places.{at_none, at_more, length_more}
use Rattle.invariant_space.proofs.monomials.next_sums.Goals as goal

pub loop-i-init : goal.loop-i-init
loop-i-init g c =
    let S = over g.F.Field.field g.O.TermOrder.order c.args.space.now in
    let none = ap length c.new-above.ensures.items in
    record {
      count = length_more c.new-above.result.items c.push.new.self.items 0 c.zero.result c.in_ok-push.ensures.items none;
      each = λ d sums. at_more (λ i p. IsPolyOf S (λ m. m) (all_monomials S.field (suc d) i) p) c.new-above.result.items c.push.new.self.items 0 c.zero.result c.in_ok-push.ensures.items none
          (at_none (λ i p. IsPolyOf S (λ m. m) (all_monomials S.field (suc d) i) p) c.new-above.result.items c.new-above.ensures.items) (none_sum S d c.zero.result c.zero.ensures.is);
    }

pub mul-requires-clause-room : goal.mul-requires-clause-room
mul-requires-clause-room g c =
    let S = over g.F.Field.field g.O.TermOrder.order c.args.space.now in
    let r = c.requires.sums in
    let n = r.2.count in
    let next : c.loop-i.i + 1 ≡ suc c.loop-i.i = omega arith in
    sum_room S r.0 c.loop-i.i c.in_ok-x.x c.index-sums-i.result r.1 (omega arith) c.in_ok-x.ensures.variable
    (subst (λ (i : ℕ). IsPolyOf S (λ m. m) (all_monomials S.field r.0 i) c.index-sums-i.result) next (r.2.each (c.loop-i.i + 1) c.index-sums-i.result (omega arith) c.index-sums-i.is))

pub add-requires-clause-right : goal.add-requires-clause-right
add-requires-clause-right g c =
    let r = c.requires.sums in
    let n = c.loop-i.invariant.count in
    (c.loop-i.invariant.each r.0 r.2 c.loop-i.i c.index.result.now (omega arith) c.index.ensures).fits

pub loop-i-preserved : goal.loop-i-preserved
loop-i-preserved g c =
    let S = over g.F.Field.field g.O.TermOrder.order c.args.space.now in
    let next : c.loop-i.i + 1 ≡ suc c.loop-i.i = omega arith in
    let n = c.loop-i.invariant.count in
    record {
      count = length_more c.loop-i.above.items c.push-in-loop-i.new.self.items (c.loop-i.i + 1) c.in_ok-sum.sum c.in_ok-push-2.ensures.items n;
      each = λ d sums.
          let m = sums.count in
          at_more (λ i p. IsPolyOf S (λ m. m) (all_monomials S.field (suc d) i) p) c.loop-i.above.items c.push-in-loop-i.new.self.items (c.loop-i.i + 1) c.in_ok-sum.sum c.in_ok-push-2.ensures.items n (c.loop-i.invariant.each d sums)
          (subst (λ (i : ℕ). IsPolyOf S (λ m. m) (all_monomials S.field (suc d) i) c.in_ok-sum.sum) (sym next)
          (sum_more S d c.loop-i.i c.in_ok-x.x c.index-sums-i.result c.in_ok-multiples.multiples c.index.result.now c.in_ok-sum.sum (omega arith) c.in_ok-x.ensures.variable
          (subst (λ (i : ℕ). IsPolyOf S (λ m. m) (all_monomials S.field d i) c.index-sums-i.result) next (sums.each (c.loop-i.i + 1) c.index-sums-i.result (omega arith) c.index-sums-i.is))
          c.in_ok-multiples.ensures.product (c.loop-i.invariant.each d sums c.loop-i.i c.index.result.now (omega arith) c.index.ensures) c.in_ok-sum.ensures.sum));
    }

pub returns : goal.returns
returns g c =
    let n = c.loop-i.invariant.count in
    let w = c.args.space.now.grading.weights.ok.0 in
    record { sums = λ d sums. record { count = omega (arith, c.loop-i-test.false, c.loop-i.auto.i-end); each = c.loop-i.invariant.each d sums } }
