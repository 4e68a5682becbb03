use Rattle.invariant_space.proofs.Common.{◌+◌, ap, length, arith, over, IsPolyOf, all_monomials}
use Rattle.invariant_space.proofs.MonomialSums.{first_sum}
use Rattle.invariant_space.proofs.Places.{at_none, at_more, length_more}
use Rattle.invariant_space.proofs.monomials.first_sums.Goals as goal

pub loop-variable-init : goal.loop-variable-init
loop-variable-init g c =
    let S = over g.F.Field.field g.O.TermOrder.order c.args.space.now in
    let none = ap length c.new-sums.ensures.items in
    record {
      count = length_more c.new-sums.result.items c.push.new.self.items 0 c.in_ok-one.field-0 c.in_ok-push.ensures.items none;
      each = at_more (λ i p. IsPolyOf S (λ m. m) (all_monomials S.field 0 i) p) c.new-sums.result.items c.push.new.self.items 0 c.in_ok-one.field-0 c.in_ok-push.ensures.items none
          (at_none (λ i p. IsPolyOf S (λ m. m) (all_monomials S.field 0 i) p) c.new-sums.result.items c.new-sums.ensures.items) (first_sum S 0 c.in_ok-one.field-0 c.in_ok-one.ensures.one);
    }

pub loop-variable-preserved : goal.loop-variable-preserved
loop-variable-preserved g c =
    let S = over g.F.Field.field g.O.TermOrder.order c.args.space.now in
    let n = c.loop-variable.invariant.count in
    record {
      count = length_more c.loop-variable.sums.items c.push-in-loop-variable.new.self.items (c.loop-variable._variable + 1) c.in_ok-one-2.field-0 c.in_ok-push-2.ensures.items n;
      each = at_more (λ i p. IsPolyOf S (λ m. m) (all_monomials S.field 0 i) p) c.loop-variable.sums.items c.push-in-loop-variable.new.self.items (c.loop-variable._variable + 1) c.in_ok-one-2.field-0 c.in_ok-push-2.ensures.items n
          c.loop-variable.invariant.each (first_sum S (c.loop-variable._variable + 1) c.in_ok-one-2.field-0 c.in_ok-one-2.ensures.one);
    }

pub returns : goal.returns
returns g c =
    let n = c.loop-variable.invariant.count in
    let w = c.args.space.now.grading.weights.ok.0 in
    record { sums = record { count = omega (arith, c.loop-variable-test.false, c.loop-variable.auto._variable-end); each = c.loop-variable.invariant.each } }
