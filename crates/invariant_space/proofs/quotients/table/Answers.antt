use Rattle.invariant_space.proofs.Common.{ap, length, length-set, arith, length-replicate, AreQuotients, keys_of}
use Rattle.poly_module.proofs.ConstantSteps.{mono_set}
use Rattle.matrix_group.proofs.ActionSteps.{key_variable}
use Rattle.invariant_space.proofs.Places.{at_more, length_more}
use Rattle.invariant_space.proofs.quotients.table.Goals as goal

pub quotients-requires-clause-wide : goal.quotients-requires-clause-wide
quotients-requires-clause-wide g c =
    let a = simp (length-set, length-replicate) at (ap length c.in_ok-mono.ensures.is) in
    let w = c.args.space.now.grading.weights.ok.0 in
    omega arith

pub loop-j-preserved : goal.loop-j-preserved
loop-j-preserved g c =
    let n = c.loop-j.invariant.count in
    let made = c.in_ok-push.ensures.items in
    record {
      count = length_more c.loop-j.table.items c.push.new.self.items c.loop-j.j c.in_ok-quotients.field-0 made n;
      each = at_more (λ j r. AreQuotients (keys_of c.args.above.now) (keys_of c.args.below.now) j r.items) c.loop-j.table.items c.push.new.self.items c.loop-j.j c.in_ok-quotients.field-0 made n c.loop-j.invariant.each
          (c.in_ok-quotients.ensures.quotients c.loop-j.j (key_variable c.in_ok-mono.mono _ c.loop-j.j c.in_ok-mono.ensures.is (mono_set _ c.loop-j.j c.loop-j-test.true)));
    }
