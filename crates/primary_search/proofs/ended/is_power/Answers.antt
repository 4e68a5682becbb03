use Rattle.std.proofs.Common.{false, refl, arith}
use Rattle.groebner_hom.proofs.SecondParts.{not_true}
use Rattle.primary_search.proofs.LeadPowerSteps.{exponent_read, power_more, power_all}
use Rattle.primary_search.proofs.ended.is_power.Goals as goal
use Rattle.primary_search.proofs.ended.is_power.Goals.{else-j-i-via-then-j-i+else-exp-gt0, else-j-i-via-else-j-i}

pub returns-then-exp-gt0 : goal.returns-then-exp-gt0
returns-then-exp-gt0 c = record {
  exact = (
    λ e. absurd (not_true false refl e),
    λ h.
        let z = h c.loop-j.j (λ e. let n = c.if-j-i.true in omega arith) in
        let r = exponent_read c.args.mono.now c.loop-j.j in
        let s = c.exp.ensures.is in
        let g = c.if-exp-gt0.true in
        absurd (omega arith),
  );
}

pub loop-j-preserved : goal.loop-j-preserved
loop-j-preserved c =
    power_more c.args.i c.loop-j.j c.args.mono.now c.loop-j.invariant (λ n.
    elim c.else-j-i.branch [
      | else-j-i-via-then-j-i+else-exp-gt0 w ↦ (let r = exponent_read c.args.mono.now c.loop-j.j in let s = w.exp.ensures.is in let g = w.if-exp-gt0.false in omega arith)
      | else-j-i-via-else-j-i w ↦ absurd (n (let e = w.if-j-i.false in omega arith))
    ])

pub returns : goal.returns
returns c = record { exact = (λ e. power_all c.args.i c.loop-j.j c.args.mono.now (let t = c.loop-j-test.false in let e = c.len-j-end.ensures.is in omega arith) c.loop-j.invariant, λ h. refl) }
