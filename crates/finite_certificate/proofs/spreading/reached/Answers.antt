use Rattle.std.proofs.Common.{◌<◌, ◌≤◌, ℕ, subst}
use Rattle.finite_certificate.proofs.ReachedSteps.{none_at_first, not_reached, here_reached, none_reached}
use Rattle.finite_certificate.proofs.spreading.reached.Goals as goal

pub loop-i-init : goal.loop-i-init
loop-i-init g c = none_at_first c.args.powers.now c.args.mono.now

pub returns-then-exp-power : goal.returns-then-exp-power
returns-then-exp-power g c = record {
  first = here_reached c.args.powers.now c.args.mono.now c.loop-i.i c.index-powers-i.result c.loop-i-test.true c.index-powers-i.is (subst (λ (x : ℕ). c.index-powers-i.result.exponent ≤ x) c.exp.ensures.is c.if-exp-power.true) c.loop-i.invariant;
}

pub loop-i-preserved : goal.loop-i-preserved
loop-i-preserved g c =
    not_reached c.args.powers.now c.args.mono.now c.loop-i.i c.index-powers-i.result c.loop-i-test.true c.index-powers-i.is (subst (λ (x : ℕ). x < c.index-powers-i.result.exponent) c.exp.ensures.is c.if-exp-power.false) c.loop-i.invariant

pub returns : goal.returns
returns g c = record { first = none_reached c.args.powers.now c.args.mono.now c.loop-i.i c.loop-i-test.false c.loop-i.invariant }
