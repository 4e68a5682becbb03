use Rattle.std.proofs.Common.{◌<◌, ◌≤◌, ℕ, ◌∙◌, sym, subst, arith}
use Rattle.primary_module.proofs.MonomialSteps.{zero_step, zero_fails, zero_past}
use Rattle.primary_module.proofs.standard.is_up_to.Goals as goal

pub returns-then-exp-gt0 : goal.returns-then-exp-gt0
returns-then-exp-gt0 c = record {
  is = sym (zero_fails c.args.mono.now c.loop-i.i (omega arith) (subst (λ (x : ℕ). 0 < x) c.exp.ensures.is c.if-exp-gt0.true)) ∙ c.loop-i.invariant;
}

pub loop-i-preserved : goal.loop-i-preserved
loop-i-preserved c = zero_step c.args.mono.now c.loop-i.i (omega arith) (subst (λ (x : ℕ). x ≤ 0) c.exp.ensures.is c.if-exp-gt0.false) ∙ c.loop-i.invariant

pub returns : goal.returns
returns c = record { is = sym (zero_past c.args.mono.now c.loop-i.i (omega arith)) ∙ c.loop-i.invariant }
