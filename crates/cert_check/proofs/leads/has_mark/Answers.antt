use Rattle.std.proofs.Common.{◌<◌, ◌≤◌, ℕ, refl, subst, ◌∙◌}
use Rattle.finite_certificate.proofs.MarkTests.{marked, unmarked, exponent_at, one_more, all_zero}
use Rattle.cert_check.proofs.leads.has_mark.Goals as goal

pub returns-then-exp-gt0 : goal.returns-then-exp-gt0
returns-then-exp-gt0 c = record {
  exact = (λ _. marked c.args.n c.loop-i.i c.args.mono.now c.loop-i.auto.i (subst (λ (x : ℕ). 0 < x) (c.exp.ensures.is ∙ exponent_at c.args.mono.now c.loop-i.i) c.if-exp-gt0.true), λ _. refl);
}

pub loop-i-preserved : goal.loop-i-preserved
loop-i-preserved c = one_more c.args.n c.loop-i.i c.args.mono.now (subst (λ (x : ℕ). x ≤ 0) c.exp.ensures.is c.if-exp-gt0.false) c.loop-i.invariant

pub returns : goal.returns
returns c = record {
  exact = (
    λ e. absurd cc,
    λ h. absurd (unmarked c.args.n c.args.mono.now (all_zero c.args.n c.loop-i.i c.args.mono.now (subst (λ (x : ℕ). x ≤ c.loop-i.i) c.len-i-end.ensures.is c.loop-i-test.false) c.loop-i.invariant) h),
  );
}
