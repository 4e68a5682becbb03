use Rattle.std.proofs.Common.{◌∙◌, sym}
use Rattle.primary_module.proofs.MonomialSteps.{undivided_step, undivided_fails, undivided_past}
use Rattle.primary_module.proofs.standard.is_undivided.Goals as goal

pub returns-then-divides : goal.returns-then-divides
returns-then-divides c = record {
  is = sym (undivided_fails c.args.leads.now c.loop-i.i c.index-leads-i.result c.args.mono.now c.loop-i-test.true c.index-leads-i.is (sym c.divides.ensures.is ∙ c.if-divides.true)) ∙ c.loop-i.invariant;
}

pub loop-i-preserved : goal.loop-i-preserved
loop-i-preserved c =
    undivided_step c.args.leads.now c.loop-i.i c.index-leads-i.result c.args.mono.now c.loop-i-test.true c.index-leads-i.is (sym c.divides.ensures.is ∙ c.if-divides.false) ∙ c.loop-i.invariant

pub returns : goal.returns
returns c = record { is = sym (undivided_past c.args.leads.now c.loop-i.i c.args.mono.now c.loop-i-test.false) ∙ c.loop-i.invariant }
