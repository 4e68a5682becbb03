use Rattle.std.proofs.Common.{◌∙◌, ap₂}
use Rattle.std.specs.Prelude.{max}
use Rattle.invring_app.proofs.SummarySteps.{degree_more}
use Rattle.invring_app.proofs.commands.summary.degree.Goals as goal

pub loop-i-preserved : goal.loop-i-preserved
loop-i-preserved c = c.max-degree.ensures ∙ ap₂ max c.total.ensures.is c.loop-i.invariant ∙ degree_more c.terms-terms.result.now c.loop-i.i c.index-terms-i.result c.loop-i-test.true c.index-terms-i.is
