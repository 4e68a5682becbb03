use Rattle.invring_app.proofs.CheckSteps.{verdict_answered}
use Rattle.invring_app.proofs.commands.check.check_answer.Goals as goal

pub returns-clause-answer : goal.returns-clause-answer
returns-clause-answer c =
    verdict_answered c.args.limits.now c.args.bytes.now c.in_ok-verdict.verdict c.in_ok-text.text.items c.in_ok-verdict.ensures.verdict c.in_ok-text.ensures.is
