use Rattle.invring_app.specs.declared.commands.Command.TheVariants.{Show}
use Rattle.invring_app.specs.Answers.{IsFault}
use Rattle.invring_app.proofs.CheckSteps.{show_stopped, verdict_shown}
use Rattle.invring_app.proofs.FaultLaws.{handed-on}
use Rattle.invring_app.proofs.commands.show.show_answer.Goals as goal

pub returns-in_err-verdict-clause-fault : goal.returns-in_err-verdict-clause-fault
returns-in_err-verdict-clause-fault c =
    let l = c.args.limits.now in
    let e = c.in_err-verdict.field-0.0 in
    handed-on (IsFault Show l c.args.bytes.now) c.from_residual-in_err-verdict.result e c.from_residual-in_err-verdict.ensures.1
    (show_stopped l c.args.bytes.now _ c.in_ok-cert.ensures.certificate e c.in_err-verdict.ensures.fault)

pub returns-clause-answer : goal.returns-clause-answer
returns-clause-answer c =
    verdict_shown c.args.limits.now c.args.bytes.now _ c.in_ok-cert.ensures.certificate c.in_ok-verdict.verdict c.in_ok-text.text.items c.in_ok-verdict.ensures.verdict c.in_ok-text.ensures.text
