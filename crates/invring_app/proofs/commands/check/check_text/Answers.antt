use Rattle.invring_app.specs.declared.commands.Command.TheVariants.{Check}
use Rattle.invring_app.specs.Answers.{IsFault}
use Rattle.invring_app.proofs.CheckSteps.{check_stopped}
use Rattle.invring_app.proofs.FaultLaws.{handed-on}
use Rattle.invring_app.proofs.commands.check.check_text.Goals as goal

pub returns-in_err-verdict-clause-fault : goal.returns-in_err-verdict-clause-fault
returns-in_err-verdict-clause-fault c =
    let l = c.args.limits.now in
    let e = c.in_err-verdict.field-0.0 in
    handed-on (IsFault Check l c.args.cert.now) c.from_residual-in_err-verdict.result e c.from_residual-in_err-verdict.ensures.1
    (check_stopped l c.args.cert.now _ c.in_ok-cert.ensures.certificate e c.in_err-verdict.ensures.fault)
