use Rattle.finvar_text.specs.Problems.{problem_in}
use Rattle.invring_app.specs.declared.commands.Command.TheVariants.{Order}
use Rattle.invring_app.specs.Answers.{IsFault}
use Rattle.invring_app.specs.Faults.{fault_of_group}
use Rattle.invring_app.specs.Inputs.{OfScript}
use Rattle.invring_app.proofs.FaultLaws.{handed-on, order-fault}
use Rattle.invring_app.proofs.commands.order.order_text.Goals as goal

pub returns-in_err-order-clause-fault : goal.returns-in_err-order-clause-fault
returns-in_err-order-clause-fault c =
    let e = c.in_err-order.field-0.0 in
    handed-on (IsFault Order c.args.limits.now c.args.bytes.now) c.from_residual-in_err-order.result (fault_of_group e) c.from_residual-in_err-order.ensures.1
    (order-fault c.args.limits.now c.args.bytes.now (problem_in c.in_ok-script.script) e c.in_ok-script.ensures.problem c.in_err-order.ensures.bound)

pub returns-clause-text : goal.returns-clause-text
returns-clause-text c =
    (OfScript (problem_in c.in_ok-script.script), c.in_ok-script.ensures.problem, (c.in_ok-order.order, c.in_ok-order.ensures.order, c.in_ok-order.ensures.within, c.in_ok-line.ensures.is))
