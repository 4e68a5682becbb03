use Rattle.finvar_text.specs.Problems.{problem_in}
use Rattle.invring_app.specs.declared.commands.Command.TheVariants.{Primary}
use Rattle.invring_app.specs.Answers.{IsFault}
use Rattle.invring_app.specs.Faults.{fault_of_group, fault_of_search}
use Rattle.invring_app.specs.Inputs.{OfScript}
use Rattle.invring_app.proofs.FaultLaws.{handed-on, group-fault, search-fault}
use Rattle.invring_app.proofs.commands.primary.primary_text.Goals as goal

pub returns-in_err-_order-clause-fault : goal.returns-in_err-_order-clause-fault
returns-in_err-_order-clause-fault c =
    let e = c.in_err-_order.field-0.0 in
    handed-on (IsFault Primary c.args.limits.now c.args.bytes.now) c.from_residual-in_err-_order.result (fault_of_group e) c.from_residual-in_err-_order.ensures.1
    (group-fault c.args.limits.now c.args.bytes.now (problem_in c.in_ok-script.script) e c.in_ok-script.ensures.problem c.in_err-_order.ensures.bound)

pub returns-in_err-text-clause-fault : goal.returns-in_err-text-clause-fault
returns-in_err-text-clause-fault c =
    let e = c.in_err-text.field-0.0 in
    handed-on (IsFault Primary c.args.limits.now c.args.bytes.now) c.from_residual-in_err-text.result (fault_of_search e) c.from_residual-in_err-text.ensures.1
    (search-fault c.args.limits.now c.args.bytes.now (problem_in c.in_ok-script.script) e c.in_ok-script.ensures.problem (c.in_ok-_order._order, c.in_ok-_order.ensures.order, c.in_ok-_order.ensures.within) c.in_err-text.ensures.bound)

pub returns-clause-text : goal.returns-clause-text
returns-clause-text c =
    (OfScript (problem_in c.in_ok-script.script), c.in_ok-script.ensures.problem, ((c.in_ok-_order._order, c.in_ok-_order.ensures.order, c.in_ok-_order.ensures.within), c.in_ok-text.ensures.text))
