use Rattle.finvar_text.specs.Problems.{problem_in}
use Rattle.invring_app.specs.declared.commands.Command.TheVariants.{Basis}
use Rattle.invring_app.specs.Answers.{IsFault}
use Rattle.invring_app.specs.Faults.{fault_of_space}
use Rattle.invring_app.specs.Inputs.{OfScript}
use Rattle.invring_app.proofs.FaultLaws.{handed-on, basis-fault}
use Rattle.invring_app.proofs.commands.basis.basis_text.Goals as goal

pub returns-in_err-text-clause-fault : goal.returns-in_err-text-clause-fault
returns-in_err-text-clause-fault c =
    let e = c.in_err-text.field-0.0 in
    handed-on (IsFault (Basis c.args.degree) c.args.limits.now c.args.bytes.now) c.from_residual-in_err-text.result (fault_of_space e) c.from_residual-in_err-text.ensures.1
    (basis-fault c.args.degree c.args.limits.now c.args.bytes.now (problem_in c.in_ok-script.script) e c.in_ok-script.ensures.problem c.in_err-text.ensures.bound)

pub returns-clause-text : goal.returns-clause-text
returns-clause-text c =
    (OfScript (problem_in c.in_ok-script.script), c.in_ok-script.ensures.problem, (c.in_ok-text.ensures.within, c.in_ok-text.ensures.basis))
