use Rattle.finvar_text.specs.Problems.{problem_in}
use Rattle.invring_app.specs.declared.commands.Command.TheVariants.{Ring}
use Rattle.invring_app.specs.Answers.{IsFault}
use Rattle.invring_app.specs.Inputs.{OfScript}
use Rattle.invring_app.proofs.FaultLaws.{handed-on}
use Rattle.invring_app.proofs.RingCertificates.{ring-certified}
use Rattle.invring_app.proofs.RingSteps.{ring_fault, text_told}
use Rattle.invring_app.proofs.commands.ring.ring_text.Goals as goal

pub returns-in_err-cert-clause-fault : goal.returns-in_err-cert-clause-fault
returns-in_err-cert-clause-fault c =
    let l = c.args.limits.now in
    let e = c.in_err-cert.field-0.0 in
    handed-on (IsFault Ring l c.args.script.now) c.from_residual-in_err-cert.result e c.from_residual-in_err-cert.ensures.1
    (ring_fault (problem_in c.in_ok-script.script) l c.args.script.now e c.in_ok-script.ensures.problem c.in_err-cert.ensures.fault)

pub returns-in_err-text-clause-fault : goal.returns-in_err-text-clause-fault
returns-in_err-text-clause-fault c =
    let l = c.args.limits.now in
    let e = c.in_err-text.field-0.0 in
    let made = c.in_ok-cert.ensures in
    handed-on (IsFault Ring l c.args.script.now) c.from_residual-in_err-text.result e c.from_residual-in_err-text.ensures.1
    (text_told (problem_in c.in_ok-script.script) l c.args.script.now _ e c.in_ok-script.ensures.problem made.kept made.certificate c.in_err-text.ensures.fault)

pub returns-clause-certified : goal.returns-clause-certified
returns-clause-certified c =
    let l = c.args.limits.now in
    let q = problem_in c.in_ok-script.script in
    let made = c.in_ok-cert.ensures in
    let text = c.in_ok-text.ensures in
    let is = c.in_ok-script.ensures.problem in
    (q, is, ring-certified c.args.script.now q l _ is (record { kept = made.kept; certificate = _; of_problem = made.certificate; short = text.short; is_text = text.text }))

pub returns-clause-text : goal.returns-clause-text
returns-clause-text c =
    let made = c.in_ok-cert.ensures in
    let text = c.in_ok-text.ensures in
    (OfScript (problem_in c.in_ok-script.script), c.in_ok-script.ensures.problem, record { kept = made.kept; certificate = _; of_problem = made.certificate; short = text.short; is_text = text.text })
