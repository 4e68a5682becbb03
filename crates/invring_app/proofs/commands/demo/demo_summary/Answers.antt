use Rattle.std.proofs.Common.{◌∙◌, []}
use Rattle.finvar_text.specs.Problems.{problem_in}
use Rattle.invring_app.specs.declared.commands.Command.TheVariants.{Demo}
use Rattle.invring_app.specs.Answers.{IsFault}
use Rattle.invring_app.specs.Faults.{fault_of_script}
use Rattle.invring_app.proofs.DemoEnds.{problem-is, ring-told, script-refused, summarized, too-long}
use Rattle.invring_app.proofs.FaultLaws.{handed-on}
use Rattle.invring_app.proofs.SummarySteps.{narrow}
use Rattle.invring_app.proofs.commands.demo.demo_summary.Goals as goal

pub returns-in_err-script-clause-fault : goal.returns-in_err-script-clause-fault
returns-in_err-script-clause-fault c =
    let k = c.args.pairs in
    let l = c.args.limits.now in
    let e = c.in_err-script.field-0.0 in
    let text = c.deref.ensures.value ∙ c.in_ok-bytes.ensures.text in
    handed-on (IsFault (Demo k) l []) c.from_residual-in_err-script.result (fault_of_script e) c.from_residual-in_err-script.ensures.1
    (script-refused k c.requires.some c.requires.few l _ e text c.in_err-script.ensures.fault)

pub returns-in_err-cert-clause-fault : goal.returns-in_err-cert-clause-fault
returns-in_err-cert-clause-fault c =
    let k = c.args.pairs in
    let l = c.args.limits.now in
    let e = c.in_err-cert.field-0.0 in
    let q = problem_in c.in_ok-script.script in
    let same = problem-is k c.requires.some c.requires.few _ q (c.deref.ensures.value ∙ c.in_ok-bytes.ensures.text) c.in_ok-script.ensures.problem in
    handed-on (IsFault (Demo k) l []) c.from_residual-in_err-cert.result e c.from_residual-in_err-cert.ensures.1 (ring-told k l q e same c.in_err-cert.ensures.fault)

pub returns-in_err-within-clause-fault : goal.returns-in_err-within-clause-fault
returns-in_err-within-clause-fault c =
    let k = c.args.pairs in
    let l = c.args.limits.now in
    let e = c.in_err-within.field-0.0 in
    let q = problem_in c.in_ok-script.script in
    let same = problem-is k c.requires.some c.requires.few _ q (c.deref.ensures.value ∙ c.in_ok-bytes.ensures.text) c.in_ok-script.ensures.problem in
    let made = c.in_ok-cert.ensures in
    handed-on (IsFault (Demo k) l []) c.from_residual-in_err-within.result e c.from_residual-in_err-within.ensures.1
    (too-long k l q _ same made.kept made.certificate e c.in_err-within.ensures.fault)

pub summary-requires : goal.summary-requires
summary-requires c =
    let few = narrow (problem_in c.in_ok-script.script) c.args.limits.now.tries _ c.in_ok-cert.ensures.certificate c.in_ok-script.ensures.sound.few in
    record { primaries = few.primaries; secondaries = few.secondaries; irreducibles = few.irreducibles }

pub returns-clause-text : goal.returns-clause-text
returns-clause-text c =
    let k = c.args.pairs in
    let l = c.args.limits.now in
    let q = problem_in c.in_ok-script.script in
    let same = problem-is k c.requires.some c.requires.few _ q (c.deref.ensures.value ∙ c.in_ok-bytes.ensures.text) c.in_ok-script.ensures.problem in
    let made = c.in_ok-cert.ensures in
    summarized k l q _ same made.kept made.certificate _ c.in_ok-within.ensures.short c.in_ok-text.ensures.text
