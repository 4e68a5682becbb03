use Rattle.std.proofs.Common.{sym, subst, arith}
use Rattle.finvar_text.specs.Scanners.{IsSyntaxFault}
use Rattle.finvar_text.specs.Trees.{script_of}
use Rattle.finvar_text.proofs.ScanSteps.{scanned_next, stop_fault, end_fault, end_tree}
use Rattle.finvar_text.proofs.scan.syntax_tree.Goals as goal

pub returns-in-Err-clause-fault : goal.returns-in-Err-clause-fault
returns-in-Err-clause-fault c = subst (IsSyntaxFault c.args.text.now) (sym c.fault_at.ensures.is) (stop_fault c.args.text.now c.loop-place.place c.loop-place.scanner c.in-Err.error c.loop-place-test.true c.loop-place.invariant c.in-Err.ensures.is)

pub loop-place-preserved : goal.loop-place-preserved
loop-place-preserved c = scanned_next c.args.text.now c.loop-place.place c.loop-place.scanner c.step.new.self c.loop-place-test.true c.loop-place.invariant c.in-Ok.ensures.is c.in-Ok.ensures.ordered

pub returns-in-Ok-finish-clause-tree : goal.returns-in-Ok-finish-clause-tree
returns-in-Ok-finish-clause-tree c = end_tree c.args.text.now c.loop-place.place c.loop-place.scanner c.loop-place.invariant (omega (arith, c.loop-place-test.false, c.loop-place.auto.place-end)) (script_of c.in-Ok-finish.script) c.in-Ok-finish.ensures.is

pub returns-in-Err-finish-clause-fault : goal.returns-in-Err-finish-clause-fault
returns-in-Err-finish-clause-fault c = subst (IsSyntaxFault c.args.text.now) (sym c.fault_at-in-Err-finish.ensures.is) (end_fault c.args.text.now c.loop-place.place c.loop-place.scanner c.loop-place.invariant (omega (arith, c.loop-place-test.false, c.loop-place.auto.place-end)) c.in-Err-finish.error c.in-Err-finish.ensures.is)
