use Rattle.finvar_text.proofs.ScanSteps.{IsScanned}
use Rattle.finvar_text.proofs.scan.syntax_tree.Given as goal

abbrev pub invariant-loop-place : goal.invariant-loop-place
invariant-loop-place l = IsScanned l.text l.place l.scanner
