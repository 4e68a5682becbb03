use Rattle.algebra_tests.proofs.TestedForms.{Rising}
use Rattle.algebra_tests.proofs.forms.do_not_fall.Given as goal

abbrev pub invariant-loop-i : goal.invariant-loop-i
invariant-loop-i l = Rising l.degrees l.i
