use Rattle.primary_search.proofs.Carries.{Carried}
use Rattle.primary_search.proofs.candidates.increment.Given as goal

abbrev pub invariant-loop-i : goal.invariant-loop-i
invariant-loop-i l = Carried l.size l.i l.fn.digits l.digits
