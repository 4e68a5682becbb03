use Rattle.cert_check.proofs.CheckedTerms.{NonePast}
use Rattle.cert_check.proofs.terms.first_past.Given as goal

abbrev pub invariant-loop-i : goal.invariant-loop-i
invariant-loop-i l = NonePast l.cert l.max_terms l.i
