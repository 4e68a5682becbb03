use Rattle.std.proofs.Common.{◌≤◌}
use Rattle.invariant_space.proofs.BinomialLaws.{Counted}
use Rattle.cert_check.proofs.terms.monomial_count.Given as goal

abbrev pub invariant-loop-i : goal.invariant-loop-i
invariant-loop-i l = record {
  below : l.i ≤ l.variables;
  counted : Counted l.degree l.i l.count;
}
