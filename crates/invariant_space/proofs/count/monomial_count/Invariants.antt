use Rattle.invariant_space.proofs.Common.{◌≤◌}
use Rattle.invariant_space.proofs.BinomialLaws.{Counted}
use Rattle.invariant_space.proofs.count.monomial_count.Given as goal

abbrev pub invariant-loop-i : goal.invariant-loop-i
invariant-loop-i l = record {
  below : l.i ≤ l.variables;
  counted : Counted l.degree l.i l.count;
}
