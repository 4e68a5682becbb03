use Rattle.std.proofs.Common.{◌-◌, ◌≤◌, length}
use Rattle.alg_core.specs.Spaces.{over, place, entries}
use Rattle.poly_module.proofs.SearchSteps.{Before, After}
use Rattle.poly_module.proofs.lookups.coefficient.Given as goal

abbrev pub invariant-loop-low : goal.invariant-loop-low
invariant-loop-low g l = record {
  order : l.low ≤ l.high;
  within : l.high ≤ length l.terms;
  before : Before (over g.F.Field.field g.O.TermOrder.order l.space) (place g.M.Monomial.exps l.at) (entries g.M.Monomial.exps l.terms) l.low;
  after : After (over g.F.Field.field g.O.TermOrder.order l.space) (place g.M.Monomial.exps l.at) (entries g.M.Monomial.exps l.terms) l.high;
}

abbrev pub decreases-loop-low : goal.decreases-loop-low
decreases-loop-low g l = l.high - l.low
