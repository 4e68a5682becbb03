use Rattle.std.proofs.Common.{◌≡◌, ◌≤◌, ◌+◌, ◌-◌, ◌*◌, drop}
use Rattle.alg_core.specs.DpOrder.{weighted_degree}
use Rattle.alg_core.proofs.exponents.weighted_degree.Given as goal

abbrev pub invariant-loop-i : goal.invariant-loop-i
invariant-loop-i g l = record {
  small : l.sum ≤ (l.i - l.from) * 18446744065119617025;
  sum : l.sum + weighted_degree (drop (l.i - l.from) l.weights) (drop l.i (g.M.Monomial.exps l.m)) ≡ weighted_degree l.weights (drop l.from (g.M.Monomial.exps l.m));
}
