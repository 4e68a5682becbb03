use Rattle.std.proofs.Common.{◌≡◌, ◌≤◌, ◌+◌, ◌*◌, drop, take, replicate}
use Rattle.alg_core.specs.DpOrder.{weighted_degree}
use Rattle.alg_core.proofs.exponents.plain_degree.Given as goal

abbrev pub invariant-loop-i : goal.invariant-loop-i
invariant-loop-i g l = record {
  small : l.sum ≤ l.i * 4294967295;
  sum : l.sum + weighted_degree (drop l.i (replicate l.to 1)) (drop l.i (take l.to (g.M.Monomial.exps l.m))) ≡ weighted_degree (replicate l.to 1) (take l.to (g.M.Monomial.exps l.m));
}
