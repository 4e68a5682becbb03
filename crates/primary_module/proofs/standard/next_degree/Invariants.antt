use Rattle.std.proofs.Common.{◌≡◌, ◌++◌, ◌-◌}
use Rattle.primary_module.specs.UndividedMonomials.{multiples_below}
use Rattle.primary_module.proofs.standard.next_degree.Given as goal

abbrev pub invariant-loop-i : goal.invariant-loop-i
invariant-loop-i l = l.list.items ++ multiples_below l.leads l.n (l.n - l.i) l.monomials ≡ multiples_below l.leads l.n l.n l.monomials
