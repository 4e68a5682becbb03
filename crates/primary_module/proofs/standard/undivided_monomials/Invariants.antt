use Rattle.std.proofs.Common.{◌≤◌, ◌-◌, length}
use Rattle.primary_module.proofs.UndividedSearch.{IsSearch}
use Rattle.primary_module.proofs.standard.undivided_monomials.Given as goal

abbrev pub invariant-degrees : goal.invariant-degrees
invariant-degrees l = record {
  search : IsSearch l.leads l.n l.monomials.items l.found.items;
  within : length l.monomials.items ≤ l.max_rank;
}

abbrev pub decreases-degrees : goal.decreases-degrees
decreases-degrees l = l.max_rank - length l.monomials.items
