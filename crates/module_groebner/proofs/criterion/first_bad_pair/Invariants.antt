use Rattle.itertools.specs.Pool.{combination_left}
use Rattle.alg_core.specs.Spaces.{over}
use Rattle.module_groebner.proofs.PairSearch.{PairsLeft}
use Rattle.module_groebner.proofs.criterion.first_bad_pair.Given as goal

abbrev pub invariant-loop-pair : goal.invariant-loop-pair
invariant-loop-pair g l = record {
  can_next : (goal.iterator-loop-pair g).can_next l.pair-iterator;
  finite : (goal.iterator-loop-pair g).is_finite l.pair-iterator;
  pairs : PairsLeft (over g.F.Field.field g.O.TermOrder.order l.space) (λ m. m) l.list l.pair-iterator.combinations.pool.items (combination_left l.pair-iterator.combinations);
}
