use Rattle.alg_core.specs.Spaces.{entries}
use Rattle.module_groebner.proofs.PairLists.{Made}
use Rattle.module_groebner.proofs.completion.Completion.pairs_with.Given as goal

abbrev pub invariant-loop-i : goal.invariant-loop-i
invariant-loop-i g l = Made l.self (entries (λ m. m) l.vector) l.i l.pairs.items
