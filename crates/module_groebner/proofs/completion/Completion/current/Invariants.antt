use Rattle.std.proofs.Common.{length}
use Rattle.module_groebner.proofs.ItemSteps.{Best}
use Rattle.module_groebner.proofs.completion.Completion.current.Given as goal

abbrev pub invariant-generators : goal.invariant-generators
invariant-generators g l = Best l.self l.i 0 l.best

abbrev pub invariant-pairs : goal.invariant-pairs
invariant-pairs g l = Best l.self (length l.self.generators) l.i l.best
