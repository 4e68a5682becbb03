use Rattle.std.proofs.Common.{take}
use Rattle.secondary_gens.specs.Lists.{Each}
use Rattle.irreducible_gens.specs.Words.{IsVectorOf}
use Rattle.irreducible_gens.proofs.printing.vectors.Given as goal

abbrev pub invariant-loop-i : goal.invariant-loop-i
invariant-loop-i g l = Each IsVectorOf (take l.i l.combinations) l.vectors.items
