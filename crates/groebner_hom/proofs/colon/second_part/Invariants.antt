use Rattle.std.proofs.Common.{◌≡◌, map, take}
use Rattle.alg_core.specs.Spaces.{entries}
use Rattle.groebner_hom.proofs.SecondParts.{lowered}
use Rattle.groebner_hom.proofs.colon.second_part.Given as goal

abbrev pub invariant-loop-i : goal.invariant-loop-i
invariant-loop-i g l = entries (λ m. m) l.terms.items ≡ map lowered (entries (λ m. m) (take l.i l.pairs))
