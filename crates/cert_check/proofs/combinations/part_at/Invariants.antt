use Rattle.std.proofs.Common.{◌≡◌, take}
use Rattle.alg_core.specs.Spaces.{entries}
use Rattle.cert_check.specs.CombinationParts.{at_position}
use Rattle.cert_check.proofs.combinations.part_at.Given as goal

abbrev pub invariant-loop-i : goal.invariant-loop-i
invariant-loop-i l = entries (λ m. m) l.found.items ≡ at_position l.j (entries (λ m. m) (take l.i l.terms))
