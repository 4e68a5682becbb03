use Rattle.std.proofs.Common.{◌≡◌, map, take}
use Rattle.alg_core.specs.Spaces.{entries}
use Rattle.syzygy_kernel.proofs.PlacedTerms.{placed_entry}
use Rattle.syzygy_kernel.proofs.generators.part_vector.Given as goal

abbrev pub invariant-loop-i : goal.invariant-loop-i
invariant-loop-i g l = entries (λ m. m) l.terms.items ≡ map (placed_entry l.n l.monomials l.start) (entries (λ m. m) (take l.i l.given))
