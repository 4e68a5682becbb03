use Rattle.std.proofs.Common.{◌≡◌, ◌++◌, map, take}
use Rattle.alg_core.specs.Spaces.{entries}
use Rattle.secondary_gens.proofs.redundance.push_copies.Given as goal

abbrev pub invariant-loop-i : goal.invariant-loop-i
invariant-loop-i g l = map (entries (λ m. m)) l.copies.items ≡ map (entries (λ m. m)) l.initial.copies.items ++ map (entries (λ m. m)) (take l.i l.polynomials)
