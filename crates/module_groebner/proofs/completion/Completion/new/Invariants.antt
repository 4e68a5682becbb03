use Rattle.std.proofs.Common.{◌≡◌, map, take}
use Rattle.alg_core.specs.Spaces.{entries}
use Rattle.module_groebner.proofs.completion.Completion.new.Given as goal

abbrev pub invariant-loop-i : goal.invariant-loop-i
invariant-loop-i g l = map (entries (λ m. m)) l.generators.items ≡ map (entries (λ m. m)) (take l.i l.gens)
