use Rattle.std.proofs.Common.{ℕ, ◌<◌}
use Rattle.alg_core.specs.Spaces.{over}
use Rattle.poly_module.specs.SpaceVectors.{vectors_of}
use Rattle.groebner_hom.specs.LeadPowers.{HasPowerLead}
use Rattle.primary_search.proofs.ended.powerless_variable.Given as goal

abbrev pub invariant-loop-i : goal.invariant-loop-i
invariant-loop-i g l = let S = over g.F.Field.field g.O.TermOrder.order l.space in (q : ℕ) → q < l.i → HasPowerLead S (vectors_of S (λ m. m) l.basis) q
