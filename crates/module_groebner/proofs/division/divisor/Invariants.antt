use Rattle.std.proofs.Common.{◌<◌, ℕ}
use Rattle.alg_core.specs.Keys.{Key, key, KeyDivides}
use Rattle.alg_core.specs.Spaces.{over, place}
use Rattle.alg_core.specs.SpaceOrder.{key_order}
use Rattle.poly_module.specs.Modules.{LeadBy, listed}
use Rattle.poly_module.specs.SpaceVectors.{vectors_of}
use Rattle.module_groebner.proofs.division.divisor.Given as goal

abbrev pub invariant-loop-i : goal.invariant-loop-i
invariant-loop-i g l =
    let S = over g.F.Field.field g.O.TermOrder.order l.space in
    (j : ℕ) → j < l.i → (s : Key) → LeadBy S.field (key_order S) (listed S.field (vectors_of S (λ m. m) l.list) j) s → ¬ KeyDivides s (key (place (λ m. m) l.at))
