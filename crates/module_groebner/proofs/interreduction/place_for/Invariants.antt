use Rattle.std.proofs.Common.{◌≡◌, ◌<◌, ℕ}
use Rattle.std.specs.declared.cmp.Ordering.TheVariants.{Less}
use Rattle.alg_core.specs.Keys.{Key}
use Rattle.alg_core.specs.Spaces.{over}
use Rattle.alg_core.specs.SpaceOrder.{key_order}
use Rattle.poly_module.specs.Modules.{LeadBy, listed}
use Rattle.poly_module.specs.SpaceVectors.{vector_of, vectors_of}
use Rattle.module_groebner.proofs.interreduction.place_for.Given as goal

abbrev pub invariant-loop-i : goal.invariant-loop-i
invariant-loop-i g l =
    let S = over g.F.Field.field g.O.TermOrder.order l.space in
    (j : ℕ) (s t : Key) → j < l.i → LeadBy S.field (key_order S) (listed S.field (vectors_of S (λ m. m) l.list) j) s → LeadBy S.field (key_order S) (vector_of S (λ m. m) l.v) t → (key_order S).compare t s ≡ Less
