use Rattle.std.proofs.Common.{◌<◌, ℕ}
use Rattle.alg_core.specs.Keys.{Key}
use Rattle.alg_core.specs.Lists.{In}
use Rattle.alg_core.specs.Spaces.{over}
use Rattle.alg_core.specs.SpaceOrder.{key_order}
use Rattle.alg_core.specs.Vectors.{Vect}
use Rattle.poly_module.specs.Modules.{LeadBy, listed}
use Rattle.poly_module.specs.ReducedLists.{LeadsFall}
use Rattle.poly_module.specs.SpaceVectors.{AreVectors, vectors_of}
use Rattle.module_groebner.specs.HomogeneousLists.{AreNonzero}
use Rattle.module_groebner.specs.Interreductions.{HasLeadIn}
use Rattle.module_groebner.proofs.interreduction.by_falling_lead.Given as goal

abbrev pub invariant-loop-i : goal.invariant-loop-i
invariant-loop-i g l =
    let S = over g.F.Field.field g.O.TermOrder.order l.space in
    let of = vectors_of S (λ m. m) in
    AreVectors S (λ m. m) l.falling.items × AreNonzero S.field (of l.falling.items) × LeadsFall S.field (key_order S) (of l.falling.items)
    × ((w : Vect S.field) → In w (of l.falling.items) → In w (of l.members))
    × ((j : ℕ) (s : Key) → j < l.i → LeadBy S.field (key_order S) (listed S.field (of l.members) j) s → HasLeadIn S (of l.falling.items) s)
