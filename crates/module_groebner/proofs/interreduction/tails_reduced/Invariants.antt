use Rattle.std.proofs.Common.{◌<◌, ℕ, length}
use Rattle.alg_core.specs.Keys.{Key}
use Rattle.alg_core.specs.Lists.{In}
use Rattle.alg_core.specs.Spaces.{over}
use Rattle.alg_core.specs.SpaceOrder.{key_order}
use Rattle.alg_core.specs.Vectors.{Vect}
use Rattle.poly_module.specs.Modules.{LeadBy, listed}
use Rattle.poly_module.specs.ReducedLists.{LeadsFall}
use Rattle.poly_module.specs.SpaceVectors.{AreVectors, vectors_of}
use Rattle.module_groebner.specs.HomogeneousLists.{AreNonzero}
use Rattle.module_groebner.specs.Interreductions.{HasLeadIn, IsTailReduced}
use Rattle.module_groebner.proofs.interreduction.tails_reduced.Given as goal

abbrev pub invariant-loop-i : goal.invariant-loop-i
invariant-loop-i g l =
    let S = over g.F.Field.field g.O.TermOrder.order l.space in
    let of = vectors_of S (λ m. m) in
    AreVectors S (λ m. m) l.made.items × AreNonzero S.field (of l.made.items) × LeadsFall S.field (key_order S) (of l.made.items)
    × ((n : Vect S.field) → In n (of l.made.items) → (j : ℕ) × (j < length l.members) × IsTailReduced S (listed S.field (of l.members)) (listed S.field (of l.members) j) n)
    × ((j : ℕ) (s : Key) → j < l.i → LeadBy S.field (key_order S) (listed S.field (of l.members) j) s → HasLeadIn S (of l.made.items) s)
