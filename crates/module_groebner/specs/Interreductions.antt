-- The reduced basis from a Gröbner basis: the members that the leads of no others divide, with their tails reduced.
--
--   HasLeadIn S vs s          s is the lead of a vector of the list
--   IsDividedIn S vs t        the lead of a vector of the list divides t
--   HasMinimalLeads S vs      no lead of a vector of the list divides that of another
--   IsPlaceFor S vs v i       i is the place of the list, with falling leads, where v belongs: the leads before it are greater
--                             than that of v, and that at it is smaller
--   IsTailReduced S g v n     n is in the module of g, monic, with the lead of v; no other key of it is a multiple of the lead of
--                             a member of g; it is homogeneous of each degree of which v is
use Rattle.std.specs.Prelude.{◌≡◌, ◌≤◌, ◌<◌, ◌⊎◌, ℕ, List, length}
use Rattle.std.specs.declared.cmp.Ordering.TheVariants.{Less}
use Rattle.alg_core.specs.Fields.{scalars}
use Rattle.alg_core.specs.Keys.{Key, KeyDivides}
use Rattle.alg_core.specs.Lists.{In}
use Rattle.alg_core.specs.Vectors.{Vect, coef_at}
use Rattle.alg_core.specs.Spaces.{SpaceOver}
use Rattle.alg_core.specs.SpaceOrder.{key_order}
use Rattle.poly_module.specs.Degrees.{IsHomogeneous}
use Rattle.poly_module.specs.Modules.{LeadBy, InModule, listed}

module _ {E : Type 0} (S : SpaceOver E) where
  module _ (vs : List (Vect S.field)) where
    abbrev pub HasLeadIn : Key → Type 0
    HasLeadIn s = (w : Vect S.field) × In w vs × LeadBy S.field (key_order S) w s

    abbrev pub IsDividedIn : Key → Type 0
    IsDividedIn t = (w : Vect S.field) × (s : Key) × In w vs × LeadBy S.field (key_order S) w s × KeyDivides s t

    -- no lead divides that of another
    abbrev pub HasMinimalLeads : Type 0
    HasMinimalLeads = (v w : Vect S.field) (s t : Key) → In v vs → In w vs → LeadBy S.field (key_order S) v s → LeadBy S.field (key_order S) w t → KeyDivides s t → v ≡ w

    -- where a vector belongs among those with falling leads
    pub record IsPlaceFor (v : Vect S.field) (i : ℕ) : Type 0 where
      pub within : i ≤ length vs
      pub before : (j : ℕ) (s t : Key) → j < i → LeadBy S.field (key_order S) (listed S.field vs j) s → LeadBy S.field (key_order S) v t → (key_order S).compare t s ≡ Less
      pub after : (s t : Key) → LeadBy S.field (key_order S) (listed S.field vs i) s → LeadBy S.field (key_order S) v t → (key_order S).compare s t ≡ Less

  -- a member with its tail divided by all of them
  pub record IsTailReduced (g : ℕ → Vect S.field) (v n : Vect S.field) : Type 0 where
    pub inside : InModule S.field g n
    pub lead : (t : Key) → LeadBy S.field (key_order S) v t → LeadBy S.field (key_order S) n t
    pub monic : (t : Key) → LeadBy S.field (key_order S) v t → coef_at S.field n t ≡ (scalars S.field).one
    pub homogeneous : (d : ℕ) → IsHomogeneous S d v → IsHomogeneous S d n
    pub rest : (t x : Key) → LeadBy S.field (key_order S) v t → ¬ (coef_at S.field n x ≡ (scalars S.field).zero)
        → (x ≡ t) ⊎ ((i : ℕ) (s : Key) → LeadBy S.field (key_order S) (g i) s → ¬ KeyDivides s x)
