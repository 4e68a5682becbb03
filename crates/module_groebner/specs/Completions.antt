-- Completions: how a Gröbner basis is made by treating generators and pairs of members.
--
--   vects k ess               the vectors of lists of entries
--   SameModule k g h          the families g and h generate one module
--   members S c               the family of the members of c
--   generated S c             the family of the members and of the generators still to treat: of the module that c completes
--   IsPair c p                p is a pair of two members, by rising places from 0, whose leads have one position
--   StandsOver S c            the completion c stands over the space S
--   IsCurrentGenerator c es   es is one of the generators still to treat, and of the least degree of all that is to treat
--   IsCurrentPair c p         p is one of the pairs still to treat, and of that degree
--   IsCurrentVector S c v     v is such a generator, or the S-vector of such a pair
--   IsOver S c b              b names a remainder of such a vector by the members, of a degree over the cap: an element above
--                             the cap, of the least degree, of the module that c completes
--   Extends S c d             d completes the module of c up to its cap; its members are those of c at their places and at most
--                             one more
--   TreatsGenerator S c d     from c to d one of these generators was treated: it lies in the module of the members of d, is
--                             no more to treat, and all else still is
--   TreatsPair S c d          from c to d one of these pairs was treated, is no more to treat, and all else still is
use Rattle.std.specs.Prelude.{◌≡◌, ◌↔◌, ◌⊎◌, ◌<◌, ◌≤◌, ℕ, List, [], ◌∷◌, ◌++◌, All, Contains, map, length, slice_index_or}
use Rattle.std.specs.List.Sorted.{IsPermutation}
use Rattle.alg_core.specs.Fields.{FieldOn}
use Rattle.alg_core.specs.Vectors.{Entry, Vect, vec}
use Rattle.alg_core.specs.Spaces.{SpaceOver, Fits}
use Rattle.poly_module.specs.Modules.{InModule, listed}
use Rattle.poly_module.specs.SpaceVectors.{vector_of}
use Rattle.module_groebner.specs.declared.bound.BasisBound.{BasisBound}
use Rattle.module_groebner.specs.declared.bound.Which.TheVariants.{Ideal}
use Rattle.module_groebner.specs.HomogeneousLists.{degree_limit, cap_limit, AreHomogeneousUpTo, AreNonzero}
use Rattle.module_groebner.specs.Remainders.{IsRemainder}
use Rattle.module_groebner.specs.SVectors.{IsSVector, IsTreated}
use Rattle.module_groebner.specs.BasisBounds.{IsBasisBound}
use Rattle.module_groebner.specs.Progress.{Progress, IsLeast, lead_place, generator_degree, pair_degree}

abbrev pub vects : {E : Type 0} (k : FieldOn E) → List (List (Entry E)) → List (Vect k)
vects k ess = map (vec k) ess

abbrev pub SameModule : {E : Type 0} (k : FieldOn E) → (ℕ → Vect k) → (ℕ → Vect k) → Type 0
SameModule k g h = (v : Vect k) → InModule k g v ↔ InModule k h v

module _ {E : Type 0} (c : Progress E) where
  -- the place of a member's lead
  abbrev pub member_place : ℕ → ℕ × List ℕ
  member_place i = lead_place (slice_index_or c.members i [])

  -- a pair of places of members, from 0
  pub record IsPair (p : ℕ × ℕ) : Type 0 where
    pub rising : p.0 < p.1
    pub within : p.1 < length c.members
    pub position : (member_place p.0).0 ≡ (member_place p.1).0

  -- of the least degree of what is still to treat
  pub record IsCurrentGenerator (es : List (Entry E)) : Type 0 where
    pub there : Contains c.generators es
    pub least : IsLeast c (generator_degree c es)

  pub record IsCurrentPair (p : ℕ × ℕ) : Type 0 where
    pub there : Contains c.pairs p
    pub least : IsLeast c (pair_degree c p)

module _ {E : Type 0} (S : SpaceOver E) where
  module _ (c : Progress E) where
    abbrev pub members : ℕ → Vect S.field
    members = listed S.field (vects S.field c.members)

    abbrev pub generated : ℕ → Vect S.field
    generated = listed S.field (vects S.field c.members ++ vects S.field c.generators)

    pub record StandsOver : Type 0 where
      pub weights : c.weights ≡ S.weights
      pub shifts : c.shifts ≡ S.shifts
      pub cap : c.cap ≤ cap_limit
      pub members_fit : All (Fits S) c.members
      pub generators_fit : All (Fits S) c.generators
      pub members_homogeneous : AreHomogeneousUpTo S c.cap (vects S.field c.members)
      pub generators_homogeneous : AreHomogeneousUpTo S degree_limit (vects S.field c.generators)
      pub nonzero : AreNonzero S.field (vects S.field c.members)
      pub pairs : All (IsPair c) c.pairs
      pub treated : (p : ℕ × ℕ) → IsPair c p → Contains c.pairs p ⊎ IsTreated S members p.0 p.1

    abbrev pub IsCurrentVector : Vect S.field → Type 0
    IsCurrentVector v = ((es : List (Entry E)) × IsCurrentGenerator c es × (vec S.field es ≡ v))
        ⊎ ((p : ℕ × ℕ) × IsCurrentPair c p × IsSVector S (members p.0) (members p.1) v)

    pub record IsOver (b : BasisBound E) : Type 0 where
      pub current : Vect S.field
      pub is_current : IsCurrentVector current
      pub remainder : IsRemainder S members current (vector_of S (λ m. m) b.vector)
      pub bound : IsBasisBound S (InModule S.field generated) c.cap Ideal b

  module _ (c d : Progress E) where
    pub record Extends : Type 0 where
      pub weights : d.weights ≡ c.weights
      pub shifts : d.shifts ≡ c.shifts
      pub cap : d.cap ≡ c.cap
      pub new : List (List (Entry E))
      pub members : d.members ≡ c.members ++ new
      pub one : length new ≤ 1
      pub same : SameModule S.field (generated c) (generated d)

    pub record TreatsGenerator : Type 0 where
      pub generator : List (Entry E)
      pub current : IsCurrentGenerator c generator
      pub inside : InModule S.field (members d) (vec S.field generator)
      pub taken : IsPermutation c.generators (generator ∷ d.generators)
      pub new_pairs : List (ℕ × ℕ)
      pub pairs : IsPermutation (c.pairs ++ new_pairs) d.pairs
      pub ends : All (λ p. p.1 ≡ length c.members) new_pairs

    pub record TreatsPair : Type 0 where
      pub pair : ℕ × ℕ
      pub current : IsCurrentPair c pair
      pub treated : IsTreated S (members d) pair.0 pair.1
      pub new_pairs : List (ℕ × ℕ)
      pub taken : IsPermutation (c.pairs ++ new_pairs) (pair ∷ d.pairs)
      pub ends : All (λ p. p.1 ≡ length c.members) new_pairs
      pub generators : IsPermutation c.generators d.generators
