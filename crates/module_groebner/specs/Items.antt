-- What a completion has still to treat, one by one.
--
--   IsWithin c i            the item i is one of those that c has still to treat, by its place from 0
--   item_degree c i         its degree
--   IsCurrent c i           it is one of them, and none of them has a smaller degree
--   IsVectorOfItem S c i v  v is that generator, or the S-vector of that pair
--   first_degree ws ss es   the degree of the first place of a list of entries, 0 for the empty list
--   ArePairsWith c r ps     ps are the pairs of c, and those of each member with the lead at the position of that of r, and the
--                           place after the members
--   IsAppended c d r        from c to d the member r is appended, where r is not 0, with the pairs that it makes
--   IsTaken c d i           from c to d the item i is taken off what is still to treat
--   HasNoPair ps a b        of the places a and b, by rising places, there is no pair in ps
--   IsLink c p l x          the member at the place l links the pair p of places, with the common multiple x of their leads: its
--                           lead divides x, and no pair of it and one of the two is still to treat
--   IsTreatedItem S c i     the item i is a pair that is treated
use Rattle.std.specs.Prelude.{◌≡◌, ◌<◌, ◌≤◌, ℕ, List, [], ◌∷◌, ◌++◌, All, Contains, length, slice_index_or}
use Rattle.std.specs.List.Sorted.{IsPermutation}
use Rattle.alg_core.specs.KeyLists.{place_degree}
use Rattle.alg_core.specs.Keys.{Key, key, KeyDivides}
use Rattle.alg_core.specs.Vectors.{Entry, Vect, vec}
use Rattle.alg_core.specs.Spaces.{SpaceOver}
use Rattle.module_groebner.specs.declared.completion.Item.{Item}
use Rattle.module_groebner.specs.declared.completion.Item.TheVariants.{Generator, Pair}
use Rattle.module_groebner.specs.Progress.{Progress, lead_place, IsLeast, generator_degree, pair_degree}
use Rattle.module_groebner.specs.Completions.{IsPair, member_place, members}
use Rattle.module_groebner.specs.SVectors.{IsSVector, IsTreated}

-- none where r is 0
abbrev pub new_members : {E : Type 0} → List (Entry E) → List (List (Entry E))
new_members [] = []
new_members (e ∷ es) = (e ∷ es) ∷ []

abbrev pub first_degree : {E : Type 0} → List ℕ → List ℕ → List (Entry E) → ℕ
first_degree ws ss [] = 0
first_degree ws ss (e ∷ es) = place_degree ws ss e.0

pub record HasNoPair (ps : List (ℕ × ℕ)) (a b : ℕ) : Type 0 where
  pub rising : a < b → ¬ Contains ps (a, b)
  pub falling : b < a → ¬ Contains ps (b, a)

module _ {E : Type 0} (c : Progress E) where
  pub record ArePairsWith (r : List (Entry E)) (ps : List (ℕ × ℕ)) : Type 0 where
    pub new : List (ℕ × ℕ)
    pub is : ps ≡ c.pairs ++ new
    pub within : All (λ p. p.0 < length c.members) new
    pub ends : All (λ p. p.1 ≡ length c.members) new
    pub positions : All (λ p. (lead_place (slice_index_or c.members p.0 [])).0 ≡ (lead_place r).0) new
    pub every : (i : ℕ) → i < length c.members → (lead_place (slice_index_or c.members i [])).0 ≡ (lead_place r).0 → Contains new (i, length c.members)
    pub few : length new ≤ length c.members

  abbrev pub IsWithin : Item → Type 0
  IsWithin (Generator i) = i < length c.generators
  IsWithin (Pair i) = i < length c.pairs

  abbrev pub item_degree : Item → ℕ
  item_degree (Generator i) = generator_degree c (slice_index_or c.generators i [])
  item_degree (Pair i) = pair_degree c (slice_index_or c.pairs i (0, 0))

  pub record IsCurrent (i : Item) : Type 0 where
    pub within : IsWithin i
    pub least : IsLeast c (item_degree i)

  pub record IsLink (p : ℕ × ℕ) (l : ℕ) (x : Key) : Type 0 where
    pub within : l < length c.members
    pub divides : KeyDivides (key (member_place c l)) x
    pub not_first : ¬ (l ≡ p.0)
    pub not_second : ¬ (l ≡ p.1)
    pub first : HasNoPair c.pairs l p.0
    pub second : HasNoPair c.pairs l p.1

  pub record IsAppended (d : Progress E) (r : List (Entry E)) : Type 0 where
    pub weights : d.weights ≡ c.weights
    pub shifts : d.shifts ≡ c.shifts
    pub cap : d.cap ≡ c.cap
    pub members : d.members ≡ c.members ++ new_members r
    pub generators : d.generators ≡ c.generators
    pub new_pairs : List (ℕ × ℕ)
    pub pairs : d.pairs ≡ c.pairs ++ new_pairs
    pub are_pairs : All (IsPair d) new_pairs
    pub ends : All (λ p. p.1 ≡ length c.members) new_pairs
    pub every : (p : ℕ × ℕ) → IsPair d p → p.1 ≡ length c.members → Contains new_pairs p
    pub few : length new_pairs ≤ length c.members

module _ {E : Type 0} (c d : Progress E) where
  -- the other items are still there
  abbrev pub IsRest : Item → Type 0
  IsRest (Generator i) = IsPermutation c.generators (slice_index_or c.generators i [] ∷ d.generators) × (d.pairs ≡ c.pairs)
  IsRest (Pair i) = IsPermutation c.pairs (slice_index_or c.pairs i (0, 0) ∷ d.pairs) × (d.generators ≡ c.generators)

  pub record IsTaken (i : Item) : Type 0 where
    pub weights : d.weights ≡ c.weights
    pub shifts : d.shifts ≡ c.shifts
    pub cap : d.cap ≡ c.cap
    pub members : d.members ≡ c.members
    pub rest : IsRest i

abbrev pub IsVectorOfItem : {E : Type 0} (S : SpaceOver E) → Progress E → Item → Vect S.field → Type 0
IsVectorOfItem S c (Generator i) v = vec S.field (slice_index_or c.generators i []) ≡ v
IsVectorOfItem S c (Pair i) v = let p = slice_index_or c.pairs i (0, 0) in IsSVector S (members S c p.0) (members S c p.1) v

abbrev pub IsTreatedItem : {E : Type 0} (S : SpaceOver E) → Progress E → Item → Type 0
IsTreatedItem S c (Generator i) = ⊥
IsTreatedItem S c (Pair i) = let p = slice_index_or c.pairs i (0, 0) in IsTreated S (members S c) p.0 p.1
