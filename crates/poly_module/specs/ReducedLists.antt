-- Reduced lists of vectors, and reduced bases of modules.
--
--   LeadsFall k o vs          the leads of the vectors fall strictly
--   IsReduced k o D U vs      the reduced list of a set U of vectors, where D says which keys are multiples of which
--   FitsOrder S t             the order of the space S is for the position of the key t
--   IsReducedBasisOf S U vs   the reduced basis of a module that is given as a set U of vectors, by the order of the space S
--   IsReducedBasis S g vs     that of the module of the family g
use Rattle.std.specs.Prelude.{◌≡◌, true, List, [], ◌∷◌, length}
use Rattle.std.specs.declared.cmp.Ordering.TheVariants.{Less}
use Rattle.alg_core.specs.Fields.{FieldOn, scalars}
use Rattle.alg_core.specs.Keys.{Key, KeyDivides}
use Rattle.alg_core.specs.KeyOrders.{OrderOn}
use Rattle.alg_core.specs.Lists.{In}
use Rattle.alg_core.specs.Vectors.{Vect, coef_at}
use Rattle.alg_core.specs.Spaces.{SpaceOver}
use Rattle.alg_core.specs.SpaceOrder.{key_order}
use Rattle.poly_module.specs.Modules.{LeadBy, InModule, listed}

module _ {E : Type 0} (k : FieldOn E) (o : OrderOn Key) where
  -- each later lead is smaller
  abbrev pub LeadsFall : List (Vect k) → Type 0
  LeadsFall [] = Unit {0}
  LeadsFall (v ∷ vs) = ((w : Vect k) (s t : Key) → In w vs → LeadBy k o v s → LeadBy k o w t → o.compare t s ≡ Less) × LeadsFall vs

  -- Members of U, not 0, with lead coefficients 1 and falling leads; the lead of each member of U but 0 is a multiple of
  -- the lead of a member of the list; no key of a member of the list is a multiple of the lead of another.
  pub record IsReduced (D : Key → Key → Type 0) (U : Vect k → Type 0) (vs : List (Vect k)) : Type 0 where
    pub inside : (v : Vect k) → In v vs → U v
    pub lead : (v : Vect k) → In v vs → (t : Key) × LeadBy k o v t
    pub monic : (v : Vect k) (t : Key) → In v vs → LeadBy k o v t → coef_at k v t ≡ (scalars k).one
    pub covers : (v : Vect k) (t : Key) → U v → LeadBy k o v t → (w : Vect k) × (s : Key) × In w vs × LeadBy k o w s × D s t
    pub apart : (v w : Vect k) (s t : Key) → In v vs → In w vs → LeadBy k o w s → ¬ (coef_at k v t ≡ (scalars k).zero) → D s t → w ≡ v
    pub falling : LeadsFall vs

module _ {E : Type 0} (S : SpaceOver E) where
  -- the order of the space is for this position
  abbrev pub FitsOrder : Key → Type 0
  FitsOrder t = S.order.fits t.0 (length S.weights) ≡ true

  -- a reduced list of a module that generates it
  pub record IsReducedBasisOf (U : Vect S.field → Type 0) (vs : List (Vect S.field)) : Type 0 where
    pub reduced : IsReduced S.field (key_order S) KeyDivides U vs
    pub generates : (v : Vect S.field) → U v → InModule S.field (listed S.field vs) v

  -- of the module of a family
  abbrev pub IsReducedBasis : {I : Type 0} → (I → Vect S.field) → List (Vect S.field) → Type 0
  IsReducedBasis g vs = IsReducedBasisOf (InModule S.field g) vs
