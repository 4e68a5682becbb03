-- The finitely many keys of a space that have one degree, or a degree up to a cap, where no weight is 0.
--
--   Falls o l              each member of the list l is greater than those after it, by the order o
--   inserted o t l         the falling list l with t at its place, once
--   sorted o l             the members of l, falling, each once
--   place_degree ws ss p   the degree of a place by the weights ws and the shifts ss
--   places_up_to ws ss d   the places with an exponent for each weight, a shift, and a degree of at most d
--   InSpace S t            the key t is that of a place of the space S
--   keys_up_to S d         the keys in the space S that have a degree of at most d, falling
--   keys_of_degree S d     those of degree d
use Rattle.std.specs.Prelude.{◌≡◌, ℕ, ◌+◌, ◌<◌, ◌≤◌, ◌==◌, true, nat_le, List, [], ◌∷◌, length, map, filter}
use Rattle.std.specs.declared.cmp.Ordering.{Ordering}
use Rattle.std.specs.declared.cmp.Ordering.TheVariants.{Less, Equal, Greater}
use Rattle.alg_core.specs.Keys.{TermPlace, Key, key}
use Rattle.alg_core.specs.KeyOrders.{OrderOn}
use Rattle.alg_core.specs.Lists.{In, pairs, numbers_below}
use Rattle.alg_core.specs.Spaces.{SpaceOver}
use Rattle.alg_core.specs.SpaceOrder.{key_order}
use Rattle.alg_core.specs.SpaceGrading.{weight, height, degree, exponent_lists}

module _ {T : Type 0} (o : OrderOn T) where
  -- each later member is smaller
  abbrev pub Falls : List T → Type 0
  Falls [] = Unit {0}
  Falls (t ∷ l) = ((s : T) → In s l → o.compare s t ≡ Less) × Falls l

  -- t in front of s and the rest, in place of s, or in the rest
  abbrev pub inserted_by : Ordering → T → T → List T → List T → List T
  inserted_by Greater t s l rest = t ∷ s ∷ l
  inserted_by Equal t s l rest = s ∷ l
  inserted_by Less t s l rest = s ∷ rest

  unfoldable pub inserted : T → List T → List T
  inserted t [] = t ∷ []
  inserted t (s ∷ l) = inserted_by (o.compare t s) t s l (inserted t l)

  unfoldable pub sorted : List T → List T
  sorted [] = []
  sorted (t ∷ l) = inserted t (sorted l)

-- its weighted degree and its shift
abbrev pub place_degree : List ℕ → List ℕ → TermPlace → ℕ
place_degree ws ss p = weight ws 0 p.1 + height ss p.0

-- no exponent is above the degree
unfoldable pub places_up_to : List ℕ → List ℕ → ℕ → List TermPlace
places_up_to ws ss d = filter (λ p. nat_le (place_degree ws ss p) d) (pairs (λ q a. (q, a)) (numbers_below (length ss)) (exponent_lists (length ws) d))

module _ {E : Type 0} (S : SpaceOver E) where
  -- in the variables and at the positions of the space, for which the order is
  pub record InSpace (t : Key) : Type 0 where
    pub fits : S.order.fits t.0 (length S.weights) ≡ true
    pub variables : length t.1.0 ≤ length S.weights
    pub position : t.0 < length S.shifts

  unfoldable pub keys_up_to : ℕ → List Key
  keys_up_to d = sorted (key_order S) (filter (λ t. S.order.fits t.0 (length S.weights)) (map key (places_up_to S.weights S.shifts d)))

  unfoldable pub keys_of_degree : ℕ → List Key
  keys_of_degree d = filter (λ t. degree S t == d) (keys_up_to d)
