-- The choice of keys for a vector with a given value, where each key has a value and keys come one after another: the greedy choice,
-- without a list of all keys.
--
--   IsSpannedBefore k value Before t   the value of the key t lies in the span of the values of keys before it
--   IsFirstChoice k value Before v     no key of v is such a key
use Rattle.std.specs.Prelude.{List, map}
use Rattle.alg_core.specs.Fields.{FieldOn}
use Rattle.alg_core.specs.Keys.{Key}
use Rattle.alg_core.specs.Lists.{In}
use Rattle.alg_core.specs.Vectors.{Vect}
use Rattle.poly_module.specs.Echelons.{Spans}
use Rattle.poly_module.specs.Parts.{Supp}

module _ {E : Type 0} (k : FieldOn E) (value : Key → Vect k) (Before : Key → Key → Type 0) where
  -- in the span of the values of keys before it
  abbrev pub IsSpannedBefore : Key → Type 0
  IsSpannedBefore t = (ts : List Key) × ((s : Key) → In s ts → Before s t) × Spans k (map value ts) (value t)

  -- the value of no key lies in that span
  abbrev pub IsFirstChoice : Vect k → Type 0
  IsFirstChoice v = Supp k (λ t. ¬ IsSpannedBefore t) v
