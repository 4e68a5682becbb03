-- From a vector back to its list of entries.
--
--   IsOver S v      each key at which the vector v has a coefficient other than 0 is that of a place of the space S
--   entry_of S e    the entry of a key and a scalar
--   entries_of S v  the list of entries of a vector v over the space S, falling by its order
use Rattle.std.specs.Prelude.{◌≡◌, List, length, map}
use Rattle.alg_core.specs.Fields.{Scalar, scalars, is_field}
use Rattle.alg_core.specs.Monomials.{exponents}
use Rattle.alg_core.specs.Keys.{Key, key_same}
use Rattle.alg_core.specs.CanonicalLists.{terms}
use Rattle.alg_core.specs.Vectors.{Entry, Vect, coef_at}
use Rattle.alg_core.specs.Spaces.{SpaceOver}
use Rattle.alg_core.specs.SpaceOrder.{key_order}
use Rattle.alg_core.specs.KeyLists.{InSpace}

module _ {E : Type 0} (S : SpaceOver E) where
  -- its keys are those of places
  abbrev pub IsOver : Vect S.field → Type 0
  IsOver v = (t : Key) → ¬ (coef_at S.field v t ≡ (scalars S.field).zero) → InSpace S t

  -- an exponent for each variable of the space
  abbrev pub entry_of : Key × Scalar S.field → Entry E
  entry_of e = ((e.0.0, exponents (length S.weights) e.0.1.0), e.1.0)

  unfoldable pub entries_of : Vect S.field → List (Entry E)
  entries_of v = map entry_of (terms (scalars S.field) (is_field S.field) key_same (key_order S) v)
