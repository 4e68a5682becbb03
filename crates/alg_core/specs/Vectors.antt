-- Vectors over a field: finite maps from keys to scalars. A polynomial is a vector with position 0 alone.
--
--   Entry E           a value of the field at a place
--   Vect k            the vectors over the field k
--   vectors k         the vectors as a module
--   vec k es          the vector with these entries
--   coef_at k v t     the coefficient of v at the key t
--   plus k, zero_vector k, scale k c, shift k m    sum, zero, multiple by a value, multiple by a monomial
use Rattle.std.specs.Prelude.{List, map}
use Rattle.alg_core.specs.Rings.{Module}
use Rattle.alg_core.specs.Fields.{FieldOn, Scalar, scalars, scalar}
use Rattle.alg_core.specs.FormalSums.{FormalSum, Free}
use Rattle.alg_core.specs.FreeModules.{class, free, single, extend, coef}
use Rattle.alg_core.specs.Monomials.{Mon}
use Rattle.alg_core.specs.Keys.{TermPlace, Key, key, key_same, times_key}

-- a value at a place
abbrev pub Entry : Type 0 → Type 0
Entry E = TermPlace × E

module _ {E : Type 0} (k : FieldOn E) where
  -- the finite maps from keys to scalars
  abbrev pub Vect : Type 0
  Vect = Free (scalars k) key_same

  -- as a module
  abbrev pub vectors : Module (scalars k) Vect
  vectors = free (scalars k) key_same

  -- the keys and scalars of a list of entries
  abbrev pub formal_sum : List (Entry E) → FormalSum (Scalar k) Key
  formal_sum es = map (λ e. (key e.0, scalar k e.1)) es

  -- the vector with these entries
  unfoldable pub vec : List (Entry E) → Vect
  vec es = class (scalars k) key_same (formal_sum es)

  -- the coefficient at a key
  unfoldable pub coef_at : Vect → Key → Scalar k
  coef_at = coef (scalars k) key_same

  unfoldable pub plus : Vect → Vect → Vect
  plus = vectors.◌+◌

  unfoldable pub zero_vector : Vect
  zero_vector = vectors.zero

  -- multiples by a value, by a monomial
  unfoldable pub scale : E → Vect → Vect
  scale c v = vectors.◌·◌ (scalar k c) v

  unfoldable pub shift : Mon → Vect → Vect
  shift m = extend (scalars k) key_same vectors (λ t. single (scalars k) key_same (times_key m t))
