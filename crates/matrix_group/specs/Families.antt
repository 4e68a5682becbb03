-- The value of a polynomial where each variable has a value. The position of a key counts for nothing.
--
--   power_product Y f a   the product of the powers of f 0, f 1, .. to the exponents a
--   family_value k f u    the value of u where variable i has the value f i
use Rattle.std.specs.Prelude.{ℕ, suc, List, [], ◌∷◌}
use Rattle.alg_core.specs.Rings.{Ring}
use Rattle.alg_core.specs.Fields.{FieldOn, scalars}
use Rattle.alg_core.specs.Keys.{key_same, keys}
use Rattle.alg_core.specs.Vectors.{Vect}
use Rattle.poly_module.specs.Polynomials.{vector_ring, vector_algebra}
use Rattle.poly_module.specs.Values.{value}
use Rattle.poly_module.specs.Substitutions.{power}

-- f 0 to the first exponent, times f 1 to the second, and so on
abbrev pub power_product : {S : Type 0} → Ring S → (ℕ → S) → List ℕ → S
power_product Y f [] = Y.one
power_product Y f (e ∷ a) = Y.◌*◌ (power Y (f 0) e) (power_product Y (λ i. f (suc i)) a)

module _ {E : Type 0} (k : FieldOn E) where
  -- f i for variable i
  unfoldable pub family_value : (ℕ → Vect k) → Vect k → Vect k
  family_value f = value (scalars k) key_same keys (vector_algebra k) (λ t. power_product (vector_ring k) f t.1.0)
