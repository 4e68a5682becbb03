-- Vectors: a scalar at each column, the columns counted from 0.
--
--   vectors R     the functions from columns to scalars, as a module
--   dot R n u v   u 0 · v 0 + .. + u (n - 1) · v (n - 1)
--   unit R j      the vector that is 1 at the column j and 0 elsewhere
--   vector k xs   the values xs as a vector, 0 past their end
--   IsRow k n xs  xs are n values of the field
use Rattle.std.specs.Prelude.{◌≡◌, ℕ, zero, suc, List, length, All, slice_index_or}
use mathlib.Core.HLevel.{→_set}
use native.Mathlib.Decide.{ℕ_discrete}
use Rattle.alg_core.specs.Rings.{Ring, Module}
use Rattle.alg_core.specs.RingLaws as rings
use Rattle.alg_core.specs.FormalSums.{indicator}
use Rattle.alg_core.specs.Fields.{FieldOn, Has, Scalar, scalar}

module _ {K : Type 0} (R : Ring K) where
  -- the functions from columns to scalars
  abbrev pub vectors : Module R (ℕ → K)
  vectors = record {
    is_set = →_set R.is_set;
    zero = λ j. R.zero;
    ◌+◌ = λ u v j. R.◌+◌ (u j) (v j);
    ◌·◌ = λ c u j. R.◌*◌ c (u j);
    add_assoc = λ x y z i j. R.add_assoc (x j) (y j) (z j) i;
    add_comm = λ x y i j. R.add_comm (x j) (y j) i;
    add_zero = λ x i j. R.add_zero (x j) i;
    act_add = λ c x y i j. R.mul_add c (x j) (y j) i;
    add_act = λ c d x i j. rings.add_mul R c d (x j) i;
    mul_act = λ c d x i j. R.mul_assoc c d (x j) i;
    one_act = λ x i j. rings.one_mul R (x j) i;
    zero_act = λ x i j. rings.zero_mul R (x j) i;
  }

  -- the sum of the products at the first n columns
  abbrev pub dot : ℕ → (ℕ → K) → (ℕ → K) → K
  dot zero u v = R.zero
  dot (suc n) u v = R.◌+◌ (dot n u v) (R.◌*◌ (u n) (v n))

  -- 1 at one column, 0 elsewhere
  abbrev pub unit : ℕ → ℕ → K
  unit j i = indicator R (ℕ_discrete j i)

module _ {E : Type 0} (k : FieldOn E) where
  -- values as a vector
  abbrev pub vector : List E → ℕ → Scalar k
  vector xs j = scalar k (slice_index_or xs j k.zero)

-- n values of the field
pub record IsRow {E : Type 0} (k : FieldOn E) (n : ℕ) (xs : List E) : Type 0 where
  pub count : length xs ≡ n
  pub has : All (Has k) xs
