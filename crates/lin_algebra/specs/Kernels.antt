-- Kernel vectors and particular solutions read off a reduced echelon list.
--
--   particular R j l      has at the pivot of each row of l what the row has at the column j, and 0 elsewhere
--   kernel_vector R j l   the unit vector j less that
use Rattle.std.specs.Prelude.{ℕ, List, [], ◌∷◌}
use Rattle.alg_core.specs.Rings.{Ring}
use Rattle.lin_algebra.specs.Vectors.{vectors, unit}
use Rattle.lin_algebra.specs.Echelons.{PivotRow}

module _ {K : Type 0} (R : Ring K) where
  -- the sum of e j times the unit vector of the pivot of e, over the rows e
  abbrev pub particular : ℕ → List (PivotRow K) → ℕ → K
  particular j [] = (vectors R).zero
  particular j (e ∷ l) = (vectors R).◌+◌ ((vectors R).◌·◌ (e.1 j) (unit R e.0)) (particular j l)

  -- 1 at the column j, and what makes each row 0 at the pivots
  abbrev pub kernel_vector : ℕ → List (PivotRow K) → ℕ → K
  kernel_vector j l = (vectors R).◌+◌ (unit R j) ((vectors R).◌·◌ (R.neg R.one) (particular j l))
