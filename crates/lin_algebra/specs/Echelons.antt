-- Reduced row echelon form.
--
--   PivotRow K              a vector with the column of its pivot
--   rows R l                the vectors without their pivots
--   IsPivotRow R e          the vector is 0 before its pivot and 1 at it
--   Precedes R e f          the pivot of f is after that of e, and e is 0 at it
--   IsReducedEchelon R l    each is a pivot row and precedes each later one. So the pivots rise, and each row is 0
--                           at the pivots of all others: before its own pivot in any case
use Rattle.std.specs.Prelude.{◌≡◌, ℕ, ◌<◌, List, [], ◌∷◌, map}
use Rattle.std.specs.List.{AllByRecursion as Each}
use Rattle.alg_core.specs.Rings.{Ring}

-- a vector with the column of its pivot
abbrev pub PivotRow : Type 0 → Type 0
PivotRow K = ℕ × (ℕ → K)

module _ {K : Type 0} (R : Ring K) where
  -- the vectors without their pivots
  abbrev pub rows : List (PivotRow K) → List (ℕ → K)
  rows l = map (λ e. e.1) l

  -- 0 before the pivot and 1 at it
  pub record IsPivotRow (e : PivotRow K) : Type 0 where
    pub before : (j : ℕ) → j < e.0 → e.1 j ≡ R.zero
    pub at : e.1 e.0 ≡ R.one

  -- the pivot of f is after that of e, and e is 0 at it
  pub record Precedes (e f : PivotRow K) : Type 0 where
    pub rises : e.0 < f.0
    pub clear : e.1 f.0 ≡ R.zero

  -- each is a pivot row and precedes each later one
  abbrev pub IsReducedEchelon : List (PivotRow K) → Type 0
  IsReducedEchelon [] = Unit {0}
  IsReducedEchelon (e ∷ l) = IsPivotRow e × Each (Precedes e) l × IsReducedEchelon l
