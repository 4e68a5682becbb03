-- The list of rows that elimination keeps.
--
--   basis_rows k l     the rows of the list, each with its pivot
--   IsBasis k n l      they are rows of n values in reduced echelon form
--   cleared R p w e    the row e with the multiple of w taken off that makes e 0 at the column p, where w is 1 there
--   reduced_by R v l   v, cleared by each row of l in turn at its pivot
--   IsMonicMultiple R p v u   u is the multiple of v that is 1 at the column p
--   IsPlacedIn R p u m new    new is the list m with the row u, whose pivot is p, at its place
--   IsPutIn R p u old new     the same after the other rows are cleared at the column p
--   rows_of_basis k l  the vectors of the rows
use Rattle.std.specs.Prelude.{◌≡◌, ℕ, ◌<◌, ◌≤◌, List, [], ◌∷◌, ◌++◌, map, length, take, drop, All, slice_index_or}
use Rattle.std.specs.List.{AllByRecursion as Each}
use Rattle.lin_algebra.specs.declared.elimination.BasisRow.{BasisRow}
use Rattle.alg_core.specs.Rings.{Ring}
use Rattle.alg_core.specs.Fields.{FieldOn, Scalar, scalars}
use Rattle.lin_algebra.specs.Vectors.{vectors, vector, IsRow}
use Rattle.lin_algebra.specs.Echelons.{PivotRow, rows, IsReducedEchelon}

module _ {K : Type 0} (R : Ring K) where
  -- u with the multiple of w taken off that makes it 0 at the column p
  abbrev pub cleared_at : ℕ → (ℕ → K) → (ℕ → K) → ℕ → K
  cleared_at p w u = (vectors R).◌+◌ u ((vectors R).◌·◌ (R.neg (u p)) w)

  -- the same of a row with its pivot
  abbrev pub cleared : ℕ → (ℕ → K) → PivotRow K → PivotRow K
  cleared p w e = (e.0, cleared_at p w e.1)

  -- the multiple of v that is 1 at the column p
  pub record IsMonicMultiple (p : ℕ) (v u : ℕ → K) : Type 0 where
    pub factor : K
    pub inverse : R.◌*◌ factor (v p) ≡ R.one
    pub multiple : u ≡ (vectors R).◌·◌ factor v

  -- the rows m with the row (p, u), which stands after those with smaller pivots
  pub record IsPlacedIn (p : ℕ) (u : ℕ → K) (m new : List (PivotRow K)) : Type 0 where
    pub place : ℕ
    pub low : Each (λ e. e.0 < p) (take place m)
    pub high : (d : PivotRow K) → place < length m → p ≤ (slice_index_or m place d).0
    pub list : new ≡ take place m ++ (p, u) ∷ drop place m

  -- the same after the column p of the others is cleared by u
  abbrev pub IsPutIn : ℕ → (ℕ → K) → List (PivotRow K) → List (PivotRow K) → Type 0
  IsPutIn p u old new = IsPlacedIn p u (map (cleared p u) old) new

  -- cleared by each row at its pivot
  abbrev pub reduced_by : (ℕ → K) → List (PivotRow K) → ℕ → K
  reduced_by v [] = v
  reduced_by v (e ∷ l) = reduced_by (cleared_at e.0 e.1 v) l

module _ {E : Type 0} (k : FieldOn E) where
  -- the rows, each with its pivot
  abbrev pub basis_rows : List (BasisRow E) → List (PivotRow (Scalar k))
  basis_rows l = map (λ e. (e.pivot, vector k e.entries.items)) l

  -- the vectors of the rows
  abbrev pub rows_of_basis : List (BasisRow E) → List (ℕ → Scalar k)
  rows_of_basis l = rows (scalars k) (basis_rows l)

  -- rows of n values in reduced echelon form
  pub record IsBasis (n : ℕ) (l : List (BasisRow E)) : Type 0 where
    pub reduced : IsReducedEchelon (scalars k) (basis_rows l)
    pub rows : All (λ e. IsRow k n e.entries.items) l
    pub inside : All (λ e. e.pivot < n) l
