-- The Reynolds operator of a finite group of matrices: the average of the images of a polynomial under the elements.
-- A matrix of n rows and n columns is here the list of its cells, row after row.
--
--   sum_of k f xs          the sum of the values of f at the members of xs
--   sum_over k n gs u      the sum of the images of u under the matrices with the cells gs
--   average k n c gs u     c times that sum
--   Averaging E            elements of a group of matrices, and a factor
--   reynolds k n R u       the factor of R times the sum of the images of u under the elements of R
--   IsMatrixGroup k n ms   ms are n by n matrices over the field, and a group
--   IsAveraging k n R      the elements of R are such a group, and its factor is the inverse of the sum of as many ones as
--                          there are elements
--   IsAverage k gens f h   h is the average of f over the group that the matrices gens generate
--   ActTogether S ms       ms are square matrices of one size over the field of the space S, with a row for as many of its
--                          first variables
--   AveragesOn S R         the elements of such a group act so, and R averages over it
use Rattle.std.specs.Prelude.{◌≡◌, ◌≤◌, ℕ, List, [], ◌∷◌, All, length}
use Rattle.alg_core.specs.Fields.{FieldOn, Has, ones}
use Rattle.alg_core.specs.Vectors.{Vect, plus, zero_vector, scale}
use Rattle.alg_core.specs.Spaces.{SpaceOver}
use Rattle.lin_algebra.specs.declared.matrix.Matrix.{Matrix}
use Rattle.matrix_group.specs.Actions.{act, IsSquare}
use Rattle.matrix_group.specs.Groups.{size, cells_of, entry, AreElements, IsGroup}

-- elements of a group of matrices, and a factor
pub record Averaging (E : Type 0) : Type 0 where
  pub elements : List (Matrix E)
  pub factor : E

module _ {E : Type 0} (k : FieldOn E) where
  abbrev pub sum_of : {A : Type 0} → (A → Vect k) → List A → Vect k
  sum_of f [] = zero_vector k
  sum_of f (x ∷ xs) = plus k (f x) (sum_of f xs)

  -- the sum of the images under matrices
  abbrev pub sum_over : ℕ → List (List E) → Vect k → Vect k
  sum_over n gs u = sum_of (λ g. act k n (entry k n g) u) gs

  abbrev pub average : ℕ → E → List (List E) → Vect k → Vect k
  average n c gs u = scale k c (sum_over n gs u)

  abbrev pub reynolds : ℕ → Averaging E → Vect k → Vect k
  reynolds n R = average n R.factor (cells_of R.elements)

  -- a group of n by n matrices over the field
  pub record IsMatrixGroup (n : ℕ) (ms : List (Matrix E)) : Type 0 where
    pub square : All (IsSquare k n) ms
    pub group : IsGroup k n (cells_of ms)

  -- its elements, and the inverse of their number in the field
  pub record IsAveraging (n : ℕ) (R : Averaging E) : Type 0 where
    pub elements : IsMatrixGroup n R.elements
    pub has : Has k R.factor
    pub inverse : k.mul R.factor (ones k (length R.elements)) ≡ k.one

  -- the elements are the finite products of the matrices
  pub record IsAverage (gens : List (Matrix E)) (f h : Vect k) : Type 0 where
    pub averaging : Averaging E
    pub group : IsAveraging (size gens) averaging
    pub generated : AreElements k (size gens) (cells_of gens) (cells_of averaging.elements)
    pub is : reynolds (size gens) averaging f ≡ h

module _ {E : Type 0} (S : SpaceOver E) where
  -- matrices of one size that act on the polynomials of a space
  pub record ActTogether (ms : List (Matrix E)) : Type 0 where
    pub square : All (IsSquare S.field (size ms)) ms
    pub within : size ms ≤ length S.weights

  -- a group of such matrices and the inverse of its order
  pub record AveragesOn (R : Averaging E) : Type 0 where
    pub averaging : IsAveraging S.field (size R.elements) R
    pub within : size R.elements ≤ length S.weights
