-- Matrices as their rows, and what is said of them.
--
--   cut n c xs          the first n pieces of xs, each of the length c
--   rows_of m           the rows of the matrix m, each a list of values
--   joined xs ys        each list of xs with the list of ys at its place after it
--   beside n u v        the first n entries of the vector u, and then those of v
--   entries k m         the scalar at a row and a column, 0 outside the matrix
--   vectors_of k m      the rows as vectors
--   first_columns k m n the first n columns as vectors
--   columns_of k m      all columns as vectors
--   pivot_rows k e      the rows of an echelon form, each with its pivot
--   IsMatrix k m        m has rows · cols cells, all of them values of the field
--   product R n a b     the product of a, with n columns, and b, with n rows
--   IsIdentity R n p    the first n rows of p are those of the identity
--   IsInverse R n a b   both products of a and b are the identity
--   HasInverse R n a    some b is inverse to a
--   IsSolution k a b x  a · x = b
--   IsKernelVector k a v  a · v = 0, and v is 0 past the columns of a
--   IsDependent k a j   the column j of a is a combination of the columns before it
use Rattle.std.specs.Prelude.{◌≡◌, ℕ, zero, suc, ◌-◌, ◌*◌, ◌<◌, ◌≤◌, List, [], ◌∷◌, ◌++◌, if◌then◌else◌, nat_lt, length, take, drop, map, All, slice_index_or}
use Rattle.std.specs.List.{zip}
use Rattle.lin_algebra.specs.declared.matrix.Matrix.{Matrix}
use Rattle.lin_algebra.specs.declared.matrix.Echelon.{Echelon}
use Rattle.alg_core.specs.Rings.{Ring}
use Rattle.alg_core.specs.Fields.{FieldOn, Has, Scalar, scalars}
use Rattle.lin_algebra.specs.Vectors.{dot, unit, vector}
use Rattle.lin_algebra.specs.Echelons.{PivotRow}

-- the first n pieces, each of the length c
abbrev pub cut : {E : Type 0} → ℕ → ℕ → List E → List (List E)
cut zero c xs = []
cut (suc n) c xs = take c xs ∷ cut n c (drop c xs)

-- the rows
abbrev pub rows_of : {E : Type 0} → Matrix E → List (List E)
rows_of m = cut m.rows m.cols m.cells.items

-- each list with the list at its place after it
abbrev pub joined : {E : Type 0} → List (List E) → List (List E) → List (List E)
joined [] ys = []
joined (x ∷ xs) [] = x ∷ xs
joined (x ∷ xs) (y ∷ ys) = (x ++ y) ∷ joined xs ys

-- the first n entries of u, and then those of v
abbrev pub beside : {K : Type 0} → ℕ → (ℕ → K) → (ℕ → K) → ℕ → K
beside n u v j = if nat_lt j n then u j else v (j - n)

-- rows · cols values of the field
pub record IsMatrix {E : Type 0} (k : FieldOn E) (m : Matrix E) : Type 0 where
  pub whole : length m.cells.items ≡ m.rows * m.cols
  pub has : All (Has k) m.cells.items

module _ {E : Type 0} (k : FieldOn E) where
  -- the scalar at a row and a column
  abbrev pub entries : Matrix E → ℕ → ℕ → Scalar k
  entries m i = vector k (slice_index_or (rows_of m) i [])

  -- the rows as vectors
  abbrev pub vectors_of : Matrix E → List (ℕ → Scalar k)
  vectors_of m = map (vector k) (rows_of m)

  -- the first columns as vectors
  abbrev pub first_columns : Matrix E → ℕ → List (ℕ → Scalar k)
  first_columns m zero = []
  first_columns m (suc n) = first_columns m n ++ (λ i. entries m i n) ∷ []

  -- the columns as vectors
  abbrev pub columns_of : Matrix E → List (ℕ → Scalar k)
  columns_of m = first_columns m m.cols

  -- the rows, each with its pivot
  abbrev pub pivot_rows : Echelon E → List (PivotRow (Scalar k))
  pivot_rows e = zip e.pivots.items (vectors_of e.matrix)

module _ {K : Type 0} (R : Ring K) where
  -- row i times column j
  abbrev pub product : ℕ → (ℕ → ℕ → K) → (ℕ → ℕ → K) → ℕ → ℕ → K
  product n a b i j = dot R n (a i) (λ l. b l j)

  -- row i is 1 at column i and 0 elsewhere
  abbrev pub IsIdentity : ℕ → (ℕ → ℕ → K) → Type 0
  IsIdentity n p = (i j : ℕ) → i < n → j < n → p i j ≡ unit R i j

  -- inverse on both sides
  pub record IsInverse (n : ℕ) (a b : ℕ → ℕ → K) : Type 0 where
    pub right : IsIdentity n (product n a b)
    pub left : IsIdentity n (product n b a)

  -- some matrix is inverse to a
  abbrev pub HasInverse : ℕ → (ℕ → ℕ → K) → Type 0
  HasInverse n a = (b : ℕ → ℕ → K) × IsInverse n a b

module _ {E : Type 0} (k : FieldOn E) (a : Matrix E) where
  -- a · x = b
  abbrev pub IsSolution : (ℕ → Scalar k) → (ℕ → Scalar k) → Type 0
  IsSolution b x = (i : ℕ) → i < a.rows → dot (scalars k) a.cols (entries k a i) x ≡ b i

  -- a · v = 0, for a vector of as many entries as a has columns
  pub record IsKernelVector (v : ℕ → Scalar k) : Type 0 where
    pub past : (j : ℕ) → a.cols ≤ j → v j ≡ (scalars k).zero
    pub zero : (i : ℕ) → i < a.rows → dot (scalars k) a.cols (entries k a i) v ≡ (scalars k).zero

  -- the column j is a combination of the columns before it, with the coefficients c
  abbrev pub IsDependent : ℕ → Type 0
  IsDependent j = (c : ℕ → Scalar k) × ((i : ℕ) → i < a.rows → entries k a i j ≡ dot (scalars k) j (entries k a i) c)
