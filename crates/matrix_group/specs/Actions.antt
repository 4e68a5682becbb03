-- The action of matrices on polynomials: row i of a matrix is the image of variable i.
--
--   linear_form k n c      c 0 · x_0 + .. + c (n - 1) · x_(n - 1)
--   image k n a i          what is put for variable i: the linear form of row i of a, for one of the first n
--                          variables; itself for any other
--   act k n a u            u with its image put for each variable
--   act_by k m u           the same for a square matrix of the program
--   IsSquare k n m         m is an n by n matrix over the field
--   ActsOn S m             m is a square matrix over the field of the space S, with a row for as many of its first variables
--   Invariant k gens u     u is its own image under each of the matrices
use Rattle.std.specs.Prelude.{◌≡◌, ◌≤◌, ℕ, zero, suc, List, All, length, nat_lt, if◌then◌else◌}
use Rattle.alg_core.specs.Fields.{FieldOn, Scalar}
use Rattle.alg_core.specs.Vectors.{Vect, vectors, plus, zero_vector}
use Rattle.alg_core.specs.Spaces.{SpaceOver}
use Rattle.poly_module.specs.Substitutions.{variable_vector}
use Rattle.lin_algebra.specs.declared.matrix.Matrix.{Matrix}
use Rattle.lin_algebra.specs.Matrices.{IsMatrix, entries}
use Rattle.matrix_group.specs.Families.{family_value}

module _ {E : Type 0} (k : FieldOn E) where
  -- a linear form in the first n variables
  abbrev pub linear_form : ℕ → (ℕ → Scalar k) → Vect k
  linear_form zero c = zero_vector k
  linear_form (suc n) c = plus k (linear_form n c) ((vectors k).◌·◌ (c n) (variable_vector k n))

  -- what is put for a variable
  abbrev pub image : ℕ → (ℕ → ℕ → Scalar k) → ℕ → Vect k
  image n a i = if nat_lt i n then linear_form n (a i) else variable_vector k i

  -- the action of n by n entries
  unfoldable pub act : ℕ → (ℕ → ℕ → Scalar k) → Vect k → Vect k
  act n a = family_value k (image n a)

  -- a matrix of n rows and n columns over the field
  pub record IsSquare (n : ℕ) (m : Matrix E) : Type 0 where
    pub matrix : IsMatrix k m
    pub rows : m.rows ≡ n
    pub cols : m.cols ≡ n

  -- the action of a matrix
  abbrev pub act_by : Matrix E → Vect k → Vect k
  act_by m = act m.rows (entries k m)

  -- fixed by each matrix
  abbrev pub Invariant : List (Matrix E) → Vect k → Type 0
  Invariant gens u = All (λ m. act_by m u ≡ u) gens

-- it acts on the polynomials of a space
pub record ActsOn {E : Type 0} (S : SpaceOver E) (m : Matrix E) : Type 0 where
  pub square : IsSquare S.field m.rows m
  pub within : m.rows ≤ length S.weights
