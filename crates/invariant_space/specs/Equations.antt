-- The linear equations of the invariants of one degree, on their coefficients at the monomials of that degree.
--
--   IsMonomialList o n d ts  ts are the monomials of degree d in n variables, in falling order
--   row_polynomial k ts w    the sum of w l times the key at the place l of ts
--   coordinates k ts f       the coefficients of f at the keys ts, 0 past their end
--   Solves k a w             the product of each row of the matrix a and w is 0
--   AreEquations k ts P a    the polynomials in the keys ts whose coordinates solve a are those that satisfy P
use Rattle.std.specs.Prelude.{◌≡◌, ◌↔◌, ℕ, zero, suc, List, [], ◌∷◌, length}
use Rattle.std.specs.List.{AllByRecursion as Each}
use Rattle.alg_core.specs.Fields.{FieldOn, Scalar, scalars}
use Rattle.alg_core.specs.Keys.{Key}
use Rattle.alg_core.specs.KeyLists.{Falls}
use Rattle.alg_core.specs.KeyOrders.{OrderOn}
use Rattle.alg_core.specs.Lists.{In}
use Rattle.alg_core.specs.Vectors.{Vect, vectors, coef_at, plus, zero_vector}
use Rattle.poly_module.specs.Parts.{Supp}
use Rattle.poly_module.specs.Polynomials.{single_vector}
use Rattle.lin_algebra.specs.declared.matrix.Matrix.{Matrix}
use Rattle.lin_algebra.specs.Matrices.{IsMatrix, rows_of}
use Rattle.lin_algebra.specs.Vectors.{dot, vector}
use Rattle.invariant_space.specs.InvariantSpaces.{IsOfDegree}

-- all monomials of degree d, in falling order
pub record IsMonomialList (o : OrderOn Key) (n d : ℕ) (ts : List Key) : Type 0 where
  pub falls : Falls o ts
  pub all : (t : Key) → In t ts ↔ IsOfDegree n d t

module _ {E : Type 0} (k : FieldOn E) where
  -- coefficients at the keys, as a vector
  abbrev pub row_polynomial : List Key → (ℕ → Scalar k) → Vect k
  row_polynomial [] w = zero_vector k
  row_polynomial (t ∷ ts) w = plus k ((vectors k).◌·◌ (w 0) (single_vector k t)) (row_polynomial ts (λ l. w (suc l)))

  -- the coefficients at the keys
  abbrev pub coordinates : List Key → Vect k → ℕ → Scalar k
  coordinates [] f l = (scalars k).zero
  coordinates (t ∷ ts) f zero = coef_at k f t
  coordinates (t ∷ ts) f (suc l) = coordinates ts f l

  -- each row times w is 0
  abbrev pub Solves : Matrix E → (ℕ → Scalar k) → Type 0
  Solves a w = Each (λ r. dot (scalars k) a.cols (vector k r) w ≡ (scalars k).zero) (rows_of a)

  -- a system of equations for the polynomials that satisfy P
  pub record AreEquations (ts : List Key) (P : Vect k → Type 0) (a : Matrix E) : Type 0 where
    pub matrix : IsMatrix k a
    pub cols : a.cols ≡ length ts
    pub solves : (f : Vect k) → Supp k (λ t. In t ts) f → Solves a (coordinates ts f) ↔ P f
