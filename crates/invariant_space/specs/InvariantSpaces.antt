-- The invariants of one degree.
--
--   IsOfDegree n d t        the key t is a monomial of degree d in the first n variables
--   IsInvariantForm k n gens d f   f is a homogeneous polynomial of degree d in the first n variables, or 0, and is
--                           invariant under each of the matrices
--   IsEchelonBasis S gens d vs     vs is the echelon basis of these, by the order of the space S: they span all of
--                           them, and are themselves such; their leads fall, their lead coefficients are 1, and no
--                           lead is a term of another
use Rattle.std.specs.Prelude.{◌≡◌, ◌≤◌, ℕ, List, length, replicate}
use Rattle.alg_core.specs.Fields.{FieldOn}
use Rattle.alg_core.specs.Keys.{Key}
use Rattle.alg_core.specs.Spaces.{SpaceOver}
use Rattle.alg_core.specs.SpaceOrder.{key_order}
use Rattle.alg_core.specs.Vectors.{Vect}
use Rattle.poly_module.specs.Echelons.{IsEchelon}
use Rattle.poly_module.specs.Forms.{key_weight, IsForm}
use Rattle.poly_module.specs.Parts.{InVariables}
use Rattle.lin_algebra.specs.declared.matrix.Matrix.{Matrix}
use Rattle.matrix_group.specs.Actions.{Invariant}

-- a monomial of degree d in the first n variables, each of which has the degree 1
pub record IsOfDegree (n d : ℕ) (t : Key) : Type 0 where
  pub position : t.0 ≡ 0
  pub variables : length t.1.0 ≤ n
  pub degree : key_weight (replicate n 1) t ≡ d

-- a homogeneous invariant of degree d, or 0
pub record IsInvariantForm {E : Type 0} (k : FieldOn E) (n : ℕ) (gens : List (Matrix E)) (d : ℕ) (f : Vect k) : Type 0 where
  pub form : IsForm k (replicate n 1) d f
  pub variables : InVariables k n f
  pub invariant : Invariant k gens f

-- the echelon basis of the homogeneous invariants of degree d
abbrev pub IsEchelonBasis : {E : Type 0} (S : SpaceOver E) → List (Matrix E) → ℕ → List (Vect S.field) → Type 0
IsEchelonBasis S gens d vs = IsEchelon S.field (key_order S) (IsInvariantForm S.field (length S.weights) gens d) vs
