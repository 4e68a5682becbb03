-- Tests of homogeneous polynomials.
--
--   IsFormFrom S least v             v is not 0, and homogeneous in the space S, of a degree from least on
--   IsInvariantFrom S gens least v   it is so, and its own image under each of the matrices gens
--   IsLiftAt S M vs f                f is so in the space M, and its value is 0 where vs stand for the variables, over S
use Rattle.std.specs.Prelude.{◌≡◌, ◌≤◌, ℕ, List}
use Rattle.alg_core.specs.Spaces.{SpaceOver}
use Rattle.alg_core.specs.Vectors.{Vect, zero_vector}
use Rattle.alg_core.specs.declared.term.Term.{Term}
use Rattle.poly_module.specs.Degrees.{IsHomogeneous}
use Rattle.poly_module.specs.SpaceVectors.{vector_of, vectors_of}
use Rattle.poly_module.specs.Substitutions.{substitute}
use Rattle.lin_algebra.specs.declared.matrix.Matrix.{Matrix}
use Rattle.matrix_group.specs.Actions.{Invariant}

module _ {E : Type 0} (S : SpaceOver E) where
  pub record IsFormFrom (least : ℕ) (v : Vect S.field) : Type 0 where
    pub not_zero : ¬ (v ≡ zero_vector S.field)
    pub degree : ℕ
    pub from : least ≤ degree
    pub homogeneous : IsHomogeneous S degree v

  abbrev pub IsInvariantFrom : List (Matrix E) → ℕ → Vect S.field → Type 0
  IsInvariantFrom gens least v = IsFormFrom least v × Invariant S.field gens v

abbrev pub IsLiftAt : SpaceOver ℕ → SpaceOver ℕ → List (List (Term ℕ (List ℕ))) → List (Term ℕ (List ℕ)) → Type 0
IsLiftAt S M images f = IsFormFrom M 0 (vector_of M (λ m. m) f)
    × (substitute S.field (vectors_of S (λ m. m) images) (vector_of S (λ m. m) f) ≡ zero_vector S.field)
