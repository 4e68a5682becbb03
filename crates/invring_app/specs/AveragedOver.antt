-- What secondary invariants by averages are made of.
--
--   IsAveragedOver S gens R θ B   the elements of R are those of the group that the square matrices gens generate, at least one, each
--                                 with a row for each variable, and R averages over it; θ are homogeneous of positive degrees, of terms
--                                 of the space, and fixed by gens; B are the standard monomials of their ideal, of small degrees
use Rattle.std.specs.Prelude.{◌≡◌, ◌≤◌, ◌<◌, ℕ, List, All, length}
use Rattle.alg_core.specs.Spaces.{SpaceOver}
use Rattle.alg_core.specs.declared.term.Term.{Term}
use Rattle.poly_module.specs.SpaceVectors.{vector_of, vectors_of}
use Rattle.lin_algebra.specs.declared.matrix.Matrix.{Matrix}
use Rattle.matrix_group.specs.Actions.{IsSquare, Invariant}
use Rattle.matrix_group.specs.Groups.{cells_of, size, AreElements}
use Rattle.reynolds_op.specs.Averages.{Averaging, AveragesOn}
use Rattle.finite_certificate.specs.MarkSpaces.{ArePositiveForms}
use Rattle.finite_certificate.specs.StandardMonomials.{AreStandardMonomials}
use Rattle.secondary_gens.specs.Forms.{IsPositiveForm}
use Rattle.invring_app.specs.SmallMonomials.{IsSmallMonomial}

pub record IsAveragedOver {E : Type 0} (S : SpaceOver E) (gens : List (Matrix E)) (R : Averaging E) (θ : List (List (Term E (List ℕ)))) (B : List (List ℕ)) : Type 0 where
  pub some : 0 < length S.weights
  pub few : length S.weights ≤ 12
  pub generators : 0 < length gens
  pub square : All (IsSquare S.field (length S.weights)) gens
  pub averages : AveragesOn S R
  pub sizes : size R.elements ≡ size gens
  pub generated : AreElements S.field (size gens) (cells_of gens) (cells_of R.elements)
  pub positive : All (IsPositiveForm S) θ
  pub degrees : List ℕ
  pub forms : ArePositiveForms S.field (length S.weights) degrees (vectors_of S (λ m. m) θ)
  pub fixed : All (λ p. Invariant S.field gens (vector_of S (λ m. m) p)) θ
  pub standard : AreStandardMonomials S.field (length S.weights) (vectors_of S (λ m. m) θ) B
  pub small : All (IsSmallMonomial (length S.weights)) B
