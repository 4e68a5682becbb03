-- Matrices of one size.
use Rattle.std.proofs.Common.{◌≡◌, ◌<◌, ℕ, List, [], ◌∷◌, length, sym, subst, arith}
use Rattle.std.specs.Prelude.{All}
use Rattle.alg_core.specs.Fields.{FieldOn}
use Rattle.lin_algebra.specs.declared.matrix.Matrix.{Matrix}
use Rattle.matrix_group.specs.Actions.{IsSquare}
use Rattle.matrix_group.specs.Groups.{size}

module _ {E : Type 0} (k : FieldOn E) (n : ℕ) where
  -- the first one tells the size of all
  pub size_is : (ms : List (Matrix E)) → 0 < length ms → All (IsSquare k n) ms → size ms ≡ n
  size_is [] some square = absurd (omega arith)
  size_is (m ∷ ms) some square = (square 0 m (omega arith)).rows

  pub first : (ms : List (Matrix E)) → 0 < length ms → All (IsSquare k n) ms → All (IsSquare k (size ms)) ms
  first ms some square = subst (λ (s : ℕ). All (IsSquare k s) ms) (sym (size_is ms some square)) square
