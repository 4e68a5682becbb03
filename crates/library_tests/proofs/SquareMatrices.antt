-- Matrices of one size act.
use Rattle.std.proofs.Common.{◌≡◌, ◌≤◌, ℕ, List, length, get_or, sym, subst, arith}
use Rattle.std.specs.Prelude.{All}
use Rattle.alg_core.specs.Spaces.{SpaceOver}
use Rattle.lin_algebra.specs.declared.matrix.Matrix.{Matrix}
use Rattle.matrix_group.specs.Actions.{IsSquare, ActsOn}

-- matrices of one size act on polynomials in at least as many variables
pub all_act : {E : Type 0} (S : SpaceOver E) (ms : List (Matrix E)) (n : ℕ) → All (IsSquare S.field n) ms → n ≤ length S.weights → All (ActsOn S) ms
all_act S ms n square few = λ i d h.
    let m = get_or ms i d in
    let here = square i d h in
    let rows : m.rows ≡ n = here.rows in
    record { square = subst (λ (r : ℕ). IsSquare S.field r m) (sym rows) here; within = omega (arith, rows, few) }
