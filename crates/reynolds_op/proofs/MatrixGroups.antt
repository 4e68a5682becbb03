-- Groups of matrices of the program.
use Rattle.reynolds_op.proofs.Common.{◌≡◌, ℕ, List, [], ◌∷◌, ◌++◌, All, sym, ap, ◌∙◌, subst, arith, FieldOn, Matrix, IsSquare, cells_of, size, identity, IsGroup, Contains_nil, IsMatrixGroup}

-- a list into which one member was put
pub put_alone : {A : Type 0} (seen new old : List A) (x : A) → seen ≡ new → new ≡ old ++ x ∷ [] → old ≡ [] → seen ≡ x ∷ []
put_alone seen new old x is more none = is ∙ more ∙ ap (λ l. l ++ x ∷ []) none

module _ {E : Type 0} (k : FieldOn E) (n : ℕ) (ms : List (Matrix E)) (square : All (IsSquare k n) ms) (group : IsGroup k n (cells_of ms)) where
  -- the first matrix tells the size of all
  pub size_is : size ms ≡ n
  size_is = go ms square group
    where
      go : (ms : List (Matrix E)) → All (IsSquare k n) ms → IsGroup k n (cells_of ms) → size ms ≡ n
      go [] s g = absurd (Contains_nil (identity k n) g.one)
      go (m ∷ ms) s g = (s 0 m (omega arith)).rows

  pub is_matrix_group : IsMatrixGroup k (size ms) ms
  is_matrix_group = subst (λ m. IsMatrixGroup k m ms) (sym size_is) (record { square = square; group = group })
