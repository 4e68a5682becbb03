-- A set of matrices, seen as the list of their cells.
use Rattle.matrix_group.proofs.Common.{◌≡◌, ℕ, Bool, true, false, ◌&&◌, ◌||◌, nat_eq, List, [], ◌∷◌, ◌++◌, All, sym, ap, ap₂, ◌∙◌, refl, subst, arith, if◌then◌else◌, list_any, Each, map-append, All-append, All-from_recursion, recursion_from_All, pointwise, insert_key, FieldOn, Exact, Matrix, IsSquare, is_yes, is_same, is_found, with_new, cells_of, are_same}
use Rattle.std.proofs.lemmas.Bool.Decides.{nat_tests}

same_numbers : (a b : ℕ) → a ≡ b → nat_eq a b ≡ true
same_numbers a b e = grind (arith, nat_tests)

module _ {E : Type 0} (k : FieldOn E) (eq : E → E → Bool) (exact : Exact eq) where
  -- a test that tells values apart answers as the field does
  same_values : (a b : E) → eq a b ≡ is_yes (k.same a b)
  same_values a b = go (k.same a b) (eq a b) refl
    where
      go : (d : Dec (a ≡ b)) (t : Bool) → eq a b ≡ t → eq a b ≡ is_yes d
      go (yes p) t e = ap (eq a) (sym p) ∙ exact.1 a
      go (no n) true e = absurd (n (exact.0 a b e))
      go (no n) false e = e

  same_lists : (xs ys : List E) → pointwise eq xs ys ≡ is_same k xs ys
  same_lists xs ys = ap (λ (t : E → E → Bool). pointwise t xs ys) (λ i a b. same_values a b i)

  -- matrices of one size are the same where their cells are
  matrix_same : (n : ℕ) (a b : Matrix E) → IsSquare k n a → IsSquare k n b → are_same eq a b ≡ is_same k a.cells.items b.cells.items
  matrix_same n a b p q =
      ap₂ (λ s t. s && (t && pointwise eq a.cells.items b.cells.items)) (same_numbers _ _ (p.rows ∙ sym q.rows)) (same_numbers _ _ (p.cols ∙ sym q.cols)) ∙ same_lists a.cells.items b.cells.items

  found_same : (n : ℕ) (m : Matrix E) (ms : List (Matrix E)) → IsSquare k n m → Each (IsSquare k n) ms → list_any (are_same eq m) ms ≡ is_found k (cells_of ms) m.cells.items
  found_same n m [] p h = refl
  found_same n m (x ∷ ms) p h = ap₂ ◌||◌ (matrix_same n m x p h.0) (found_same n m ms p h.1)

  -- a matrix that is put into the set is put into the list of cells
  pub cells_put : (n : ℕ) (m : Matrix E) (ms new : List (Matrix E)) → IsSquare k n m → All (IsSquare k n) ms → new ≡ insert_key (are_same eq) ms m → cells_of new ≡ with_new k (cells_of ms) m.cells.items
  cells_put n m ms new p h is =
      ap cells_of is ∙ go (list_any (are_same eq m) ms) ∙ ap (λ b. if b then cells_of ms else (cells_of ms ++ m.cells.items ∷ [])) (found_same n m ms p (recursion_from_All (IsSquare k n) ms h))
    where
      go : (b : Bool) → cells_of (if b then ms else (ms ++ m ∷ [])) ≡ (if b then cells_of ms else (cells_of ms ++ m.cells.items ∷ []))
      go true = refl
      go false = map-append (λ (x : Matrix E). x.cells.items) ms (m ∷ [])

  pub square_put : (n : ℕ) (m : Matrix E) (ms new : List (Matrix E)) → IsSquare k n m → All (IsSquare k n) ms → new ≡ insert_key (are_same eq) ms m → All (IsSquare k n) new
  square_put n m ms new p h is = subst (All (IsSquare k n)) (sym is) (go (list_any (are_same eq m) ms))
    where
      go : (b : Bool) → All (IsSquare k n) (if b then ms else (ms ++ m ∷ []))
      go true = h
      go false = All-append (IsSquare k n) ms (m ∷ []) h (All-from_recursion (IsSquare k n) (m ∷ []) (p, tt))
