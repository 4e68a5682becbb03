-- Steps of the computation of an average.
use Rattle.reynolds_op.proofs.Common.{◌≡◌, ℕ, ◌+◌, ◌<◌, ◌≤◌, List, [], ◌∷◌, ◌++◌, length, take, get_or, All, refl, sym, ap, ap₂, ◌∙◌, subst, map-append, FieldOn, Vect, plus, SpaceOver, plus_zero, Matrix, IsSquare, act_by, size, cells_of, Averaging, sum_over, ActTogether, AveragesOn, act_cells}
use Rattle.std.proofs.lemmas.List.{take_more}
use Rattle.matrix_group.specs.Actions.{ActsOn}
use Rattle.reynolds_op.proofs.Sums.{sum_append}

module _ {E : Type 0} (k : FieldOn E) where
  -- one image more
  pub sum_step : (n i : ℕ) (ms : List (Matrix E)) (m : Matrix E) (u sum image new : Vect k) → i < length ms → m ≡ get_or ms i m → All (IsSquare k n) ms
      → sum ≡ sum_over k n (cells_of (take i ms)) u → image ≡ act_by k m u → new ≡ plus k sum image → new ≡ sum_over k n (cells_of (take (i + 1) ms)) u
  sum_step n i ms m u sum image new inside read square was acted is =
      let own : IsSquare k n m = subst (IsSquare k n) (sym read) (square i m inside) in
      let more : take (i + 1) ms ≡ take i ms ++ m ∷ [] = take_more ms i m inside ∙ ap (λ x. take i ms ++ x ∷ []) (sym read) in
      is ∙ ap₂ (plus k) was (acted ∙ act_cells k n m own u ∙ sym (plus_zero k _)) ∙ sym (sum_append k _ (cells_of (take i ms)) (m.cells.items ∷ []))
      ∙ ap (λ l. sum_over k n l u) (sym (ap cells_of more ∙ map-append (λ x. x.cells.items) (take i ms) (m ∷ [])))

module _ {E : Type 0} (S : SpaceOver E) where
  -- each of the matrices acts
  pub acts_at : (ms : List (Matrix E)) (i : ℕ) (m : Matrix E) → i < length ms → m ≡ get_or ms i m → ActTogether S ms → ActsOn S m
  acts_at ms i m inside read h =
      let own : IsSquare S.field (size ms) m = subst (IsSquare S.field (size ms)) (sym read) (h.square i m inside) in
      record {
        square = record { matrix = own.matrix; rows = refl; cols = own.cols ∙ sym own.rows };
        within = subst (λ n. n ≤ length S.weights) (sym own.rows) h.within;
      }

  pub together : (R : Averaging E) → AveragesOn S R → ActTogether S R.elements
  together R h = record { square = h.averaging.elements.square; within = h.within }
