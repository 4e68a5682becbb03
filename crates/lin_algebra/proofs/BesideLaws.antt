-- The rows of two matrices side by side.
use Rattle.std.proofs.Common.{◌≡◌, ℕ, zero, suc, ◌+◌, ◌-◌, ◌*◌, ◌<◌, ◌≤◌, ◌⊎◌, inl, inr, List, [], ◌∷◌, ◌++◌, map, length, drop, get_or, sym, ap, ap₂, ◌∙◌, refl, arith}
use Rattle.std.specs.Prelude.{if◌then◌else◌}
use Rattle.std.specs.List.{AllByRecursion as Each}
use Rattle.std.proofs.lemmas.Bool.{cases_lt}
use Rattle.std.proofs.lemmas.List.{get_or_append_left, get_or-append_right, length-append, take_all, get_or-take, get_or-drop}
use Rattle.std.proofs.lemmas.List.Elements.{All-append}
use Rattle.alg_core.specs.Fields.{FieldOn, Has, scalar}
use Rattle.alg_core.proofs.NumberTests.{is_below, not_below}
use Rattle.lin_algebra.specs.declared.matrix.Matrix.{Matrix}
use Rattle.lin_algebra.specs.Vectors.{vector, IsRow}
use Rattle.lin_algebra.specs.Matrices.{rows_of, joined, beside, entries, IsMatrix}
use Rattle.lin_algebra.proofs.CutLaws.{cut_at, listing, listing_same, listing_of_list, length_cut, IsRow_rows_of, IsRow_row}

pub beside_left : {K : Type 0} (n : ℕ) (u v : ℕ → K) (j : ℕ) → j < n → beside n u v j ≡ u j
beside_left n u v j h = ap (λ t. if t then u j else v (j - n)) (is_below j n h)

pub beside_right : {K : Type 0} (n : ℕ) (u v : ℕ → K) (j : ℕ) → n ≤ j → beside n u v j ≡ v (j - n)
beside_right n u v j h = ap (λ t. if t then u j else v (j - n)) (not_below j n h)

module _ {E : Type 0} where
  pub length_joined : (xs ys : List (List E)) → length (joined xs ys) ≡ length xs
  length_joined [] ys = refl
  length_joined (x ∷ xs) [] = refl
  length_joined (x ∷ xs) (y ∷ ys) = ap suc (length_joined xs ys)

  pub joined_at : (xs ys : List (List E)) (i : ℕ) → i < length xs → i < length ys → get_or (joined xs ys) i [] ≡ get_or xs i [] ++ get_or ys i []
  joined_at [] ys i h g = absurd (omega arith)
  joined_at (x ∷ xs) [] i h g = absurd (omega arith)
  joined_at (x ∷ xs) (y ∷ ys) zero h g = refl
  joined_at (x ∷ xs) (y ∷ ys) (suc i) h g = joined_at xs ys i (omega arith) (omega arith)

module _ {E : Type 0} (k : FieldOn E) where
  IsRow_append : (n m : ℕ) (x y : List E) → IsRow k n x → IsRow k m y → IsRow k (n + m) (x ++ y)
  IsRow_append n m x y h g = record {
    count = let left = h.count in let right = g.count in length-append x y ∙ omega (arith, left, right);
    has = All-append (Has k) x y h.has g.has;
  }

  IsRow_joined : (n m : ℕ) (xs ys : List (List E)) → length ys ≡ length xs → Each (IsRow k n) xs → Each (IsRow k m) ys → Each (IsRow k (n + m)) (joined xs ys)
  IsRow_joined n m [] ys e h g = tt
  IsRow_joined n m (x ∷ xs) [] e h g = absurd (omega arith)
  IsRow_joined n m (x ∷ xs) (y ∷ ys) e h g = (IsRow_append n m x y h.0 g.0, IsRow_joined n m xs ys (omega arith) h.1 g.1)

  pub IsRow_beside : (a c : Matrix E) → IsMatrix k a → IsMatrix k c → c.rows ≡ a.rows → Each (IsRow k (a.cols + c.cols)) (joined (rows_of a) (rows_of c))
  IsRow_beside a c h g same =
      IsRow_joined a.cols c.cols (rows_of a) (rows_of c) (omega (arith, same, length_cut a.rows a.cols a.cells.items, length_cut c.rows c.cols c.cells.items)) (IsRow_rows_of k a h) (IsRow_rows_of k c g)

  -- one row after another, as vectors
  pub vector_append : (n : ℕ) (x y : List E) → length x ≡ n → vector k (x ++ y) ≡ beside n (vector k x) (vector k y)
  vector_append n x y e = λ t j. (at j (cases_lt j n)) t
    where
      at : (j : ℕ) → (j < n) ⊎ (n ≤ j) → vector k (x ++ y) j ≡ beside n (vector k x) (vector k y) j
      at j (inl b) = ap (scalar k) (get_or_append_left x y k.zero j (omega (arith, e))) ∙ sym (beside_left n (vector k x) (vector k y) j b)
      at j (inr b) = ap (scalar k) (get_or-append_right x y n j k.zero e b) ∙ sym (beside_right n (vector k x) (vector k y) j b)

  -- the rows side by side, as vectors
  pub vectors_beside : (a c : Matrix E) → IsMatrix k a → c.rows ≡ a.rows → map (vector k) (joined (rows_of a) (rows_of c)) ≡ listing (λ i. beside a.cols (entries k a i) (entries k c i)) a.rows
  vectors_beside a c h same =
      let count = length_cut a.rows a.cols a.cells.items in
      let right_count = length_cut c.rows c.cols c.cells.items in
      let whole = length_joined (rows_of a) (rows_of c) in
      ap (map (vector k)) (sym (take_all a.rows (joined (rows_of a) (rows_of c)) (omega (arith, count, whole))))
      ∙ listing_of_list (vector k) (joined (rows_of a) (rows_of c)) [] a.rows (omega (arith, count, whole))
      ∙ listing_same _ _ a.rows (λ i b. ap (vector k) (joined_at (rows_of a) (rows_of c) i (omega (arith, count)) (omega (arith, right_count, same)))
      ∙ vector_append a.cols (get_or (rows_of a) i []) (get_or (rows_of c) i []) (IsRow_row k a i (get_or (rows_of a) i []) h b refl).count)

  -- a list of values as a column
  pub column_entries : (m : Matrix E) (bs : List E) (i : ℕ) → m.cols ≡ 1 → m.cells.items ≡ bs → i < m.rows → entries k m i 0 ≡ vector k bs i
  column_entries m bs i one is inside =
      let place : i * m.cols + 0 ≡ i = omega (arith, ap (λ n. i * n) one) in
      let wide : 0 < m.cols = omega (arith, one) in
      ap (scalar k) (ap (λ r. get_or r 0 k.zero) (cut_at m.rows m.cols i m.cells.items [] inside) ∙ get_or-take m.cols (drop (i * m.cols) m.cells.items) 0 k.zero wide ∙ get_or-drop (i * m.cols) m.cells.items 0 k.zero ∙ ap₂ (λ l n. get_or l n k.zero) is place)
