-- Matrices of n rows and n columns as the lists of their cells: what stands where, and the laws of the product.
use Rattle.matrix_group.proofs.Common.{◌≡◌, ℕ, zero, suc, ◌*◌, ◌<◌, List, [], ◌∷◌, ◌++◌, length, take, drop, get_or, All, sym, ap, ap₂, ◌∙◌, refl, arith, take-append-drop, flat_map, Each, length-take-le, length-drop, ext_get_or, All-take, All-drop, All-from_recursion, Ring, FieldOn, Has, Scalar, scalars, scalar, scalar_value, scalar_of_value, Matrix, dot, unit, vector, IsRow, cut, dot_same, dot_comm, dot_zero, dot_add, dot_act, dot_unit, unit_comm, listing, listing_same, length_listing, get_or-listing, length_cut, cut_flat, length_flat, IsSquare, entry, made, identity, times, IsCells}
use Rattle.lin_algebra.specs.Matrices.{entries, product}
use Rattle.lin_algebra.proofs.EachLaws.{Each_append}
use Rattle.lin_algebra.proofs.KernelOf.{Each_listing}

-- two finite sums are exchanged
pub dot_swap : {K : Type 0} (R : Ring K) (n m : ℕ) (u : ℕ → K) (b : ℕ → ℕ → K) (w : ℕ → K) → dot R m (λ l. dot R n u (λ p. b p l)) w ≡ dot R n u (λ p. dot R m (b p) w)
dot_swap R zero m u b w = dot_zero R m (λ l. R.zero) w (λ j _. refl)
dot_swap R (suc n) m u b w = dot_add R m (λ l. dot R n u (λ p. b p l)) (λ l. R.◌*◌ (u n) (b n l)) w ∙ ap₂ R.◌+◌ (dot_swap R n m u b w) (dot_act R m (u n) (b n) w)

-- the product of matrices is associative
pub product_assoc : {K : Type 0} (R : Ring K) (n : ℕ) (a b c : ℕ → ℕ → K) (i j : ℕ) → product R n (product R n a b) c i j ≡ product R n a (product R n b c) i j
product_assoc R n a b c i j = dot_swap R n n (a i) b (λ l. c l j)

Each_flat : {A : Type 0} (P : A → Type 0) (xss : List (List A)) → Each (Each P) xss → Each P (flat_map (λ x. x) xss)
Each_flat P [] h = tt
Each_flat P (x ∷ xss) h = Each_append P x (flat_map (λ x. x) xss) h.0 (Each_flat P xss h.1)

-- the pieces of a list, one after another
flat_cut : {A : Type 0} (n c : ℕ) (xs : List A) → length xs ≡ n * c → flat_map (λ x. x) (cut n c xs) ≡ xs
flat_cut zero c [] h = refl
flat_cut zero c (x ∷ xs) h = absurd (omega arith)
flat_cut (suc n) c xs h = ap (λ l. take c xs ++ l) (flat_cut n c (drop c xs) (length-drop c xs ∙ omega (arith, h))) ∙ take-append-drop c xs

module _ {E : Type 0} (k : FieldOn E) (n : ℕ) where
  abbrev Entries : Type 0
  Entries = ℕ → ℕ → Scalar k

  -- the row that a function makes
  abbrev row : Entries → ℕ → List E
  row a i = listing (λ j. (a i j).0) n

  row_long : (a : Entries) → Each (λ r. length r ≡ n) (listing (row a) n)
  row_long a = Each_listing (λ r. length r ≡ n) (row a) n (λ i _. length_listing (λ j. (a i j).0) n)

  row_has : (a : Entries) → Each (Each (Has k)) (listing (row a) n)
  row_has a = Each_listing (Each (Has k)) (row a) n (λ i _. Each_listing (Has k) (λ j. (a i j).0) n (λ j _. (a i j).1))

  cut_made : (a : Entries) → cut n n (made k n a) ≡ listing (row a) n
  cut_made a = ap (λ m. cut m n (made k n a)) (sym (length_listing (row a) n)) ∙ cut_flat n (listing (row a) n) (row_long a)

  -- the cells that a function makes have its values
  pub entry_made : (a : Entries) (i j : ℕ) → i < n → j < n → entry k n (made k n a) i j ≡ a i j
  entry_made a i j h g =
      ap (λ rs. vector k (get_or rs i []) j) (cut_made a) ∙ ap (λ r. vector k r j) (get_or-listing (row a) n i [] h)
      ∙ ap (scalar k) (get_or-listing (λ j. (a i j).0) n j k.zero g) ∙ scalar_of_value k (a i j)

  pub cells_made : (a : Entries) → IsCells k n (made k n a)
  cells_made a = record {
    count = length_flat n (listing (row a) n) (row_long a) ∙ ap (λ m. m * n) (length_listing (row a) n);
    has = All-from_recursion (Has k) (made k n a) (Each_flat (Has k) (listing (row a) n) (row_has a));
  }

  pub made_same : (a b : Entries) → ((i j : ℕ) → i < n → j < n → a i j ≡ b i j) → made k n a ≡ made k n b
  made_same a b h = ap (flat_map (λ r. r)) (listing_same (row a) (row b) n (λ i p. listing_same (λ j. (a i j).0) (λ j. (b i j).0) n (λ j q. ap (λ u. u.0) (h i j p q))))

  -- a row is made of its entries
  row_of : (r : List E) → IsRow k n r → listing (λ j. (vector k r j).0) n ≡ r
  row_of r h = ext_get_or k.zero (listing (λ j. (vector k r j).0) n) r (length_listing (λ j. (vector k r j).0) n ∙ sym h.count)
      (λ j b. let inside : j < n = omega (arith, length_listing (λ j. (vector k r j).0) n) in
      let count = h.count in
      get_or-listing (λ j. (vector k r j).0) n j k.zero inside ∙ scalar_value k (get_or r j k.zero) (h.has j k.zero (omega arith)))

  rows_of_cells : (m : ℕ) (xs : List E) → length xs ≡ m * n → All (Has k) xs → Each (IsRow k n) (cut m n xs)
  rows_of_cells zero xs h g = tt
  rows_of_cells (suc m) xs h g = (
    record { count = length-take-le n xs (omega (arith, h)); has = All-take (Has k) n xs g },
    rows_of_cells m (drop n xs) (length-drop n xs ∙ omega (arith, h)) (All-drop (Has k) n xs g),
  )

  -- cells are made of their entries
  pub made_entry : (g : List E) → IsCells k n g → made k n (entry k n g) ≡ g
  made_entry g h = ap (flat_map (λ r. r)) (sym same) ∙ flat_cut n n g h.count
    where
      same : cut n n g ≡ listing (row (entry k n g)) n
      same = ext_get_or [] (cut n n g) (listing (row (entry k n g)) n) (length_cut n n g ∙ sym (length_listing (row (entry k n g)) n))
          (λ i b. let inside : i < n = omega (arith, length_cut n n g) in
          sym (get_or-listing (row (entry k n g)) n i [] inside ∙ row_of (get_or (cut n n g) i []) (All-from_recursion (IsRow k n) (cut n n g) (rows_of_cells n g h.count h.has) i [] b)))

  -- the cells of a matrix of the program
  pub cells_of_matrix : (m : Matrix E) → IsSquare k n m → IsCells k n m.cells.items
  cells_of_matrix m h = record { count = h.matrix.whole ∙ ap₂ ◌*◌ h.rows h.cols; has = h.matrix.has }

  pub entries_of_matrix : (m : Matrix E) → IsSquare k n m → entries k m ≡ entry k n m.cells.items
  entries_of_matrix m h = ap₂ (λ r c i. vector k (get_or (cut r c m.cells.items) i [])) h.rows h.cols

  pub identity_cells : IsCells k n (identity k n)
  unfolding identity
  identity_cells = cells_made (unit (scalars k))

  pub times_cells : (g h : List E) → IsCells k n (times k n g h)
  unfolding times
  times_cells g h = cells_made (product (scalars k) n (entry k n g) (entry k n h))

  pub entry_times : (g h : List E) (i j : ℕ) → i < n → j < n → entry k n (times k n g h) i j ≡ product (scalars k) n (entry k n g) (entry k n h) i j
  unfolding times
  entry_times g h = entry_made (product (scalars k) n (entry k n g) (entry k n h))

  pub entry_identity : (i j : ℕ) → i < n → j < n → entry k n (identity k n) i j ≡ unit (scalars k) i j
  unfolding identity
  entry_identity = entry_made (unit (scalars k))

  -- a matrix of the program that is the product has its cells
  pub times_is : (p a b : Matrix E) → IsSquare k n p → IsSquare k n a → IsSquare k n b → entries k p ≡ product (scalars k) a.cols (entries k a) (entries k b) → p.cells.items ≡ times k n a.cells.items b.cells.items
  unfolding times
  times_is p a b hp ha hb e =
      sym (made_entry p.cells.items (cells_of_matrix p hp))
      ∙ ap (made k n) (sym (entries_of_matrix p hp) ∙ e ∙ ap (λ m. product (scalars k) m (entries k a) (entries k b)) ha.cols ∙ ap₂ (product (scalars k) n) (entries_of_matrix a ha) (entries_of_matrix b hb))

  pub identity_is : (m : Matrix E) → IsSquare k n m → ((i : ℕ) → i < n → entries k m i ≡ unit (scalars k) i) → m.cells.items ≡ identity k n
  unfolding identity
  identity_is m hm e =
      sym (made_entry m.cells.items (cells_of_matrix m hm))
      ∙ made_same (entry k n m.cells.items) (unit (scalars k)) (λ i j p q. ap (λ a. a i j) (sym (entries_of_matrix m hm)) ∙ ap (λ u. u j) (e i p))

  -- cells with the same entries are the same
  pub cells_same : (g h : List E) → IsCells k n g → IsCells k n h → ((i j : ℕ) → i < n → j < n → entry k n g i j ≡ entry k n h i j) → g ≡ h
  cells_same g h p q e = sym (made_entry g p) ∙ made_same (entry k n g) (entry k n h) e ∙ made_entry h q

  pub times_assoc : (f g h : List E) → times k n (times k n f g) h ≡ times k n f (times k n g h)
  times_assoc f g h = cells_same _ _ (times_cells (times k n f g) h) (times_cells f (times k n g h)) (λ i j p q.
      entry_times (times k n f g) h i j p q
      ∙ dot_same (scalars k) n (entry k n (times k n f g) i) (product (scalars k) n (entry k n f) (entry k n g) i) (λ l. entry k n h l j) (λ l. entry k n h l j) (λ l r. entry_times f g i l p r) (λ _ _. refl)
      ∙ product_assoc (scalars k) n (entry k n f) (entry k n g) (entry k n h) i j
      ∙ dot_same (scalars k) n (entry k n f i) (entry k n f i) (λ l. product (scalars k) n (entry k n g) (entry k n h) l j) (λ l. entry k n (times k n g h) l j) (λ _ _. refl) (λ l r. sym (entry_times g h l j r q))
      ∙ sym (entry_times f (times k n g h) i j p q))

  pub identity_times : (g : List E) → IsCells k n g → times k n (identity k n) g ≡ g
  identity_times g c = cells_same _ _ (times_cells (identity k n) g) c (λ i j p q.
      entry_times (identity k n) g i j p q
      ∙ dot_same (scalars k) n (entry k n (identity k n) i) (unit (scalars k) i) (λ l. entry k n g l j) (λ l. entry k n g l j) (λ l r. entry_identity i l p r) (λ _ _. refl)
      ∙ dot_comm (scalars k) n (unit (scalars k) i) (λ l. entry k n g l j)
      ∙ dot_unit (scalars k) n (λ l. entry k n g l j) i p)

  pub times_identity : (g : List E) → IsCells k n g → times k n g (identity k n) ≡ g
  times_identity g c = cells_same _ _ (times_cells g (identity k n)) c (λ i j p q.
      entry_times g (identity k n) i j p q
      ∙ dot_same (scalars k) n (entry k n g i) (entry k n g i) (λ l. entry k n (identity k n) l j) (unit (scalars k) j) (λ _ _. refl) (λ l r. entry_identity l j r q ∙ unit_comm (scalars k) l j)
      ∙ dot_unit (scalars k) n (entry k n g i) j q)
