-- A list of cells cut into rows.
use Rattle.std.proofs.Common.{◌≡◌, ℕ, zero, suc, ◌+◌, ◌*◌, ◌-◌, ◌<◌, ◌≤◌, ◌⊎◌, inl, inr, List, [], ◌∷◌, ◌++◌, map, length, take, drop, get_or, All, sym, ap, ap₂, ◌∙◌, refl, arith, subst}
use Rattle.std.specs.List.{flat_map, AllByRecursion as Each}
use Rattle.std.proofs.lemmas.List.{drop-drop, length-take-le, length-drop, length-append, take_at, drop_at, get_or_past, map_more, take_all, take_more, map-append, get_or-map, get_or_append_left, get_or_push, take-append-le, drop-append-le}
use Rattle.std.proofs.lemmas.Bool.{cases_lt}
use Rattle.std.proofs.lemmas.List.Elements.{All-take, All-drop, All-from_recursion}
use Rattle.alg_core.specs.Fields.{FieldOn, Has, Scalar, scalars, scalar_zero}
use Rattle.lin_algebra.specs.declared.matrix.Matrix.{Matrix}
use Rattle.lin_algebra.specs.Vectors.{vector, IsRow}
use Rattle.lin_algebra.specs.Matrices.{cut, rows_of, entries, vectors_of, IsMatrix}

-- the first n values of a function
abbrev pub listing : {A : Type 0} → (ℕ → A) → ℕ → List A
listing f zero = []
listing f (suc n) = listing f n ++ f n ∷ []

pub listing_same : {A : Type 0} (f g : ℕ → A) (n : ℕ) → ((i : ℕ) → i < n → f i ≡ g i) → listing f n ≡ listing g n
listing_same f g zero h = refl
listing_same f g (suc n) h = ap₂ (λ l x. l ++ x ∷ []) (listing_same f g n (λ i b. h i (omega arith))) (h n (omega arith))

pub length_listing : {A : Type 0} (f : ℕ → A) (n : ℕ) → length (listing f n) ≡ n
length_listing f zero = refl
length_listing f (suc n) = length-append (listing f n) (f n ∷ []) ∙ omega (arith, length_listing f n)

-- a list by its places
pub listing_of_list : {A B : Type 0} (f : A → B) (l : List A) (d : A) (n : ℕ) → n ≤ length l → map f (take n l) ≡ listing (λ i. f (get_or l i d)) n
listing_of_list f l d zero h = refl
listing_of_list f l d (suc n) h =
    ap (λ m. map f (take m l)) one ∙ map_more f l n d (omega arith) ∙ ap (λ m. m ++ f (get_or l n d) ∷ []) (listing_of_list f l d n (omega arith))
  where
    one : suc n ≡ n + 1
    one = omega arith

module _ {E : Type 0} where
  pub length_cut : (n c : ℕ) (xs : List E) → length (cut n c xs) ≡ n
  length_cut zero c xs = refl
  length_cut (suc n) c xs = ap suc (length_cut n c (drop c xs))

  pub cut_at : (n c i : ℕ) (xs : List E) (d : List E) → i < n → get_or (cut n c xs) i d ≡ take c (drop (i * c) xs)
  cut_at zero c i xs d h = absurd (omega arith)
  cut_at (suc n) c zero xs d h = ap (λ m. take c (drop m xs)) none
    where
      none : 0 ≡ 0 * c
      none = omega arith
  cut_at (suc n) c (suc i) xs d h = cut_at n c i (drop c xs) d (omega arith) ∙ ap (take c) (drop-drop (i * c) c xs) ∙ ap (λ m. take c (drop m xs)) more
    where
      more : c + i * c ≡ suc i * c
      more = omega arith

  -- the part of the cells that is a row
  pub row_slice : (n c i : ℕ) (xs seen : List E) → i < n → seen ≡ xs → take ((i + 1) * c - i * c) (drop (i * c) seen) ≡ get_or (cut n c xs) i []
  row_slice n c i xs seen h e =
      let wide : (i + 1) * c - i * c ≡ c = omega arith in
      ap₂ (λ m l. take m (drop (i * c) l)) wide e ∙ sym (cut_at n c i xs [] h)

  pub length_cut_rows : (n c : ℕ) (xs : List E) → length xs ≡ n * c → Each (λ r. length r ≡ c) (cut n c xs)
  length_cut_rows zero c xs h = tt
  length_cut_rows (suc n) c xs h = (length-take-le c xs (omega (arith, h)), length_cut_rows n c (drop c xs) (length-drop c xs ∙ omega (arith, h)))

  -- lists of one length, one after another, are cut into themselves
  pub cut_flat : (c : ℕ) (xss : List (List E)) → Each (λ r. length r ≡ c) xss → cut (length xss) c (flat_map (λ x. x) xss) ≡ xss
  cut_flat c [] h = refl
  cut_flat c (x ∷ xss) h = ap₂ ◌∷◌ (take_at x (flat_map (λ x. x) xss) c h.0) (ap (cut (length xss) c) (drop_at x (flat_map (λ x. x) xss) c h.0) ∙ cut_flat c xss h.1)

  pub length_flat : (c : ℕ) (xss : List (List E)) → Each (λ r. length r ≡ c) xss → length (flat_map (λ x. x) xss) ≡ length xss * c
  length_flat c [] h = omega arith
  length_flat c (x ∷ xss) h = length-append x (flat_map (λ x. x) xss) ∙ omega (arith, h.0, length_flat c xss h.1)

module _ {E : Type 0} (k : FieldOn E) where
  IsRow_cut : (n c : ℕ) (xs : List E) → length xs ≡ n * c → All (Has k) xs → Each (IsRow k c) (cut n c xs)
  IsRow_cut zero c xs h g = tt
  IsRow_cut (suc n) c xs h g = (
    record { count = length-take-le c xs (omega (arith, h)); has = All-take (Has k) c xs g },
    IsRow_cut n c (drop c xs) (length-drop c xs ∙ omega (arith, h)) (All-drop (Has k) c xs g),
  )

  -- the rows of a matrix are rows of its field
  pub IsRow_rows_of : (m : Matrix E) → IsMatrix k m → Each (IsRow k m.cols) (rows_of m)
  IsRow_rows_of m h = IsRow_cut m.rows m.cols m.cells.items h.whole h.has

  -- outside the matrix
  pub entries_below : (m : Matrix E) (i j : ℕ) → m.rows ≤ i → entries k m i j ≡ (scalars k).zero
  entries_below m i j h = ap (λ r. vector k r j) (get_or_past (rows_of m) i [] (omega (arith, length_cut m.rows m.cols m.cells.items))) ∙ scalar_zero k

  -- the vectors of the rows are the first functions of the entries
  pub vectors_of_listing : (m : Matrix E) → vectors_of k m ≡ listing (entries k m) m.rows
  vectors_of_listing m =
      ap (map (vector k)) (sym (take_all m.rows (rows_of m) (omega (arith, length_cut m.rows m.cols m.cells.items)))) ∙ listing_of_list (vector k) (rows_of m) [] m.rows (omega (arith, length_cut m.rows m.cols m.cells.items))

  -- a row of the matrix is a row of its field
  pub IsRow_row : (m : Matrix E) (i : ℕ) (seen : List E) → IsMatrix k m → i < m.rows → seen ≡ get_or (rows_of m) i [] → IsRow k m.cols seen
  IsRow_row m i seen h inside e = subst (IsRow k m.cols) (sym e) (All-from_recursion (IsRow k m.cols) (rows_of m) (IsRow_rows_of m h) i [] (omega (arith, length_cut m.rows m.cols m.cells.items)))

-- one piece more is made
pub listed_more : {A B : Type 0} (f : A → B) (made new : List A) (x : A) (all : List B) (i : ℕ) (d : B) → i < length all → new ≡ made ++ x ∷ [] → map f made ≡ take i all → f x ≡ get_or all i d → map f new ≡ take (i + 1) all
listed_more f made new x all i d inside is was e = ap (map f) is ∙ map-append f made (x ∷ []) ∙ ap₂ (λ l y. l ++ y ∷ []) was e ∙ sym (take_more all i d inside)

pub get_or-listing : {A : Type 0} (f : ℕ → A) (n i : ℕ) (d : A) → i < n → get_or (listing f n) i d ≡ f i
get_or-listing f zero i d h = absurd (omega arith)
get_or-listing f (suc n) i d h = go (get_or-listing f n i d) (cases_lt i n)
  where
    go : (i < n → get_or (listing f n) i d ≡ f i) → (i < n) ⊎ (n ≤ i) → get_or (listing f n ++ f n ∷ []) i d ≡ f i
    go before (inl b) = get_or_append_left (listing f n) (f n ∷ []) d i (omega (arith, length_listing f n)) ∙ before b
    go before (inr b) = let same : i ≡ n = omega arith in get_or_push (listing f n) (f n) d i (length_listing f n ∙ sym same) ∙ ap f (sym same)

-- the cells of one row more
pub cut_more : {E : Type 0} (n c : ℕ) (xs r : List E) → length xs ≡ n * c → length r ≡ c → cut (n + 1) c (xs ++ r) ≡ cut n c xs ++ r ∷ []
cut_more {E} n c xs r h g = ap (λ m. cut m c (xs ++ r)) one ∙ go n xs h
  where
    one : n + 1 ≡ suc n
    one = omega arith

    go : (n : ℕ) (xs : List E) → length xs ≡ n * c → cut (suc n) c (xs ++ r) ≡ cut n c xs ++ r ∷ []
    go zero [] h = ap (λ l. l ∷ []) (take_all c r (omega arith))
    go zero (x ∷ xs) h = absurd (omega arith)
    go (suc n) xs h = ap₂ ◌∷◌ (take-append-le c xs r (omega (arith, h))) (ap (cut (suc n) c) (drop-append-le c xs r (omega (arith, h))) ∙ go n (drop c xs) (length-drop c xs ∙ omega (arith, h)))

-- and of all rows that are made of them
pub listed_row_more : {E V : Type 0} (f : List E → V) (rows : ℕ → V) (n c : ℕ) (xs new r : List E) → new ≡ xs ++ r → length xs ≡ n * c → length r ≡ c → map f (cut n c xs) ≡ listing rows n → f r ≡ rows n
    → map f (cut (n + 1) c new) ≡ listing rows (n + 1)
listed_row_more f rows n c xs new r is h g was made =
    ap (λ l. map f (cut (n + 1) c l)) is ∙ ap (map f) (cut_more n c xs r h g) ∙ map-append f (cut n c xs) (r ∷ []) ∙ ap₂ (λ l y. l ++ y ∷ []) was made ∙ ap (listing rows) one
  where
    one : suc n ≡ n + 1
    one = omega arith

-- a matrix whose rows are made by a function
pub entries_of_listing : {E : Type 0} (k : FieldOn E) (m : Matrix E) (rows : ℕ → ℕ → Scalar k) → vectors_of k m ≡ listing rows m.rows → (i : ℕ) → i < m.rows → entries k m i ≡ rows i
entries_of_listing k m rows h i b =
    sym (get_or-map (vector k) (rows_of m) i [] (λ j. (scalars k).zero) (omega (arith, length_cut m.rows m.cols m.cells.items))) ∙ ap (λ l. get_or l i (λ j. (scalars k).zero)) h ∙ get_or-listing rows m.rows i (λ j. (scalars k).zero) b
