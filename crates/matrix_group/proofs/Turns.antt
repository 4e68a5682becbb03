-- One turn of the walk in the code: an element of the set is multiplied by each generator.
use Rattle.matrix_group.proofs.Common.{◌≡◌, ℕ, suc, ◌+◌, ◌<◌, ◌≤◌, true, false, Bool, List, [], ◌∷◌, ◌++◌, length, get_or, slice_get, Some, take, All, sym, ap, ap₂, ◌∙◌, refl, subst, arith, Ok, Err, Result, if◌then◌else◌, list_any, length-map, length-append, get_or-map, take_all, insert_key, FieldOn, Exact, scalars, Matrix, unit, IsMatrix, IsSquare, size, cells_of, identity, times, with_new, IsOverOrder, walk, IsWalk, are_same, All-cons, All-nil}
use Rattle.std.specs.Result.{IsErrAnd}
use Rattle.std.proofs.lemmas.Option.{get_or_from_slice_get}
use Rattle.lin_algebra.specs.Matrices.{entries, product}
use Rattle.matrix_group.proofs.Cells.{times_is, identity_is}
use Rattle.matrix_group.proofs.Insertions.{cells_put, square_put}
use Rattle.matrix_group.proofs.Walks.{with_each, with_each_more, with_each_start, IsStage, stage_start, stage_part, stage_walk, stage_at, stage_over_order, walk_stage}

-- an error that is handed on
pub error_same : {X F : Type 0} (r : Result X F) (e y : F) → IsErrAnd r (λ x. x ≡ e) → r ≡ Err y → e ≡ y
error_same (Ok x) e y h q = absurd h
error_same (Err x) e y h q = sym h ∙ cc

-- a set is no shorter than it was, and longer by one at the most
put_length : {A : Type 0} (t : A → A → Bool) (xs : List A) (x : A) → (length xs ≤ length (insert_key t xs x)) × (length (insert_key t xs x) ≤ length xs + 1)
put_length t xs x = go (list_any (t x) xs)
  where
    go : (b : Bool) → (length xs ≤ length (if b then xs else (xs ++ x ∷ []))) × (length (if b then xs else (xs ++ x ∷ [])) ≤ length xs + 1)
    go true = (omega arith, omega arith)
    go false = let e = length-append xs (x ∷ []) in (omega (arith, e), omega (arith, e))

-- the size is that of the first generator
size_first : {E : Type 0} (ms : List (Matrix E)) (d : Matrix E) → 0 < length ms → size ms ≡ (get_or ms 0 d).rows
size_first [] d some = absurd (omega arith)
size_first (x ∷ ms) d some = refl

module _ {E : Type 0} (k : FieldOn E) (n : ℕ) (gens : List (Matrix E)) (max : ℕ) where
  -- the element of a turn
  abbrev element : ℕ → List E
  element place = get_or (walk k n (cells_of gens) place) place (identity k n)

  -- a turn in which the first i generators are done
  pub record IsTurn (place i : ℕ) (keys : List (Matrix E)) : Type 0 where
    pub square : All (IsSquare k n) keys
    pub early : place < length (walk k n (cells_of gens) place)
    pub is : cells_of keys ≡ with_each k n (walk k n (cells_of gens) place) (element place) (take i (cells_of gens))
    pub below : place < length keys
    pub within : length keys ≤ max

  pub turn_start : (place : ℕ) (keys : List (Matrix E)) → All (IsSquare k n) keys → cells_of keys ≡ walk k n (cells_of gens) place → place < length keys → length keys ≤ max → IsTurn place 0 keys
  turn_start place keys square is below within = record {
    square = square;
    early = (let long = sym (length-map keys (λ (m : Matrix E). m.cells.items)) ∙ ap length is in omega (arith, long));
    is = is;
    below = below;
    within = within;
  }

  -- a matrix of the set is the element of the turn
  turn_element : (place i : ℕ) (keys : List (Matrix E)) (a : Matrix E) → IsTurn place i keys → slice_get keys place ≡ Some a → a.cells.items ≡ element place
  turn_element place i keys a t at =
      ap (λ (m : Matrix E). m.cells.items) (sym (get_or_from_slice_get keys place a a at)) ∙ sym (get_or-map (λ (m : Matrix E). m.cells.items) keys place a (identity k n) t.below) ∙ ap (λ l. get_or l place (identity k n)) t.is
      ∙ with_each_start k n (walk k n (cells_of gens) place) (element place) (take i (cells_of gens)) place (identity k n) t.early

  pub turn_square : (place i : ℕ) (keys : List (Matrix E)) (a : Matrix E) → IsTurn place i keys → slice_get keys place ≡ Some a → IsSquare k n a
  turn_square place i keys a t at = subst (IsSquare k n) (get_or_from_slice_get keys place a a at) (t.square place a t.below)

  turn_stage : (place i : ℕ) → IsStage k n (cells_of gens) (with_each k n (walk k n (cells_of gens) place) (element place) (take i (cells_of gens)))
  turn_stage place i = stage_part k n (cells_of gens) (walk k n (cells_of gens) place) (element place) i (stage_walk k n (cells_of gens) place) (stage_at k n (cells_of gens) (walk k n (cells_of gens) place) place (stage_walk k n (cells_of gens) place))

  module _ (eq : E → E → Bool) (exact : Exact eq) (place i : ℕ) (keys : List (Matrix E)) (a m p : Matrix E) (turn : IsTurn place i keys) (inside : i < length gens)
      (is_a : slice_get keys place ≡ Some a) (is_m : m ≡ get_or gens i m) (squares : All (IsSquare k n) gens)
      (matrix : IsMatrix k p) (rows : p.rows ≡ a.rows) (cols : p.cols ≡ m.cols) (multiplied : entries k p ≡ product (scalars k) a.cols (entries k a) (entries k m)) where
    square_a : IsSquare k n a
    square_a = turn_square place i keys a turn is_a

    square_m : IsSquare k n m
    square_m = subst (IsSquare k n) (sym is_m) (squares i m inside)

    pub square_p : IsSquare k n p
    square_p = record { matrix = matrix; rows = rows ∙ square_a.rows; cols = cols ∙ square_m.cols }

    product_is : p.cells.items ≡ times k n (element place) (get_or (cells_of gens) i (identity k n))
    product_is = times_is k n p a m square_p square_a square_m multiplied
        ∙ ap₂ (times k n) (turn_element place i keys a turn is_a) (ap (λ (x : Matrix E). x.cells.items) is_m ∙ sym (get_or-map (λ (x : Matrix E). x.cells.items) gens i m (identity k n) inside))

    put_is : (new : List (Matrix E)) → new ≡ insert_key (are_same eq) keys p → cells_of new ≡ with_each k n (walk k n (cells_of gens) place) (element place) (take (i + 1) (cells_of gens))
    put_is new put =
        let many : i < length (cells_of gens) = (let e = length-map gens (λ (x : Matrix E). x.cells.items) in omega (arith, e)) in
        cells_put k eq exact n p keys new square_p turn.square put ∙ ap₂ (with_new k) turn.is product_is
        ∙ sym (with_each_more k n (walk k n (cells_of gens) place) (element place) (cells_of gens) i (identity k n) many)

    -- the product is put into the set
    pub turn_more : (new : List (Matrix E)) → new ≡ insert_key (are_same eq) keys p → length new ≤ max → IsTurn place (i + 1) new
    turn_more new put within = record {
      square = square_put k eq exact n p keys new square_p turn.square put;
      early = turn.early;
      is = put_is new put;
      below = (let b = turn.below in let longer = (put_length (are_same eq) keys p).0 in let same = ap length put in omega (arith, b, longer, same));
      within = within;
    }

    -- or there are too many
    pub turn_over : max < length (insert_key (are_same eq) keys p) → IsOverOrder k n (cells_of gens) max
    turn_over over =
        let new = insert_key (are_same eq) keys p in
        let few = (put_length (are_same eq) keys p).1 in
        let within = turn.within in
        let long : length new ≡ max + 1 = omega (arith, few, within, over) in
        let is = put_is new refl in
        stage_over_order k n (cells_of gens) (cells_of new) max (subst (IsStage k n (cells_of gens)) (sym is) (turn_stage place (i + 1))) (length-map new (λ (x : Matrix E). x.cells.items) ∙ long)

  -- all generators are done
  pub turn_done : (place i : ℕ) (keys : List (Matrix E)) → IsTurn place i keys → length gens ≤ i → cells_of keys ≡ walk k n (cells_of gens) (place + 1)
  turn_done place i keys t all =
      let many : length (cells_of gens) ≤ i = (let e = length-map gens (λ (x : Matrix E). x.cells.items) in omega (arith, e, all)) in
      t.is ∙ ap (with_each k n (walk k n (cells_of gens) place) (element place)) (take_all i (cells_of gens) many) ∙ ap (walk k n (cells_of gens)) one
    where
      one : suc place ≡ place + 1
      one = omega arith

  -- the identity alone
  pub first_found : (eq : E → E → Bool) (first m : Matrix E) (old new : List (Matrix E)) → n ≡ size gens → 0 < length gens
      → IsMatrix k m → m.rows ≡ (get_or gens 0 first).rows → m.cols ≡ (get_or gens 0 first).rows → ((i : ℕ) → i < (get_or gens 0 first).rows → entries k m i ≡ unit (scalars k) i)
      → old ≡ [] → new ≡ insert_key (are_same eq) old m → (cells_of new ≡ walk k n (cells_of gens) 0) × All (IsSquare k n) new
  first_found eq first m old new is_size some matrix rows cols one empty put =
      let same : n ≡ (get_or gens 0 first).rows = is_size ∙ size_first gens first some in
      let square : IsSquare k n m = record { matrix = matrix; rows = rows ∙ sym same; cols = cols ∙ sym same } in
      let is : new ≡ m ∷ [] = put ∙ ap (λ l. insert_key (are_same eq) l m) empty in
      (ap cells_of is ∙ ap (λ g. g ∷ []) (identity_is k n m square (λ i l. one i (omega (arith, same, l)))), subst (All (IsSquare k n)) (sym is) (All-cons (IsSquare k n) m [] square (All-nil (IsSquare k n))))

  pub first_over : (eq : E → E → Bool) (m : Matrix E) (old : List (Matrix E)) → old ≡ [] → max < length (insert_key (are_same eq) old m) → IsOverOrder k n (cells_of gens) max
  first_over eq m old empty over =
      let long : max < length (m ∷ []) = subst (λ l. max < length (insert_key (are_same eq) l m)) empty over in
      stage_over_order k n (cells_of gens) (identity k n ∷ []) max (stage_start k n (cells_of gens)) (omega (arith, long))

  -- when each element was multiplied
  pub turns_walk : (place : ℕ) (keys : List (Matrix E)) → cells_of keys ≡ walk k n (cells_of gens) place → place ≤ length keys → length keys ≤ place → IsWalk k n (cells_of gens) (cells_of keys)
  turns_walk place keys is reached all =
      let end : place ≡ length (cells_of keys) = (let e = length-map keys (λ (x : Matrix E). x.cells.items) in omega (arith, e, reached, all)) in
      is ∙ ap (walk k n (cells_of gens)) end

-- the matrices that are found have the size of the generators
pub walk_size : {E : Type 0} (k : FieldOn E) (n : ℕ) (gens : List (List E)) (ms : List (Matrix E)) → All (IsSquare k n) ms → IsWalk k n gens (cells_of ms) → size ms ≡ n
walk_size {E} k n gens ms square walked = go ms square (let some = (walk_stage k n gens (cells_of ms) walked).positive in let same = length-map ms (λ m. m.cells.items) in omega (arith, some, same))
  where
    go : (ms : List (Matrix E)) → All (IsSquare k n) ms → 0 < length ms → size ms ≡ n
    go [] square some = absurd (omega arith)
    go (m ∷ ms) square some = (square 0 m (omega arith)).rows
