-- The walk that finds the finite products: what holds of each stage, and what is found when it is over.
use Rattle.matrix_group.proofs.Common.{◌≡◌, ℕ, zero, suc, ◌+◌, ◌<◌, ◌≤◌, ◌⊎◌, inl, inr, List, [], ◌∷◌, length, get_or, take, fold, All, Contains, sym, ap, ◌∙◌, refl, subst, arith, cases_lt, get_or_default, get_or_past, take_all, fold_more, All-head, All-tail, All-take, All-contains_itself, Contains-get_or, FieldOn, AreApart, with_new, identity, times, IsCells, IsProduct, AreElements, IsOverOrder, with_products, walk, IsWalk, All-cons, All-nil}
use Rattle.matrix_group.proofs.Cells.{identity_cells, times_cells}
use Rattle.matrix_group.proofs.Found.{AreApart_nil, AreApart_cons, Contains_nil, Contains_cases, is_found_decides, with_new_found, with_new_apart, with_new_old, with_new_last, with_new_members, with_new_all, with_new_longer, with_new_start}
use Rattle.matrix_group.proofs.Products.{IsProduct_identity, IsProduct_more, products_induction}

module _ {E : Type 0} (k : FieldOn E) (n : ℕ) where
  abbrev Cells : Type 0
  Cells = List E

  -- gs with what is new of the products of g and each of ms, in turn
  abbrev pub with_each : List Cells → Cells → List Cells → List Cells
  with_each gs g ms = fold (λ found m. with_new k found (times k n g m)) gs ms

  pub with_each_more : (gs : List Cells) (g : Cells) (ms : List Cells) (j : ℕ) (d : Cells) → j < length ms → with_each gs g (take (j + 1) ms) ≡ with_new k (with_each gs g (take j ms)) (times k n g (get_or ms j d))
  with_each_more gs g ms j d h = fold_more (λ found m. with_new k found (times k n g m)) gs ms j d h

  pub with_each_all : (gs : List Cells) (g : Cells) (ms : List Cells) → with_each gs g (take (length ms) ms) ≡ with_each gs g ms
  with_each_all gs g ms = ap (with_each gs g) (take_all (length ms) ms (omega arith))

  pub with_each_longer : (gs : List Cells) (g : Cells) (ms : List Cells) → length gs ≤ length (with_each gs g ms)
  with_each_longer gs g [] = omega arith
  with_each_longer gs g (m ∷ ms) = let one = with_new_longer k gs (times k n g m) in let rest = with_each_longer (with_new k gs (times k n g m)) g ms in omega arith

  pub with_each_start : (gs : List Cells) (g : Cells) (ms : List Cells) (i : ℕ) (d : Cells) → i < length gs → get_or (with_each gs g ms) i d ≡ get_or gs i d
  with_each_start gs g [] i d h = refl
  with_each_start gs g (m ∷ ms) i d h =
      let one = with_new_longer k gs (times k n g m) in with_each_start (with_new k gs (times k n g m)) g ms i d (omega arith) ∙ with_new_start k gs (times k n g m) i d h

  pub with_each_old : (gs : List Cells) (g : Cells) (ms : List Cells) (x : Cells) → Contains gs x → Contains (with_each gs g ms) x
  with_each_old gs g [] x h = h
  with_each_old gs g (m ∷ ms) x h = with_each_old (with_new k gs (times k n g m)) g ms x (with_new_old k gs (times k n g m) x h)

  -- each product is found
  pub with_each_has : (gs : List Cells) (g : Cells) (ms : List Cells) (m : Cells) → Contains ms m → Contains (with_each gs g ms) (times k n g m)
  with_each_has gs g [] m h = absurd (Contains_nil m h)
  with_each_has gs g (x ∷ ms) m h = go (with_each_has (with_new k gs (times k n g x)) g ms m) (Contains_cases x ms m h)
    where
      go : (Contains ms m → Contains (with_each (with_new k gs (times k n g x)) g ms) (times k n g m)) → (x ≡ m) ⊎ Contains ms m → Contains (with_each (with_new k gs (times k n g x)) g ms) (times k n g m)
      go rest (inl e) = subst (λ y. Contains (with_each (with_new k gs (times k n g x)) g ms) (times k n g y)) e (with_each_old (with_new k gs (times k n g x)) g ms (times k n g x) (with_new_last k gs (times k n g x)))
      go rest (inr c) = rest c

  -- where each is there already, nothing is new
  pub with_each_none : (gs : List Cells) (g : Cells) (ms : List Cells) → ((m : Cells) → Contains ms m → Contains gs (times k n g m)) → with_each gs g ms ≡ gs
  with_each_none gs g [] h = refl
  with_each_none gs g (m ∷ ms) h =
      ap (λ l. with_each l g ms) (with_new_found k gs (times k n g m) ((is_found_decides k gs (times k n g m)).1 (h m (0, omega arith, refl))))
      ∙ with_each_none gs g ms (λ x c. h x (suc c.0, (let inside = c.1 in omega arith), c.2))

  module _ (gens : List Cells) where
    -- what holds at each stage of the walk
    pub record IsStage (gs : List Cells) : Type 0 where
      pub apart : AreApart gs
      pub products : (g : Cells) → Contains gs g → IsProduct k n gens g
      pub cells : All (IsCells k n) gs
      pub positive : 0 < length gs
      pub first : get_or gs 0 (identity k n) ≡ identity k n

    pub stage_start : IsStage (identity k n ∷ [])
    stage_start = record {
      apart = AreApart_cons (identity k n) [] (Contains_nil (identity k n)) AreApart_nil;
      products = λ g h. at g (Contains_cases (identity k n) [] g h);
      cells = All-cons (IsCells k n) (identity k n) [] (identity_cells k n) (All-nil (IsCells k n));
      positive = omega arith;
      first = refl;
    }
      where
        at : (g : Cells) → (identity k n ≡ g) ⊎ Contains [] g → IsProduct k n gens g
        at g (inl e) = subst (IsProduct k n gens) e (IsProduct_identity k n gens)
        at g (inr h) = absurd (Contains_nil g h)

    pub stage_new : (gs : List Cells) (g m : Cells) → IsStage gs → IsProduct k n gens g → Contains gens m → IsStage (with_new k gs (times k n g m))
    stage_new gs g m s p h = record {
      apart = with_new_apart k gs (times k n g m) s.apart;
      products = λ x c. at x (with_new_members k gs (times k n g m) x c);
      cells = with_new_all k gs (times k n g m) (IsCells k n) s.cells (times_cells k n g m);
      positive = (let some = s.positive in let longer = with_new_longer k gs (times k n g m) in omega arith);
      first = with_new_start k gs (times k n g m) 0 (identity k n) s.positive ∙ s.first;
    }
      where
        at : (x : Cells) → Contains gs x ⊎ (times k n g m ≡ x) → IsProduct k n gens x
        at x (inl c) = s.products x c
        at x (inr e) = subst (IsProduct k n gens) e (IsProduct_more k n gens g m p h)

    stage_each : (gs : List Cells) (g : Cells) (ms : List Cells) → IsStage gs → IsProduct k n gens g → All (Contains gens) ms → IsStage (with_each gs g ms)
    stage_each gs g [] s p all = s
    stage_each gs g (m ∷ ms) s p all = stage_each (with_new k gs (times k n g m)) g ms (stage_new gs g m s p (All-head (Contains gens) m ms all)) p (All-tail (Contains gens) m ms all)

    -- in the midst of a turn
    pub stage_part : (gs : List Cells) (g : Cells) (j : ℕ) → IsStage gs → Contains gs g → IsStage (with_each gs g (take j gens))
    stage_part gs g j s h = stage_each gs g (take j gens) s (s.products g h) (All-take (Contains gens) j gens (All-contains_itself gens))

    pub stage_turn : (gs : List Cells) (g : Cells) → IsStage gs → Contains gs g → IsStage (with_products k n gens gs g)
    stage_turn gs g s h = stage_each gs g gens s (s.products g h) (All-contains_itself gens)

    pub stage_identity : (gs : List Cells) → IsStage gs → Contains gs (identity k n)
    stage_identity gs s = (0, s.positive, s.first)

    pub stage_at : (gs : List Cells) (c : ℕ) → IsStage gs → Contains gs (get_or gs c (identity k n))
    stage_at gs c s = go (cases_lt c (length gs))
      where
        go : (c < length gs) ⊎ (length gs ≤ c) → Contains gs (get_or gs c (identity k n))
        go (inl h) = Contains-get_or gs c (identity k n) h
        go (inr h) = subst (Contains gs) (sym (get_or_past gs c (identity k n) h)) (stage_identity gs s)

    pub stage_walk : (c : ℕ) → IsStage (walk k n gens c)
    stage_walk zero = stage_start
    stage_walk (suc c) = stage_turn (walk k n gens c) (get_or (walk k n gens c) c (identity k n)) (stage_walk c) (stage_at (walk k n gens c) c (stage_walk c))

    -- a stage with one member too many
    pub stage_over_order : (gs : List Cells) (m : ℕ) → IsStage gs → length gs ≡ m + 1 → IsOverOrder k n gens m
    stage_over_order gs m s e = (gs, s.apart, s.products, e)

    -- the products of the first c members and the generators are there
    abbrev IsClosedBelow : ℕ → List Cells → Type 0
    IsClosedBelow c gs = (i : ℕ) → i < c → i < length gs → (m : Cells) → Contains gens m → Contains gs (times k n (get_or gs i (identity k n)) m)

    closed_turn : (c : ℕ) (gs : List Cells) (g : Cells) → get_or gs c (identity k n) ≡ g → IsStage gs → IsClosedBelow c gs → IsClosedBelow (suc c) (with_products k n gens gs g)
    closed_turn c gs g is s closed = go (cases_lt c (length gs))
      where
        early : (i : ℕ) → i < suc c → (m : Cells) → Contains gens m → i < length gs → (i < c) ⊎ (c ≤ i) → Contains (with_each gs g gens) (times k n (get_or gs i (identity k n)) m)
        early i b m q inside (inl l) = with_each_old gs g gens (times k n (get_or gs i (identity k n)) m) (closed i l inside m q)
        early i b m q inside (inr l) =
            let same : c ≡ i = omega arith in
            subst (λ x. Contains (with_each gs g gens) (times k n x m)) (sym is ∙ ap (λ t. get_or gs t (identity k n)) same) (with_each_has gs g gens m q)

        none : length gs ≤ c → with_each gs g gens ≡ gs
        none h = with_each_none gs g gens (λ m q.
            let some = s.positive in
            subst (λ x. Contains gs (times k n x m)) (s.first ∙ sym (get_or_past gs c (identity k n) h) ∙ is) (closed 0 (omega arith) s.positive m q))

        go : (c < length gs) ⊎ (length gs ≤ c) → IsClosedBelow (suc c) (with_each gs g gens)
        go (inl h) = λ i b inside m q. let here : i < length gs = omega arith in
            subst (λ x. Contains (with_each gs g gens) (times k n x m)) (sym (with_each_start gs g gens i (identity k n) here)) (early i b m q here (cases_lt i c))
        go (inr h) = subst (IsClosedBelow (suc c)) (sym (none h)) (λ i b inside m q. closed i (omega arith) inside m q)

    closed_walk : (c : ℕ) → IsClosedBelow c (walk k n gens c)
    closed_walk zero = λ i b inside m q. absurd (omega arith)
    closed_walk (suc c) = closed_turn c (walk k n gens c) (get_or (walk k n gens c) c (identity k n)) refl (stage_walk c) (closed_walk c)

    module _ (gs : List Cells) (w : IsWalk k n gens gs) where
      pub walk_stage : IsStage gs
      walk_stage = subst IsStage (sym w) (stage_walk (length gs))

      pub walk_first : get_or gs 0 (identity k n) ≡ identity k n
      walk_first = walk_stage.first

      -- what is found is closed under the generators
      pub walk_closed : (g m : Cells) → Contains gs g → Contains gens m → Contains gs (times k n g m)
      walk_closed g m h q =
          let closed : IsClosedBelow (length gs) gs = subst (IsClosedBelow (length gs)) (sym w) (closed_walk (length gs)) in
          subst (λ x. Contains gs (times k n x m)) (get_or_default gs h.0 (identity k n) g h.1 ∙ h.2) (closed h.0 h.1 h.1 m q)

      -- the walk finds the finite products
      pub walk_elements : AreElements k n gens gs
      walk_elements = record {
        apart = walk_stage.apart;
        products = walk_stage.products;
        all = products_induction k n gens (Contains gs) (stage_identity gs walk_stage) walk_closed;
      }
