-- The finite products of generators.
use Rattle.matrix_group.proofs.Common.{◌≡◌, ℕ, List, [], ◌∷◌, ◌++◌, fold, All, Contains, sym, ap, ◌∙◌, refl, subst, fold-append, All-nil, All-head, All-tail, All-push, All-append, FieldOn, identity, times, product_of, IsCells, IsProduct}
use Rattle.matrix_group.proofs.Cells.{identity_cells, times_cells, times_assoc, identity_times, times_identity}

module _ {E : Type 0} (k : FieldOn E) (n : ℕ) where
  abbrev Cells : Type 0
  Cells = List E

  fold_times : (a : Cells) → IsCells k n a → (gs : List Cells) → fold (times k n) a gs ≡ times k n a (product_of k n gs)
  fold_times a h [] = sym (times_identity k n a h)
  fold_times a h (x ∷ gs) =
      let b = times k n (identity k n) x in
      let rest = product_of k n gs in
      fold_times (times k n a x) (times_cells k n a x) gs
      ∙ times_assoc k n a x rest
      ∙ ap (λ c. times k n c (times k n x rest)) (sym (times_identity k n a h))
      ∙ times_assoc k n a (identity k n) (times k n x rest)
      ∙ ap (times k n a) (sym (times_assoc k n (identity k n) x rest) ∙ sym (fold_times b (times_cells k n (identity k n) x) gs))

  product_of_cells : (gs : List Cells) → (a : Cells) → IsCells k n a → IsCells k n (fold (times k n) a gs)
  product_of_cells [] a h = h
  product_of_cells (x ∷ gs) a h = product_of_cells gs (times k n a x) (times_cells k n a x)

  -- one list of factors after another
  pub product_of_append : (gs hs : List Cells) → product_of k n (gs ++ hs) ≡ times k n (product_of k n gs) (product_of k n hs)
  product_of_append gs hs = fold-append (times k n) (identity k n) gs hs ∙ fold_times (product_of k n gs) (product_of_cells gs (identity k n) (identity_cells k n)) hs

  module _ (gens : List Cells) where
    pub IsProduct_identity : IsProduct k n gens (identity k n)
    IsProduct_identity = ([], All-nil (Contains gens), refl)

    pub IsProduct_more : (g m : Cells) → IsProduct k n gens g → Contains gens m → IsProduct k n gens (times k n g m)
    IsProduct_more g m p h = (p.0 ++ m ∷ [], All-push (Contains gens) p.0 m p.1 h, ap (λ u. times k n u m) p.2 ∙ sym (fold-append (times k n) (identity k n) p.0 (m ∷ [])))

    pub IsProduct_times : (g h : Cells) → IsProduct k n gens g → IsProduct k n gens h → IsProduct k n gens (times k n g h)
    IsProduct_times g h p q = (p.0 ++ q.0, All-append (Contains gens) p.0 q.0 p.1 q.1, ap (λ u. times k n u h) p.2 ∙ ap (times k n (product_of k n p.0)) q.2 ∙ sym (product_of_append p.0 q.0))

    pub IsProduct_generator : (m : Cells) → IsCells k n m → Contains gens m → IsProduct k n gens m
    IsProduct_generator m c h = subst (IsProduct k n gens) (identity_times k n m c) (IsProduct_more (identity k n) m IsProduct_identity h)

    pub IsProduct_cells : (g : Cells) → IsProduct k n gens g → IsCells k n g
    IsProduct_cells g p = subst (IsCells k n) (sym p.2) (product_of_cells p.0 (identity k n) (identity_cells k n))

    -- what holds of the identity and stays with each generator holds of each product
    pub products_induction : (P : Cells → Type 0) → P (identity k n) → ((g m : Cells) → P g → Contains gens m → P (times k n g m)) → (g : Cells) → IsProduct k n gens g → P g
    products_induction P start more g p = subst P (sym p.2) (go (identity k n) start p.0 p.1)
      where
        go : (a : Cells) → P a → (hs : List Cells) → All (Contains gens) hs → P (fold (times k n) a hs)
        go a h [] all = h
        go a h (x ∷ hs) all = go (times k n a x) (more a x h (All-head (Contains gens) x hs all)) hs (All-tail (Contains gens) x hs all)
