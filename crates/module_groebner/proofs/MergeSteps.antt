-- The steps of a merge of two lists of terms.
use Rattle.std.proofs.Common.{◌≡◌, ◌≢◌, ◌<◌, ◌≤◌, ◌+◌, ℕ, List, [], ◌∷◌, ◌++◌, length, get_or, drop, sym, subst}
use Rattle.std.proofs.lemmas.List.{drop_all}
use Rattle.std.specs.declared.cmp.Ordering.TheVariants.{Less, Equal, Greater}
use Rattle.alg_core.specs.declared.term.Term.{Term}
use Rattle.alg_core.specs.Spaces.{SpaceOver, entry, entries, IsTerm, IsAbove, Fits}
use Rattle.alg_core.specs.Vectors.{Entry, vec, plus}
use Rattle.alg_core.proofs.FittingLists.{less_turned, above_more, fits_back}
use Rattle.poly_module.proofs.MergeSteps.{drop_at, pushed_entries}
use Rattle.poly_module.proofs.Merges.{Merged, take_left, take_right, both_kept, both_gone, merge_begins, merge_ends}

module _ {E M : Type 0} (S : SpaceOver E) (exps : M → List ℕ) where
  module _ (a b : List (Entry E)) where
    -- the merge so far, with the places reached in xs and ys
    abbrev pub State : List (Term E M) → List (Term E M) → List (Term E M) → Type 0
    State made xs ys = Merged S a b (entries exps made) (entries exps xs) (entries exps ys)

    pub begins : (made xs ys : List (Term E M)) → made ≡ [] → entries exps xs ≡ a → entries exps ys ≡ b → Fits S a → Fits S b → State made xs ys
    begins made xs ys p q r ha hb = subst (λ m. Merged S a b (entries exps m) (entries exps xs) (entries exps ys)) (sym p) (subst (λ l. Merged S a b [] l (entries exps ys)) (sym q) (subst (λ l. Merged S a b [] a l) (sym r) (merge_begins S a b ha hb)))

    at_left : (made xs ys : List (Term E M)) (i : ℕ) (x : Term E M) → i < length xs → x ≡ get_or xs i x → State made (drop i xs) ys → State made (x ∷ drop (i + 1) xs) ys
    at_left made xs ys i x h read s = subst (λ l. State made l ys) (drop_at xs i x h read) s

    at_right : (made xs ys : List (Term E M)) (j : ℕ) (y : Term E M) → j < length ys → y ≡ get_or ys j y → State made xs (drop j ys) → State made xs (y ∷ drop (j + 1) ys)
    at_right made xs ys j y h read s = subst (λ l. State made xs l) (drop_at ys j y h read) s

    pub first_entry : (made xs ys : List (Term E M)) (i : ℕ) (x : Term E M) → i < length xs → x ≡ get_or xs i x → State made (drop i xs) ys → IsTerm S (entry exps x)
    first_entry made xs ys i x h read s = (fits_back S (entries exps made) _ (at_left made xs ys i x h read s).left).0

    pub second_entry : (made xs ys : List (Term E M)) (j : ℕ) (y : Term E M) → j < length ys → y ≡ get_or ys j y → State made xs (drop j ys) → IsTerm S (entry exps y)
    second_entry made xs ys j y h read s = (fits_back S (entries exps made) _ (at_right made xs ys j y h read s).right).0

    pub greater_step : (made new xs ys : List (Term E M)) (i j : ℕ) (x y t : Term E M) → i < length xs → x ≡ get_or xs i x → j < length ys → y ≡ get_or ys j y
        → S.order.compare (entry exps x).0 (entry exps y).0 ≡ Greater → new ≡ made ++ (t ∷ []) → entry exps t ≡ entry exps x
        → State made (drop i xs) (drop j ys) → State new (drop (i + 1) xs) (drop j ys)
    greater_step made new xs ys i j x y t hi ri hj rj gt is same s =
        let sl = at_left made xs (drop j ys) i x hi ri s in
        let sr = fits_back S (entries exps made) _ (at_right made (drop i xs) ys j y hj rj s).right in
        let above : IsAbove S (entry exps x).0 (entries exps (drop j ys)) = subst (λ l. IsAbove S (entry exps x).0 (entries exps l)) (sym (drop_at ys j y hj rj)) (gt, above_more S _ _ _ gt sr.1) in
        subst (λ m. Merged S a b m (entries exps (drop (i + 1) xs)) (entries exps (drop j ys))) (pushed_entries S exps made new t (entry exps x) is same)
        (take_left S a b (entries exps made) _ _ (entry exps x) sl above)

    pub less_step : (made new xs ys : List (Term E M)) (i j : ℕ) (x y t : Term E M) → i < length xs → x ≡ get_or xs i x → j < length ys → y ≡ get_or ys j y
        → S.order.compare (entry exps x).0 (entry exps y).0 ≡ Less → new ≡ made ++ (t ∷ []) → entry exps t ≡ entry exps y
        → State made (drop i xs) (drop j ys) → State new (drop i xs) (drop (j + 1) ys)
    less_step made new xs ys i j x y t hi ri hj rj lt is same s =
        let sr = at_right made (drop i xs) ys j y hj rj s in
        let sl = fits_back S (entries exps made) _ (at_left made xs (drop j ys) i x hi ri s).left in
        let gt = less_turned S.order (entry exps x).0 (entry exps y).0 lt in
        let above : IsAbove S (entry exps y).0 (entries exps (drop i xs)) = subst (λ l. IsAbove S (entry exps y).0 (entries exps l)) (sym (drop_at xs i x hi ri)) (gt, above_more S _ _ _ gt sl.1) in
        subst (λ m. Merged S a b m (entries exps (drop i xs)) (entries exps (drop (j + 1) ys))) (pushed_entries S exps made new t (entry exps y) is same)
        (take_right S a b (entries exps made) _ _ (entry exps y) sr above)

    both_left : (made xs ys : List (Term E M)) (i j : ℕ) (x y : Term E M) → i < length xs → x ≡ get_or xs i x → j < length ys → y ≡ get_or ys j y → State made (drop i xs) (drop j ys) → State made (x ∷ drop (i + 1) xs) (y ∷ drop (j + 1) ys)
    both_left made xs ys i j x y hi ri hj rj s = at_right made (x ∷ drop (i + 1) xs) ys j y hj rj (at_left made xs (drop j ys) i x hi ri s)

    pub kept_step : (made new xs ys : List (Term E M)) (i j : ℕ) (x y t : Term E M) → i < length xs → x ≡ get_or xs i x → j < length ys → y ≡ get_or ys j y
        → S.order.compare (entry exps x).0 (entry exps y).0 ≡ Equal → S.field.add x.coef y.coef ≢ S.field.zero → new ≡ made ++ (t ∷ []) → entry exps t ≡ ((x.at.pos, exps x.at.mono), S.field.add x.coef y.coef)
        → State made (drop i xs) (drop j ys) → State new (drop (i + 1) xs) (drop (j + 1) ys)
    kept_step made new xs ys i j x y t hi ri hj rj eq nz is same s =
        subst (λ m. Merged S a b m (entries exps (drop (i + 1) xs)) (entries exps (drop (j + 1) ys))) (pushed_entries S exps made new t _ is same)
        (both_kept S a b (entries exps made) _ _ (entry exps x) (entry exps y) (both_left made xs ys i j x y hi ri hj rj s) (S.order.tied _ _ eq) nz)

    pub gone_step : (made xs ys : List (Term E M)) (i j : ℕ) (x y : Term E M) → i < length xs → x ≡ get_or xs i x → j < length ys → y ≡ get_or ys j y
        → S.order.compare (entry exps x).0 (entry exps y).0 ≡ Equal → S.field.add x.coef y.coef ≡ S.field.zero
        → State made (drop i xs) (drop j ys) → State made (drop (i + 1) xs) (drop (j + 1) ys)
    gone_step made xs ys i j x y hi ri hj rj eq z s =
        both_gone S a b (entries exps made) _ _ (entry exps x) (entry exps y) (both_left made xs ys i j x y hi ri hj rj s) (S.order.tied _ _ eq) z

    pub left_step : (made new xs ys : List (Term E M)) (i j : ℕ) (x t : Term E M) → length ys ≤ j → i < length xs → x ≡ get_or xs i x → new ≡ made ++ (t ∷ []) → entry exps t ≡ entry exps x
        → State made (drop i xs) (drop j ys) → State new (drop (i + 1) xs) (drop j ys)
    left_step made new xs ys i j x t past hi ri is same s =
        let none : drop j ys ≡ [] = drop_all j ys past in
        let s' : State made (drop i xs) [] = subst (λ l. State made (drop i xs) l) none s in
        subst (λ l. State new (drop (i + 1) xs) l) (sym none)
        (subst (λ m. Merged S a b m (entries exps (drop (i + 1) xs)) []) (pushed_entries S exps made new t (entry exps x) is same)
        (take_left S a b (entries exps made) _ [] (entry exps x) (at_left made xs [] i x hi ri s') tt))

    pub right_step : (made new ys : List (Term E M)) (j : ℕ) (y t : Term E M) → j < length ys → y ≡ get_or ys j y → new ≡ made ++ (t ∷ []) → entry exps t ≡ entry exps y
        → State made [] (drop j ys) → State new [] (drop (j + 1) ys)
    right_step made new ys j y t hj rj is same s =
        subst (λ m. Merged S a b m [] (entries exps (drop (j + 1) ys))) (pushed_entries S exps made new t (entry exps y) is same)
        (take_right S a b (entries exps made) [] _ (entry exps y) (at_right made [] ys j y hj rj s) tt)

    pub finished : (made w ys : List (Term E M)) (j : ℕ) → length ys ≤ j → State made [] (drop j ys) → w ≡ made → Fits S (entries exps w) × (vec S.field (entries exps w) ≡ plus S.field (vec S.field a) (vec S.field b))
    finished made w ys j past s is =
        subst (λ l. Fits S (entries exps l) × (vec S.field (entries exps l) ≡ plus S.field (vec S.field a) (vec S.field b))) (sym is) (merge_ends S a b (entries exps made) (subst (λ l. State made [] l) (drop_all j ys past) s))
