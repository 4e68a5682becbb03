-- Insertion into a list that falls.
use Rattle.std.proofs.Common.{◌≡◌, ℕ, suc, ◌+◌, ◌<◌, ◌≤◌, ◌⊎◌, inl, List, [], ◌∷◌, ◌++◌, length, get_or, take, drop, refl, sym, ap, ap₂, subst, ◌∙◌, arith, drop-cons, append_assoc, take-append-drop}
use Rattle.std.specs.List.{insert}
use Rattle.std.specs.declared.cmp.Ordering.TheVariants.{Less, Equal, Greater}
use Rattle.std.proofs.lemmas.List.{take_more, take_all, drop_all}
use Rattle.alg_core.specs.KeyLists.{Falls, inserted_by, inserted, sorted}
use Rattle.alg_core.specs.KeyOrders.{OrderOn, less_greater}
use Rattle.alg_core.specs.Lists.{In}
use Rattle.alg_core.proofs.KeyLists.{in_sorted, falls_sorted}

module _ {T : Type 0} (o : OrderOn T) where
  at_place : (l : List T) (j : ℕ) (x : T) → j < length l → x ≡ get_or l j x → drop j l ≡ x ∷ drop (suc j) l
  at_place l j x inside read = drop-cons l j x inside ∙ ap (λ y. y ∷ drop (suc j) l) (sym read)

  -- t goes after a greater member
  pub place_less : (t x : T) (l : List T) (j : ℕ) → j < length l → x ≡ get_or l j x → o.compare t x ≡ Less
      → inserted o t l ≡ take j l ++ inserted o t (drop j l) → inserted o t l ≡ take (j + 1) l ++ inserted o t (drop (j + 1) l)
  unfolding inserted
  place_less t x l j inside read less was =
      let next : suc j ≡ j + 1 = omega arith in
      was ∙ ap (λ m. take j l ++ inserted o t m) (at_place l j x inside read) ∙ ap (λ r. take j l ++ inserted_by o r t x (drop (suc j) l) (inserted o t (drop (suc j) l))) less
      ∙ sym (append_assoc (take j l) (x ∷ []) (inserted o t (drop (suc j) l)))
      ∙ ap₂ (λ m n. m ++ inserted o t (drop n l)) (sym (take_more l j x inside ∙ ap (λ y. take j l ++ y ∷ []) (sym read))) next

  pub place_equal : (t x : T) (l : List T) (j : ℕ) → j < length l → x ≡ get_or l j x → o.compare t x ≡ Equal
      → inserted o t l ≡ take j l ++ inserted o t (drop j l) → inserted o t l ≡ l
  unfolding inserted
  place_equal t x l j inside read equal was =
      was ∙ ap (λ m. take j l ++ inserted o t m) (at_place l j x inside read) ∙ ap (λ r. take j l ++ inserted_by o r t x (drop (suc j) l) (inserted o t (drop (suc j) l))) equal
      ∙ ap (λ m. take j l ++ m) (sym (at_place l j x inside read)) ∙ take-append-drop j l

  -- and before a smaller one
  pub place_greater : (t x : T) (l : List T) (j : ℕ) → j < length l → x ≡ get_or l j x → o.compare t x ≡ Greater
      → inserted o t l ≡ take j l ++ inserted o t (drop j l) → inserted o t l ≡ insert l j t
  unfolding inserted
  place_greater t x l j inside read greater was =
      was ∙ ap (λ m. take j l ++ inserted o t m) (at_place l j x inside read) ∙ ap (λ r. take j l ++ inserted_by o r t x (drop (suc j) l) (inserted o t (drop (suc j) l))) greater
      ∙ ap (λ m. take j l ++ t ∷ m) (sym (at_place l j x inside read))

  pub place_end : (t : T) (l : List T) (j n : ℕ) → length l ≤ j → length l ≤ n → inserted o t l ≡ take j l ++ inserted o t (drop j l) → inserted o t l ≡ insert l n t
  unfolding inserted
  place_end t l j n past end was =
      was ∙ ap₂ (λ m r. m ++ inserted o t r) (take_all j l past) (drop_all j l past) ∙ ap₂ (λ m r. m ++ t ∷ r) (sym (take_all n l end)) (sym (drop_all n l end))

  -- a list that falls is sorted
  first_stays : (t : T) (l : List T) → ((s : T) → In s l → o.compare s t ≡ Less) → inserted o t l ≡ t ∷ l
  unfolding inserted
  first_stays t [] h = refl
  first_stays t (s ∷ l) h = ap (λ r. inserted_by o r t s l (inserted o t l)) (less_greater o s t (h s (inl refl)))

  sorted_same : (l : List T) → Falls o l → sorted o l ≡ l
  unfolding sorted
  sorted_same [] f = refl
  sorted_same (t ∷ l) f = ap (inserted o t) (sorted_same l f.1) ∙ first_stays t l f.0

  inserted_sorted : (t : T) (l : List T) → Falls o l → inserted o t l ≡ sorted o (t ∷ l)
  unfolding sorted
  inserted_sorted t l f = ap (inserted o t) (sym (sorted_same l f))

  pub falls_inserted : (t : T) (l : List T) → Falls o l → Falls o (inserted o t l)
  falls_inserted t l f = subst (Falls o) (sym (inserted_sorted t l f)) (falls_sorted o (t ∷ l))

  pub in_inserted : (t s : T) (l : List T) → Falls o l → (t ≡ s) ⊎ In s l → In s (inserted o t l)
  in_inserted t s l f i = subst (In s) (sym (inserted_sorted t l f)) (in_sorted o s (t ∷ l) i)
