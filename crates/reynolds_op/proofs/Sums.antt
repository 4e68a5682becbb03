-- Sums over lists: what functions that keep sums make of them, and that a sum over a list without repeats goes by its
-- members.
use Rattle.reynolds_op.proofs.Common.{◌≡◌, ◌⊎◌, inl, inr, List, [], ◌∷◌, ◌++◌, length, map, refl, sym, ap, ap₂, ◌∙◌, subst, Contains, FieldOn, scalar_one, scalar_add, Vect, vectors, plus, zero_vector, scale, plus_left_comm, plus_swap, zero_plus, plus_zero, plus_assoc, scale_zero, AreApart, AreApart_head, AreApart_tail, Contains_nil, Contains_head, Contains_tail, Contains_cases, Contains_split, Contains_without, ones, sum_of, has_ones}
use Rattle.reynolds_op.proofs.Members.{Contains_with, AreApart_without}

module _ {E : Type 0} (k : FieldOn E) {A : Type 0} where
  pub sum_same : (f g : A → Vect k) (xs : List A) → ((x : A) → Contains xs x → f x ≡ g x) → sum_of k f xs ≡ sum_of k g xs
  sum_same f g [] h = refl
  sum_same f g (x ∷ xs) h = ap₂ (plus k) (h x (Contains_head x xs)) (sum_same f g xs (λ y c. h y (Contains_tail x xs y c)))

  pub sum_append : (f : A → Vect k) (xs ys : List A) → sum_of k f (xs ++ ys) ≡ plus k (sum_of k f xs) (sum_of k f ys)
  sum_append f [] ys = sym (zero_plus k _)
  sum_append f (x ∷ xs) ys = ap (plus k (f x)) (sum_append f xs ys) ∙ sym (plus_assoc k _ _ _)

  pub sum_plus : (f g : A → Vect k) (xs : List A) → sum_of k (λ x. plus k (f x) (g x)) xs ≡ plus k (sum_of k f xs) (sum_of k g xs)
  sum_plus f g [] = sym (plus_zero k _)
  sum_plus f g (x ∷ xs) = ap (plus k (plus k (f x) (g x))) (sum_plus f g xs) ∙ plus_swap k _ _ _ _

  -- a function that keeps sums
  pub sum_through : (φ : Vect k → Vect k) → φ (zero_vector k) ≡ zero_vector k → ((u v : Vect k) → φ (plus k u v) ≡ plus k (φ u) (φ v)) → (f : A → Vect k) (xs : List A) → φ (sum_of k f xs) ≡ sum_of k (λ x. φ (f x)) xs
  sum_through φ none add f [] = none
  sum_through φ none add f (x ∷ xs) = add _ _ ∙ ap (plus k (φ (f x))) (sum_through φ none add f xs)

  -- the sum of n equal vectors is n ones times the vector
  pub sum_constant : (u : Vect k) (xs : List A) → sum_of k (λ x. u) xs ≡ scale k (ones k (length xs)) u
  unfolding plus scale
  sum_constant u [] = sym (scale_zero k u)
  sum_constant u (x ∷ xs) =
      ap₂ (vectors k).◌+◌ (sym ((vectors k).one_act u) ∙ ap (λ c. (vectors k).◌·◌ c u) (sym (scalar_one k))) (sum_constant u xs)
      ∙ sym ((vectors k).add_act _ _ u) ∙ ap (λ c. (vectors k).◌·◌ c u) (sym (scalar_add k k.one (ones k (length xs)) k.has_one (has_ones k (length xs))))

  sum_without : (f : A → Vect k) (before : List A) (x : A) (after : List A) → sum_of k f (before ++ x ∷ after) ≡ plus k (f x) (sum_of k f (before ++ after))
  sum_without f [] x after = refl
  sum_without f (y ∷ before) x after = ap (plus k (f y)) (sum_without f before x after) ∙ plus_left_comm k _ _ _

  -- lists without repeats and with the same members have the same sum
  pub sum_members : (f : A → Vect k) (xs ys : List A) → AreApart xs → AreApart ys → ((x : A) → Contains xs x → Contains ys x) → ((x : A) → Contains ys x → Contains xs x) → sum_of k f xs ≡ sum_of k f ys
  sum_members f [] [] a b to from = refl
  sum_members f [] (y ∷ ys) a b to from = absurd (Contains_nil y (from y (Contains_head y ys)))
  sum_members f (x ∷ xs) ys a b to from =
      let s = Contains_split ys x (to x (Contains_head x xs)) in
      let rest = AreApart_without s.0 x s.1 (subst AreApart s.2 b) in
      ap (plus k (f x)) (sum_members f xs (s.0 ++ s.1) (AreApart_tail x xs a) rest.0
      (λ y c. Contains_without s.0 x s.1 y (subst (λ l. Contains l y) s.2 (to y (Contains_tail x xs y c))) (λ e. AreApart_head x xs a (subst (Contains xs) (sym e) c)))
      (λ y c. other y (λ e. rest.1 (subst (Contains (s.0 ++ s.1)) (sym e) c)) (Contains_cases x xs y (from y (subst (λ l. Contains l y) (sym s.2) (Contains_with s.0 x s.1 y c))))))
      ∙ sym (sum_without f s.0 x s.1) ∙ ap (sum_of k f) (sym s.2)
    where
      other : (y : A) → ¬ (x ≡ y) → (x ≡ y) ⊎ Contains xs y → Contains xs y
      other y n (inl e) = absurd (n e)
      other y n (inr c) = c

module _ {E : Type 0} (k : FieldOn E) {A B : Type 0} where
  pub sum_map : (f : B → Vect k) (t : A → B) (xs : List A) → sum_of k f (map t xs) ≡ sum_of k (λ x. f (t x)) xs
  sum_map f t [] = refl
  sum_map f t (x ∷ xs) = ap (plus k (f (t x))) (sum_map f t xs)
