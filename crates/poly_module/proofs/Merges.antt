-- The merge of two lists of entries that fall.
use Rattle.std.proofs.Common.{◌≡◌, ◌≢◌, List, [], ◌∷◌, ◌++◌, refl, sym, ap, ap₂, subst, ◌∙◌, append_assoc}
use Rattle.alg_core.specs.Spaces.{SpaceOver, IsTerm, IsAbove, Fits}
use Rattle.alg_core.specs.Vectors.{Entry, Vect, vec, plus, zero_vector}
use Rattle.alg_core.proofs.FittingLists.{fits_front, fits_back, fits_insert, fits_without, fits_revalue}
use Rattle.alg_core.proofs.VectorLaws.{plus_assoc, plus_left_comm, plus_swap, plus_zero, zero_plus, vec_nothing, vec_append, vec_cons, vec_twice, vec_zero}

module _ {E : Type 0} (S : SpaceOver E) (a b : List (Entry E)) where
  abbrev v : List (Entry E) → Vect S.field
  v = vec S.field

  -- so far the merge made `made`, and xs and ys are left
  pub record Merged (made xs ys : List (Entry E)) : Type 0 where
    pub left : Fits S (made ++ xs)
    pub right : Fits S (made ++ ys)
    pub sum : plus S.field (vec S.field made) (plus S.field (vec S.field xs) (vec S.field ys)) ≡ plus S.field (vec S.field a) (vec S.field b)

  with_front : (made : List (Entry E)) (e : Entry E) (xs : List (Entry E)) → Fits S (made ++ (e ∷ xs)) → Fits S (made ++ (e ∷ []))
  with_front made e xs h = fits_front S (made ++ (e ∷ [])) xs (subst (Fits S) (sym (append_assoc made (e ∷ []) xs)) h)

  abbrev o : Vect S.field → Vect S.field → Vect S.field
  o = plus S.field

  -- how the sum of all is grouped anew
  first : (m e x y : Vect S.field) → o (o m e) (o x y) ≡ o m (o (o e x) y)
  first m e x y = plus_assoc S.field m e _ ∙ ap (o m) (sym (plus_assoc S.field e x y))

  second : (m e x y : Vect S.field) → o (o m e) (o x y) ≡ o m (o x (o e y))
  second m e x y = plus_assoc S.field m e _ ∙ ap (o m) (plus_left_comm S.field e x y)

  both : (m e f x y : Vect S.field) → o (o m (o e f)) (o x y) ≡ o m (o (o e x) (o f y))
  both m e f x y = plus_assoc S.field m _ _ ∙ ap (o m) (plus_swap S.field e f x y)

  pub take_left : (made xs ys : List (Entry E)) (e : Entry E) → Merged made (e ∷ xs) ys → IsAbove S e.0 ys → Merged (made ++ (e ∷ [])) xs ys
  take_left made xs ys e m above = record {
    left = subst (Fits S) (sym (append_assoc made (e ∷ []) xs)) m.left;
    right = subst (Fits S) (sym (append_assoc made (e ∷ []) ys)) (fits_insert S made e ys (with_front made e xs m.left) m.right above);
    sum = ap₂ o (vec_append S.field made (e ∷ [])) refl ∙ first _ _ _ _ ∙ ap (λ t. o (v made) (o t (v ys))) (sym (vec_cons S.field e xs)) ∙ m.sum;
  }

  pub take_right : (made xs ys : List (Entry E)) (e : Entry E) → Merged made xs (e ∷ ys) → IsAbove S e.0 xs → Merged (made ++ (e ∷ [])) xs ys
  take_right made xs ys e m above = record {
    left = subst (Fits S) (sym (append_assoc made (e ∷ []) xs)) (fits_insert S made e xs (with_front made e ys m.right) m.left above);
    right = subst (Fits S) (sym (append_assoc made (e ∷ []) ys)) m.right;
    sum = ap₂ o (vec_append S.field made (e ∷ [])) refl ∙ second _ _ _ _ ∙ ap (λ t. o (v made) (o (v xs) t)) (sym (vec_cons S.field e ys)) ∙ m.sum;
  }

  two : (e f : Entry E) → IsTerm S e → IsTerm S f → e.0 ≡ f.0 → o (v (e ∷ [])) (v (f ∷ [])) ≡ v ((e.0, S.field.add e.1 f.1) ∷ [])
  two e f he hf same = ap (λ p. o (v (e ∷ [])) (v ((p, f.1) ∷ []))) (sym same) ∙ vec_twice S.field e.0 e.1 f.1 he.has hf.has

  regrouped : (made xs ys : List (Entry E)) (e f : Entry E) → Merged made (e ∷ xs) (f ∷ ys) → o (o (v made) (o (v (e ∷ [])) (v (f ∷ [])))) (o (v xs) (v ys)) ≡ o (v a) (v b)
  regrouped made xs ys e f m = both _ _ _ _ _ ∙ ap (o (v made)) (ap₂ o (sym (vec_cons S.field e xs)) (sym (vec_cons S.field f ys))) ∙ m.sum

  pub both_kept : (made xs ys : List (Entry E)) (e f : Entry E) → Merged made (e ∷ xs) (f ∷ ys) → e.0 ≡ f.0 → S.field.add e.1 f.1 ≢ S.field.zero → Merged (made ++ ((e.0, S.field.add e.1 f.1) ∷ [])) xs ys
  both_kept made xs ys e f m same kept =
      let g : Entry E = (e.0, S.field.add e.1 f.1) in
      let he = (fits_back S made (e ∷ xs) m.left).0 in
      let hf = (fits_back S made (f ∷ ys) m.right).0 in
      let is : IsTerm S g = record { has = S.field.has_add e.1 f.1 he.has hf.has; not_zero = kept; place = he.place } in
      record {
        left = subst (Fits S) (sym (append_assoc made (g ∷ []) xs)) (fits_revalue S made e g xs refl is m.left);
        right = subst (Fits S) (sym (append_assoc made (g ∷ []) ys)) (fits_revalue S made f g ys (sym same) is m.right);
        sum = ap₂ o (vec_append S.field made (g ∷ []) ∙ ap (o (v made)) (sym (two e f he hf same))) refl ∙ regrouped made xs ys e f m;
      }

  pub both_gone : (made xs ys : List (Entry E)) (e f : Entry E) → Merged made (e ∷ xs) (f ∷ ys) → e.0 ≡ f.0 → S.field.add e.1 f.1 ≡ S.field.zero → Merged made xs ys
  both_gone made xs ys e f m same gone =
      let he = (fits_back S made (e ∷ xs) m.left).0 in
      let hf = (fits_back S made (f ∷ ys) m.right).0 in
      let none : o (v (e ∷ [])) (v (f ∷ [])) ≡ zero_vector S.field = two e f he hf same ∙ ap (λ c. v ((e.0, c) ∷ [])) gone ∙ vec_zero S.field e.0 in
      record {
        left = fits_without S made e xs m.left;
        right = fits_without S made f ys m.right;
        sum = ap₂ o (sym (plus_zero S.field (v made)) ∙ ap (o (v made)) (sym none)) refl ∙ regrouped made xs ys e f m;
      }

  pub merge_begins : Fits S a → Fits S b → Merged [] a b
  merge_begins ha hb = record { left = ha; right = hb; sum = ap₂ o (vec_nothing S.field) refl ∙ zero_plus S.field _ }

  pub merge_ends : (made : List (Entry E)) → Merged made [] [] → Fits S made × (v made ≡ o (v a) (v b))
  merge_ends made m = (fits_front S made [] m.left, sym (ap (o (v made)) (ap₂ o (vec_nothing S.field) (vec_nothing S.field) ∙ plus_zero S.field _) ∙ plus_zero S.field _) ∙ m.sum)
