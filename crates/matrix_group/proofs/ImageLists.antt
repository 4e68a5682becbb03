-- The lists of the terms of the images of the variables, and the value at them.
use Rattle.matrix_group.proofs.Common.{◌≡◌, ℕ, zero, suc, ◌+◌, ◌*◌, ◌<◌, ◌≤◌, ◌⊎◌, inl, inr, List, [], ◌∷◌, ◌++◌, map, length, get_or, refl, sym, ap, subst, ◌∙◌, arith, All, cases_lt, get_or_append_left, get_or_push, length-append, Has, Key, key, Entry, vec, Term, SpaceOver, entries, Fits, variable, after_zeros, vector_ring, Supp, supp_single, image_of, variable_vector, substitute, total, greatest, peak, highest, Matrix, image, act_by, mul-le-mul}
use Rattle.poly_module.specs.PowerTables.{AllAt}
use Rattle.poly_module.specs.SpaceVectors.{vectors_of, ArePolys, IsPolyOf}
use Rattle.poly_module.proofs.ExponentBounds.{Bounded, greatest_mono, fits_keys}
use Rattle.poly_module.proofs.Factors.{fits_terms}
use Rattle.poly_module.proofs.FittingKeys.{vec_in_variables}
use Rattle.lin_algebra.specs.Matrices.{entries as cells_of}
use Rattle.matrix_group.proofs.LinearForms.{linear_form_supp, image_has}
use Rattle.matrix_group.proofs.ActionLaws.{act_substitute}

-- the exponents of a variable are at most 1
variable_bounded : (i : ℕ) → Bounded 1 (0, variable i)
unfolding variable after_zeros
variable_bounded i = (refl, let e = greatest_mono (after_zeros i (1 ∷ [])) in let f = once i in omega arith)
  where
    once : (i : ℕ) → greatest (after_zeros i (1 ∷ [])) ≤ 1
    once zero = omega arith
    once (suc i) = let r = once i in omega arith

-- one more at the end
all_at_push : {A : Type 0} (P : ℕ → A → Type 0) (l : List A) (x : A) → AllAt P l → P (length l) x → AllAt P (l ++ x ∷ [])
all_at_push P l x all here i d w = go (cases_lt i (length l))
  where
    go : (i < length l) ⊎ (length l ≤ i) → P i (get_or (l ++ x ∷ []) i d)
    go (inl b) = subst (P i) (sym (get_or_append_left l (x ∷ []) d i b)) (all i d b)
    go (inr b) =
        let count = length-append l (x ∷ []) in
        let same : length l ≡ i = omega arith in
        subst (P i) (sym (get_or_push l x d i same)) (subst (λ j. P j x) same here)

module _ {E : Type 0} (S : SpaceOver E) where
  -- the entries of a polynomial of the space
  pub fits_has : (f : List (Term E (List ℕ))) → Fits S (entries (λ a. a) f) → All (λ e. Has S.field e.1) (entries (λ a. a) f)
  fits_has f fits i d w = (fits_terms S (λ a. a) f fits i d w).has

  pub fits_wide : (f : List (Term E (List ℕ))) (n : ℕ) → n ≡ length S.weights → Fits S (entries (λ a. a) f) → All (λ e. length e.0.1 ≡ n) (entries (λ a. a) f)
  fits_wide f n e fits i d w = (fits_terms S (λ a. a) f fits i d w).place.wide ∙ sym e

module _ {E : Type 0} (S : SpaceOver E) (m : Matrix E) where
  abbrev Terms : Type 0
  Terms = List (Term E (List ℕ))

  abbrev listed : Terms → List (Entry E)
  listed p = entries (λ a. a) p

  -- the terms of the image of each variable
  abbrev pub AreImages : List Terms → Type 0
  AreImages = AllAt (λ i p. IsPolyOf S (λ a. a) (image S.field m.rows (cells_of S.field m) i) p)

  pub images_start : (images : List Terms) → images ≡ [] → AreImages images
  images_start images none = subst AreImages (sym none) (λ i d w. absurd (omega arith))

  pub images_count : (images new : List Terms) (p : Terms) (i : ℕ) → new ≡ images ++ p ∷ [] → length images ≡ i → length new ≡ i + 1
  images_count images new p i more count = let both = length-append images (p ∷ []) in let same : length new ≡ length (images ++ p ∷ []) = ap length more in omega arith

  pub images_step : (images new : List Terms) (p : Terms) (i : ℕ) → length images ≡ i → new ≡ images ++ p ∷ [] → AreImages images → IsPolyOf S (λ a. a) (image S.field m.rows (cells_of S.field m) i) p → AreImages new
  images_step images new p i count more was is = subst AreImages (sym more)
      (all_at_push (λ i p. IsPolyOf S (λ a. a) (image S.field m.rows (cells_of S.field m) i) p) images p was (subst (λ j. IsPolyOf S (λ a. a) (image S.field m.rows (cells_of S.field m) j) p) (sym count) is))

  pub images_polys : (images : List Terms) → AreImages images → ArePolys S (λ a. a) images
  images_polys images are i d w = let is = are i d w in record { fits = is.fits; position = is.position }

  image_keys : (Q : Key → Type 0) → ((i : ℕ) → Supp S.field Q (image S.field m.rows (cells_of S.field m) i)) → (images : List Terms) → AreImages images → All (λ p. All (λ e. Q (key e.0)) (listed p)) images
  image_keys Q h images are i d w = let is = are i d w in fits_keys S Q (listed (get_or images i d)) is.fits (subst (Supp S.field Q) (sym is.is) (h i))

  -- their exponents are at most 1
  image_bounded : (i : ℕ) → Supp S.field (Bounded 1) (image S.field m.rows (cells_of S.field m) i)
  unfolding variable_vector
  image_bounded i = image_has S.field (Supp S.field (Bounded 1)) m.rows (cells_of S.field m) i (λ h. linear_form_supp S.field (Bounded 1) m.rows (cells_of S.field m i) (λ j l. single j)) (λ h. single i)
    where
      single : (j : ℕ) → Supp S.field (Bounded 1) (variable_vector S.field j)
      single j = supp_single S.field (Bounded 1) (0, variable j) (variable_bounded j)

  peak_bounded : (es : List (Entry E)) → All (λ e. Bounded 1 (key e.0)) es → peak es ≤ 1
  unfolding key
  peak_bounded [] h = omega arith
  peak_bounded (e ∷ es) h =
      let first = (h 0 e (omega arith)).1 in
      let same = greatest_mono e.0.1 in
      let rest = peak_bounded es (λ i d w. h (suc i) d (omega arith)) in
      omega arith

  highest_bounded : (images : List Terms) → All (λ p. All (λ e. Bounded 1 (key e.0)) (listed p)) images → highest (map (entries (λ a. a)) images) ≤ 1
  highest_bounded [] h = omega arith
  highest_bounded (p ∷ images) h =
      let first = peak_bounded (listed p) (h 0 p (omega arith)) in
      let rest = highest_bounded images (λ i d w. h (suc i) d (omega arith)) in
      omega arith

  pub images_small : (cap : ℕ) (es : List (Entry E)) (images : List Terms) → AreImages images → All (λ e. total e.0.1 ≤ cap) es → All (λ e. total e.0.1 * highest (map (entries (λ a. a)) images) ≤ cap) es
  images_small cap es images are few i d w =
      let least : total (get_or es i d).0.1 * highest (map (entries (λ a. a)) images) ≤ cap * 1 = mul-le-mul (few i d w) (highest_bounded images (image_keys (Bounded 1) image_bounded images are)) in
      omega arith

  -- the value at the images is the image
  values_image : (images : List Terms) (i : ℕ) → i < length images → (d : Terms) → image_of (vector_ring S.field) (vectors_of S (λ a. a) images) i ≡ vec S.field (listed (get_or images i d))
  values_image [] i h d = absurd (omega arith)
  values_image (p ∷ images) zero h d = refl
  values_image (p ∷ images) (suc i) h d = values_image images i (omega arith) d

  pub value_acted : (images : List Terms) (f v : Terms) → AreImages images → length images ≡ length S.weights → Fits S (listed f)
      → vec S.field (listed v) ≡ substitute S.field (vectors_of S (λ a. a) images) (vec S.field (listed f)) → vec S.field (listed v) ≡ act_by S.field m (vec S.field (listed f))
  value_acted images f v are count fits is = is ∙ sym (act_substitute S.field m.rows (cells_of S.field m) (length S.weights) (vectors_of S (λ a. a) images)
      (λ i h. let w : i < length images = omega arith in values_image images i w [] ∙ (are i [] w).is) (vec S.field (listed f)) (vec_in_variables S (listed f) fits))
