-- Lists of entries that fit a space: how they are put together, and that the vector tells the list.
use Rattle.std.proofs.Common.{◌≡◌, List, [], ◌∷◌, ◌++◌, refl, sym, ap, ap₂, subst, ◌∙◌}
use Rattle.std.specs.declared.cmp.Ordering.TheVariants.{Less, Greater}
use Rattle.std.specs.Ordering.{ordering_reverse}
use Rattle.alg_core.specs.Fields.{Scalar, scalars, is_field, scalar, scalar_injective, scalar_not_zero}
use Rattle.alg_core.specs.FreeModules.{coef, coef_class}
use Rattle.alg_core.specs.Keys.{TermPlace, Key, key, key_same, key_injective}
use Rattle.alg_core.specs.PlaceOrders.{PlaceOrder}
use Rattle.alg_core.specs.CanonicalLists.{AllBelow, IsCanonical, IsLead, canonical_unique, terms, terms_class}
use Rattle.alg_core.specs.Leads.{lead_head}
use Rattle.alg_core.specs.Vectors.{Entry, formal_sum, vec, coef_at, zero_vector}
use Rattle.alg_core.specs.Spaces.{SpaceOver, IsTerm, IsPlace, IsAbove, Fits}
use Rattle.alg_core.specs.SpaceOrder.{key_order, key_compare_places}
use Rattle.alg_core.proofs.VectorLaws.{coef_at_zero}

module _ (o : PlaceOrder) where
  pub less_turned : (p q : TermPlace) → o.compare p q ≡ Less → o.compare q p ≡ Greater
  less_turned p q e = o.total.antisymm q p ∙ ap ordering_reverse e

  pub greater_turned : (p q : TermPlace) → o.compare p q ≡ Greater → o.compare q p ≡ Less
  greater_turned p q e = o.total.antisymm q p ∙ ap ordering_reverse e

  pub greater_transitive : (p q r : TermPlace) → o.compare p q ≡ Greater → o.compare q r ≡ Greater → o.compare p r ≡ Greater
  greater_transitive p q r pq qr = less_turned r p (o.total.trans r q p (greater_turned q r qr) (greater_turned p q pq))

module _ {E : Type 0} (S : SpaceOver E) where
  -- what is above the first is above all
  pub above_more : (p q : TermPlace) (es : List (Entry E)) → S.order.compare p q ≡ Greater → IsAbove S q es → IsAbove S p es
  above_more p q [] g a = tt
  above_more p q (f ∷ fs) g a = (greater_transitive S.order p q f.0 g a.0, above_more p q fs g a.1)

  pub above_append : (p : TermPlace) (xs ys : List (Entry E)) → IsAbove S p xs → IsAbove S p ys → IsAbove S p (xs ++ ys)
  above_append p [] ys hx hy = hy
  above_append p (x ∷ xs) ys hx hy = (hx.0, above_append p xs ys hx.1 hy)

  pub above_front : (p : TermPlace) (xs ys : List (Entry E)) → IsAbove S p (xs ++ ys) → IsAbove S p xs
  above_front p [] ys h = tt
  above_front p (x ∷ xs) ys h = (h.0, above_front p xs ys h.1)

  pub above_back : (p : TermPlace) (xs ys : List (Entry E)) → IsAbove S p (xs ++ ys) → IsAbove S p ys
  above_back p [] ys h = h
  above_back p (x ∷ xs) ys h = above_back p xs ys h.1

  pub fits_front : (xs ys : List (Entry E)) → Fits S (xs ++ ys) → Fits S xs
  fits_front [] ys h = tt
  fits_front (x ∷ xs) ys h = (h.0, above_front x.0 xs ys h.1, fits_front xs ys h.2)

  pub fits_back : (xs ys : List (Entry E)) → Fits S (xs ++ ys) → Fits S ys
  fits_back [] ys h = h
  fits_back (x ∷ xs) ys h = fits_back xs ys h.2

  -- an entry put between
  pub fits_insert : (xs : List (Entry E)) (e : Entry E) (ys : List (Entry E)) → Fits S (xs ++ (e ∷ [])) → Fits S (xs ++ ys) → IsAbove S e.0 ys → Fits S (xs ++ (e ∷ ys))
  fits_insert [] e ys he hy above = (he.0, above, hy)
  fits_insert (x ∷ xs) e ys he hy above =
      (he.0, above_append x.0 xs (e ∷ ys) (above_front x.0 xs ys hy.1) ((above_back x.0 xs (e ∷ []) he.1).0, above_back x.0 xs ys hy.1), fits_insert xs e ys he.2 hy.2 above)

  -- an entry taken out
  pub fits_without : (made : List (Entry E)) (e : Entry E) (xs : List (Entry E)) → Fits S (made ++ (e ∷ xs)) → Fits S (made ++ xs)
  fits_without [] e xs s = s.2
  fits_without (x ∷ made) e xs s = (s.0, above_append x.0 made xs (above_front x.0 made (e ∷ xs) s.1) (above_back x.0 made (e ∷ xs) s.1).1, fits_without made e xs s.2)

  -- another value at a place
  pub fits_revalue : (made : List (Entry E)) (e f : Entry E) (xs : List (Entry E)) → e.0 ≡ f.0 → IsTerm S f → Fits S (made ++ (e ∷ xs)) → Fits S (made ++ (f ∷ xs))
  fits_revalue [] e f xs same h s = (h, subst (λ p. IsAbove S p xs) same s.1, s.2)
  fits_revalue (x ∷ made) e f xs same h s =
      let back = above_back x.0 made (e ∷ xs) s.1 in
      (s.0, above_append x.0 made (f ∷ xs) (above_front x.0 made (e ∷ xs) s.1) (subst (λ p. S.order.compare x.0 p ≡ Greater) same back.0, back.1), fits_revalue made e f xs same h s.2)

  -- entries that fall are keys that fall
  below_formal_sum : (p : TermPlace) (es : List (Entry E)) → IsPlace S p → Fits S es → IsAbove S p es → AllBelow (scalars S.field) (is_field S.field) key_same (key_order S) (key p) (formal_sum S.field es)
  below_formal_sum p [] hp h a = tt
  below_formal_sum p (e ∷ es) hp h a = (key_compare_places _ S.order e.0 p h.0.place.wide hp.wide ∙ greater_turned S.order p e.0 a.0, below_formal_sum p es hp h.2 a.1)

  -- a list that fits is canonical
  pub fits_canonical : (es : List (Entry E)) → Fits S es → IsCanonical (scalars S.field) (is_field S.field) key_same (key_order S) (formal_sum S.field es)
  fits_canonical [] h = tt
  fits_canonical (e ∷ es) h = (scalar_not_zero S.field e.1 h.0.has h.0.not_zero, below_formal_sum e.0 es h.0.place h.2 h.1, fits_canonical es h.2)

  head_or : List (Key × Scalar S.field) → Key × Scalar S.field → Key × Scalar S.field
  head_or [] d = d
  head_or (x ∷ l) d = x

  tail_of : List (Key × Scalar S.field) → List (Key × Scalar S.field)
  tail_of [] = []
  tail_of (x ∷ l) = l

  formal_sum_injective : (es fs : List (Entry E)) → Fits S es → Fits S fs → formal_sum S.field es ≡ formal_sum S.field fs → es ≡ fs
  unfolding head_or tail_of
  formal_sum_injective [] [] h g e = refl
  formal_sum_injective [] (y ∷ fs) h g e = absurd cc
  formal_sum_injective (x ∷ es) [] h g e = absurd cc
  formal_sum_injective (x ∷ es) (y ∷ fs) h g e =
      let here : ◌≡◌ {A = Key × Scalar S.field} (key x.0, scalar S.field x.1) (key y.0, scalar S.field y.1) = ap (λ l. head_or l (key x.0, scalar S.field x.1)) e in
      let places : x.0 ≡ y.0 = key_injective x.0 y.0 (h.0.place.wide ∙ sym g.0.place.wide) (ap (λ z. z.0) here) in
      let values : x.1 ≡ y.1 = scalar_injective S.field x.1 y.1 h.0.has g.0.has (ap (λ z. z.1) here) in
      ap₂ ◌∷◌ (ap₂ (λ p c. (p, c)) places values) (formal_sum_injective es fs h.2 g.2 (ap tail_of e))

  -- lists that fit and have one vector are one list
  pub fits_unique : (es fs : List (Entry E)) → Fits S es → Fits S fs → vec S.field es ≡ vec S.field fs → es ≡ fs
  unfolding vec
  fits_unique es fs h g e = formal_sum_injective es fs h g
      (canonical_unique (scalars S.field) (is_field S.field) key_same (key_order S) _ _ (fits_canonical es h) (fits_canonical fs g)
      (λ t. sym (coef_class (scalars S.field) key_same (formal_sum S.field es) t) ∙ ap (λ v. coef (scalars S.field) key_same v t) e ∙ coef_class (scalars S.field) key_same (formal_sum S.field fs) t))

  -- the terms of the vector of a list that fits
  pub terms_vec : (es : List (Entry E)) → Fits S es → terms (scalars S.field) (is_field S.field) key_same (key_order S) (vec S.field es) ≡ formal_sum S.field es
  unfolding vec
  terms_vec es h = terms_class (scalars S.field) (is_field S.field) key_same (key_order S) (formal_sum S.field es) (fits_canonical es h)

  -- the first entry is the lead
  pub lead_first : (e : Entry E) (es : List (Entry E)) → Fits S (e ∷ es) → IsLead (scalars S.field) (is_field S.field) key_same (key_order S) (vec S.field (e ∷ es)) (key e.0)
  unfolding vec
  lead_first e es h = lead_head (scalars S.field) (is_field S.field) key_same (key_order S) (key e.0, scalar S.field e.1) (formal_sum S.field es) (fits_canonical (e ∷ es) h)

  -- a list with an entry is not 0
  pub vec_not_zero : (e : Entry E) (es : List (Entry E)) → Fits S (e ∷ es) → ¬ (vec S.field (e ∷ es) ≡ zero_vector S.field)
  unfolding coef_at
  vec_not_zero e es h z = (lead_first e es h).there (ap (λ v. coef_at S.field v (key e.0)) z ∙ coef_at_zero S.field (key e.0))
