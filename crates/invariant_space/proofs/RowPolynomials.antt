-- Polynomials from their coefficients at a falling list of keys, and back.
use Rattle.invariant_space.proofs.Common.{◌≡◌, ℕ, zero, suc, ◌<◌, ◌≤◌, inl, inr, List, [], ◌∷◌, length, slice_index_or, sym, ap, ap₂, ◌∙◌, refl, subst, arith, get_or_default, Less, ℕ_discrete, dec_le, Linear, FieldOn, Scalar, scalars, Key, key_same, Falls, OrderOn, less_irreflexive, less_asymmetric, In, Vect, vectors, coef_at, plus, zero_vector, coef_at_ext, coef_at_plus, single_vector, Supp, supp_zero, supp_plus, supp_act, supp_single, supp_weaken, supp_outside, coef_at_single, LeadBy, coef_at_act, unit, columns, unit_at, unit_other, row_polynomial, coordinates, in_contains, contains_in, in_or_not}
use Rattle.alg_core.specs.CanonicalLists.{indicator_yes, indicator_no}
use Rattle.alg_core.specs.RingLaws as rings
use Rattle.alg_core.specs.ModuleLaws as modules

module _ (o : OrderOn Key) where
  -- the first key is not a later one
  pub not_later : (t : Key) (ts : List Key) → Falls o (t ∷ ts) → (s : Key) → In s ts → ¬ (t ≡ s)
  not_later t ts falls s i e = less_irreflexive o s t (sym e) (falls.0 s i)

  -- a key at a later place is smaller
  pub falls_at : (ts : List Key) → Falls o ts → (p q : ℕ) (s t : Key) → p < q → q < length ts → slice_index_or ts p s ≡ s → slice_index_or ts q t ≡ t → o.compare t s ≡ Less
  falls_at [] falls p q s t h g e f = absurd (omega arith)
  falls_at (u ∷ ts) falls p zero s t h g e f = absurd (omega arith)
  falls_at (u ∷ ts) falls zero (suc q) s t h g e f = subst (λ s. o.compare t s ≡ Less) e (falls.0 t (contains_in t ts (q, omega arith, f)))
  falls_at (u ∷ ts) falls (suc p) (suc q) s t h g e f = falls_at ts falls.1 p q s t (omega arith) (omega arith) e f

module _ {E : Type 0} (k : FieldOn E) where
  abbrev nought : Scalar k
  nought = (scalars k).zero

  -- a row of coefficients gives sums for sums and multiples for multiples
  pub row_polynomial_linear : (ts : List Key) → Linear (columns (scalars k)) (vectors k) (row_polynomial k ts)
  unfolding plus zero_vector
  row_polynomial_linear ts = record { add = row_plus ts; act = row_act ts }
    where
      row_plus : (ts : List Key) (w v : ℕ → Scalar k) → row_polynomial k ts ((columns (scalars k)).◌+◌ w v) ≡ (vectors k).◌+◌ (row_polynomial k ts w) (row_polynomial k ts v)
      row_plus [] w v = sym ((vectors k).add_zero _)
      row_plus (t ∷ ts) w v = ap₂ (vectors k).◌+◌ ((vectors k).add_act (w 0) (v 0) _) (row_plus ts (λ l. w (suc l)) (λ l. v (suc l))) ∙ modules.add_swap (vectors k) _ _ _ _

      row_act : (ts : List Key) (c : Scalar k) (w : ℕ → Scalar k) → row_polynomial k ts ((columns (scalars k)).◌·◌ c w) ≡ (vectors k).◌·◌ c (row_polynomial k ts w)
      row_act [] c w = sym (modules.act_zero (vectors k) c)
      row_act (t ∷ ts) c w = ap₂ (vectors k).◌+◌ ((vectors k).mul_act c (w 0) _) (row_act ts c (λ l. w (suc l))) ∙ sym ((vectors k).act_add c _ _)

  -- its keys are in the list
  pub row_keys : (ts : List Key) (w : ℕ → Scalar k) → Supp k (λ t. In t ts) (row_polynomial k ts w)
  row_keys [] w = supp_zero k (λ t. ⊥)
  row_keys (s ∷ ts) w = supp_plus k (λ t. In t (s ∷ ts)) _ _ (supp_act k (λ t. In t (s ∷ ts)) (w 0) _ (supp_single k (λ t. In t (s ∷ ts)) s (inl refl)))
      (supp_weaken k (λ t. In t ts) (λ t. In t (s ∷ ts)) (λ t i. inr i) _ (row_keys ts (λ l. w (suc l))))

  -- the coefficient at the key of a place
  pub coordinates_at : (ts : List Key) (f : Vect k) (l : ℕ) (t : Key) → l < length ts → slice_index_or ts l t ≡ t → coordinates k ts f l ≡ coef_at k f t
  coordinates_at [] f l t h e = absurd (omega arith)
  coordinates_at (s ∷ ts) f zero t h e = ap (coef_at k f) e
  coordinates_at (s ∷ ts) f (suc l) t h e = coordinates_at ts f l t (omega arith) e

  pub coordinates_past : (ts : List Key) (f : Vect k) (l : ℕ) → length ts ≤ l → coordinates k ts f l ≡ (scalars k).zero
  coordinates_past [] f l h = refl
  coordinates_past (s ∷ ts) f zero h = absurd (omega arith)
  coordinates_past (s ∷ ts) f (suc l) h = coordinates_past ts f l (omega arith)

  -- they depend on the coefficients at the keys
  pub coordinates_agree : (ts : List Key) (f g : Vect k) → ((t : Key) → In t ts → coef_at k f t ≡ coef_at k g t) → (l : ℕ) → coordinates k ts f l ≡ coordinates k ts g l
  coordinates_agree [] f g e l = refl
  coordinates_agree (s ∷ ts) f g e zero = e s (inl refl)
  coordinates_agree (s ∷ ts) f g e (suc l) = coordinates_agree ts f g (λ t i. e t (inr i)) l

  pub coordinates_linear : (ts : List Key) → Linear (vectors k) (columns (scalars k)) (coordinates k ts)
  unfolding plus
  coordinates_linear ts = record { add = λ f g i l. coordinates_plus ts f g l i; act = λ c f i l. coordinates_act ts c f l i }
    where
      coordinates_plus : (ts : List Key) (f g : Vect k) (l : ℕ) → coordinates k ts ((vectors k).◌+◌ f g) l ≡ (scalars k).◌+◌ (coordinates k ts f l) (coordinates k ts g l)
      coordinates_plus [] f g l = sym ((scalars k).add_zero nought)
      coordinates_plus (s ∷ ts) f g zero = coef_at_plus k f g s
      coordinates_plus (s ∷ ts) f g (suc l) = coordinates_plus ts f g l

      coordinates_act : (ts : List Key) (c : Scalar k) (f : Vect k) (l : ℕ) → coordinates k ts ((vectors k).◌·◌ c f) l ≡ (scalars k).◌*◌ c (coordinates k ts f l)
      coordinates_act [] c f l = sym (rings.mul_zero (scalars k) c)
      coordinates_act (s ∷ ts) c f zero = coef_at_act k c f s
      coordinates_act (s ∷ ts) c f (suc l) = coordinates_act ts c f l

  -- a vector with no key in the list has the coordinates 0
  pub coordinates_none : (ts : List Key) (f : Vect k) → ((t : Key) → In t ts → coef_at k f t ≡ (scalars k).zero) → (l : ℕ) → coordinates k ts f l ≡ (scalars k).zero
  coordinates_none [] f e l = refl
  coordinates_none (s ∷ ts) f e zero = e s (inl refl)
  coordinates_none (s ∷ ts) f e (suc l) = coordinates_none ts f (λ t i. e t (inr i)) l

  pub coef_single_same : (s t : Key) → s ≡ t → coef_at k (single_vector k s) t ≡ (scalars k).one
  coef_single_same s t e = coef_at_single k s t ∙ indicator_yes (scalars k) (key_same s t) e

  pub coef_single_other : (s t : Key) → ¬ (s ≡ t) → coef_at k (single_vector k s) t ≡ nought
  coef_single_other s t n = coef_at_single k s t ∙ indicator_no (scalars k) (key_same s t) n

  module _ (o : OrderOn Key) where
    -- the coordinates of a key are 1 at its place and 0 elsewhere
    pub coordinates_single : (ts : List Key) → Falls o ts → (l : ℕ) (t : Key) → l < length ts → slice_index_or ts l t ≡ t → (j : ℕ) → coordinates k ts (single_vector k t) j ≡ unit (scalars k) l j
    coordinates_single [] falls l t h e j = absurd (omega arith)
    coordinates_single (s ∷ ts) falls zero t h e zero = coef_single_same t s (sym e) ∙ sym (unit_at (scalars k) 0 0 refl)
    coordinates_single (s ∷ ts) falls zero t h e (suc j) = coordinates_none ts (single_vector k t) (λ u i. coef_single_other t u (λ p. not_later o s ts falls u i (e ∙ p))) j ∙ sym (unit_other (scalars k) 0 (suc j) (λ p. absurd (omega arith)))
    coordinates_single (s ∷ ts) falls (suc l) t h e zero = coef_single_other t s (λ p. not_later o s ts falls t (contains_in t ts (l, omega arith, e)) (sym p)) ∙ sym (unit_other (scalars k) (suc l) 0 (λ p. absurd (omega arith)))
    coordinates_single (s ∷ ts) falls (suc l) t h e (suc j) = coordinates_single ts falls.1 l t (omega arith) e j ∙ next (ℕ_discrete l j)
      where
        next : Dec (l ≡ j) → unit (scalars k) l j ≡ unit (scalars k) (suc l) (suc j)
        next (yes p) = unit_at (scalars k) l j p ∙ sym (unit_at (scalars k) (suc l) (suc j) (ap suc p))
        next (no n) = unit_other (scalars k) l j n ∙ sym (unit_other (scalars k) (suc l) (suc j) (λ p. n (omega arith)))

    -- the coordinates of the polynomial of a row are the row
    pub coordinates_row : (ts : List Key) → Falls o ts → (w : ℕ → Scalar k) (l : ℕ) → l < length ts → coordinates k ts (row_polynomial k ts w) l ≡ w l
    coordinates_row [] falls w l h = absurd (omega arith)
    coordinates_row (s ∷ ts) falls w zero h = coef_at_plus k _ _ s
        ∙ ap₂ (scalars k).◌+◌ (coef_at_act k (w 0) _ s ∙ ap ((scalars k).◌*◌ (w 0)) (coef_single_same s s refl) ∙ (scalars k).mul_one (w 0))
        (supp_outside k (λ t. In t ts) _ (row_keys ts (λ l. w (suc l))) s (λ i. not_later o s ts falls s i refl))
        ∙ (scalars k).add_zero (w 0)
    coordinates_row (s ∷ ts) falls w (suc l) h = coordinates_agree ts _ (row_polynomial k ts (λ l. w (suc l))) later l ∙ coordinates_row ts falls.1 (λ l. w (suc l)) l (omega arith)
      where
        later : (t : Key) → In t ts → coef_at k (row_polynomial k (s ∷ ts) w) t ≡ coef_at k (row_polynomial k ts (λ l. w (suc l))) t
        later t i = coef_at_plus k _ _ t
            ∙ ap₂ (scalars k).◌+◌ (coef_at_act k (w 0) _ t ∙ ap ((scalars k).◌*◌ (w 0)) (coef_single_other s t (not_later o s ts falls t i)) ∙ rings.mul_zero (scalars k) (w 0)) refl
            ∙ rings.zero_add (scalars k) _

    -- the coefficient of the polynomial of a row at the key of a place
    pub coef_row : (ts : List Key) → Falls o ts → (w : ℕ → Scalar k) (l : ℕ) (t : Key) → l < length ts → slice_index_or ts l t ≡ t → coef_at k (row_polynomial k ts w) t ≡ w l
    coef_row ts falls w l t h e = sym (coordinates_at ts _ l t h e) ∙ coordinates_row ts falls w l h

    -- where the row is 0 past the list, it is the coordinates of its polynomial
    pub coordinates_row_all : (ts : List Key) → Falls o ts → (w : ℕ → Scalar k) → ((l : ℕ) → length ts ≤ l → w l ≡ (scalars k).zero) → coordinates k ts (row_polynomial k ts w) ≡ w
    coordinates_row_all ts falls w past i l = go l (dec_le (suc l) (length ts)) i
      where
        go : (l : ℕ) → Dec (suc l ≤ length ts) → coordinates k ts (row_polynomial k ts w) l ≡ w l
        go l (yes h) = coordinates_row ts falls w l (omega arith)
        go l (no n) = let h : length ts ≤ l = omega (arith, n) in coordinates_past ts _ l h ∙ sym (past l h)

    -- the polynomial of the coordinates of a polynomial in these keys is the polynomial
    pub row_coordinates : (ts : List Key) → Falls o ts → (f : Vect k) → Supp k (λ t. In t ts) f → row_polynomial k ts (coordinates k ts f) ≡ f
    row_coordinates ts falls f keys = coef_at_ext k _ f (λ t. go t (in_or_not key_same t ts))
      where
        go : (t : Key) → Dec (In t ts) → coef_at k (row_polynomial k ts (coordinates k ts f)) t ≡ coef_at k f t
        go t (yes i) = let p = in_contains t ts i in coef_row ts falls (coordinates k ts f) p.0 t p.1 p.2 ∙ coordinates_at ts f p.0 t p.1 p.2
        go t (no n) = supp_outside k (λ t. In t ts) _ (row_keys ts (coordinates k ts f)) t n ∙ sym (supp_outside k (λ t. In t ts) f keys t n)

    -- the first place at which the row is not 0 has the lead
    pub row_lead : (ts : List Key) → Falls o ts → (w : ℕ → Scalar k) (p : ℕ) (t : Key) → ((l : ℕ) → l < p → w l ≡ (scalars k).zero) → ¬ (w p ≡ (scalars k).zero) → p < length ts → slice_index_or ts p t ≡ t → LeadBy k o (row_polynomial k ts w) t
    unfolding coef_at
    row_lead ts falls w p t before n h e = record { there = λ z. n (sym (coef_row ts falls w p t h e) ∙ z); above = λ s g. above s g (in_or_not key_same s ts) }
      where
        above : (s : Key) → o.compare t s ≡ Less → Dec (In s ts) → coef_at k (row_polynomial k ts w) s ≡ nought
        above s g (no m) = supp_outside k (λ t. In t ts) _ (row_keys ts w) s m
        above s g (yes i) = let q = in_contains s ts i in coef_row ts falls w q.0 s q.1 q.2 ∙ earlier q.0 q.1 q.2 (dec_le (suc q.0) p)
          where
            earlier : (q : ℕ) → q < length ts → slice_index_or ts q s ≡ s → Dec (suc q ≤ p) → w q ≡ nought
            earlier q inside is (yes low) = before q (omega arith)
            earlier q inside is (no m) = absurd (not_above (ℕ_discrete p q))
              where
                not_above : Dec (p ≡ q) → ⊥
                not_above (yes r) = less_irreflexive o t s (sym e ∙ ap (λ x. slice_index_or ts x t) r ∙ get_or_default ts q t s inside ∙ is) g
                not_above (no m') = less_asymmetric o t s g (falls_at o ts falls p q t s (omega (arith, m, m')) inside e is)
