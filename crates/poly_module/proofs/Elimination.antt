-- Gaussian elimination: each finite list of vectors has one reduced echelon list, and its span is decided.
use Rattle.std.proofs.Common.{◌≡◌, ◌⊎◌, inl, inr, List, [], ◌∷◌, map, sym, ap, ap₂, ◌∙◌, refl, subst}
use Rattle.std.specs.declared.cmp.Ordering.TheVariants.{Less}
use Rattle.alg_core.specs.RingLaws as rings
use Rattle.alg_core.specs.ModuleLaws as modules
use Rattle.alg_core.specs.Fields.{FieldOn, Scalar, scalars, is_field}
use Rattle.alg_core.specs.Keys.{Key, key_same}
use Rattle.alg_core.specs.KeyOrders.{OrderOn, Trichotomy, trichotomy, less_transitive}
use Rattle.alg_core.specs.Leads.{HasLead, has_lead}
use Rattle.alg_core.specs.Lists.{In, map_in}
use Rattle.alg_core.specs.Vectors.{Vect, vectors, coef_at, plus, zero_vector}
use Rattle.poly_module.specs.Modules.{LeadBy}
use Rattle.poly_module.specs.Echelons.{Spans}
use Rattle.alg_core.proofs.SpanLaws.{span_add, span_act, span_minus, span_tail, span_head, span_member, span_within}
use Rattle.poly_module.proofs.Reduced.{difference, coef_difference, difference_zero}
use Rattle.poly_module.proofs.EchelonLists.{Row, rows, IsRow, AreRows, shadow, left, coef_at_act, shadow_in_span, left_at_pivot, in_rows}

module _ {E : Type 0} (k : FieldOn E) where
  abbrev zero : Scalar k
  zero = (scalars k).zero

  one_not_zero : (c : Scalar k) → c ≡ (scalars k).one → ¬ (c ≡ zero)
  one_not_zero c e z = (is_field k).one_not_zero (sym e ∙ z)

  -- a difference and what was taken away
  pub difference_plus : (u v : Vect k) → (vectors k).◌+◌ (difference k u v) v ≡ u
  unfolding difference plus
  difference_plus u v = (vectors k).add_assoc _ _ _ ∙ ap ((vectors k).◌+◌ u) (modules.minus_add (vectors k) v) ∙ (vectors k).add_zero u

  span_difference : (vs : List (Vect k)) (u v : Vect k) → Spans k vs u → Spans k vs v → Spans k vs (difference k u v)
  unfolding difference plus
  span_difference vs u v a b = span_add (vectors k) vs u _ a (span_minus (vectors k) vs v b)

  pub in_rows_back : (l : List (Row k)) (w : Vect k) → In w (rows k l) → (e : Row k) × In e l × (e.0 ≡ w)
  in_rows_back [] w i = absurd i
  in_rows_back (e ∷ l) w (inl p) = (e, inl refl, p)
  in_rows_back (e ∷ l) w (inr i) = let r = in_rows_back l w i in (r.0, inr r.1, r.2)

  pub in_rows_of : (l : List (Row k)) (e : Row k) → In e l → In e.0 (rows k l)
  in_rows_of l e i = map_in (λ f. f.0) e l i

  in_map_back : (f : Row k → Row k) (l : List (Row k)) (x : Row k) → In x (map f l) → (e : Row k) × In e l × (f e ≡ x)
  in_map_back f [] x i = absurd i
  in_map_back f (e ∷ l) x (inl p) = (e, inl refl, p)
  in_map_back f (e ∷ l) x (inr i) = let r = in_map_back f l x i in (r.0, inr r.1, r.2)

  module _ (o : OrderOn Key) where
    -- a row at its place
    place_by : (e f : Row k) → Trichotomy o e.1 f.1 → List (Row k) → List (Row k) → List (Row k)
    place_by e f (inl (inl h)) l r = f ∷ r
    place_by e f (inl (inr h)) l r = e ∷ f ∷ l
    place_by e f (inr h) l r = e ∷ f ∷ l

    place : Row k → List (Row k) → List (Row k)
    place e [] = e ∷ []
    place e (f ∷ l) = place_by e f (trichotomy o e.1 f.1) l (place e l)

    place_in : (e : Row k) (l : List (Row k)) (g : Row k) → In g (place e l) → (e ≡ g) ⊎ In g l
    unfolding place place_by
    place_in e [] g (inl p) = inl p
    place_in e [] g (inr i) = absurd i
    place_in e (f ∷ l) g i = go (trichotomy o e.1 f.1) i (place_in e l g)
      where
        go : (d : Trichotomy o e.1 f.1) → In g (place_by e f d l (place e l)) → (In g (place e l) → (e ≡ g) ⊎ In g l) → (e ≡ g) ⊎ In g (f ∷ l)
        go (inl (inl h)) (inl p) ih = inr (inl p)
        go (inl (inl h)) (inr j) ih = later (ih j)
          where
            later : (e ≡ g) ⊎ In g l → (e ≡ g) ⊎ In g (f ∷ l)
            later (inl p) = inl p
            later (inr j) = inr (inr j)
        go (inl (inr h)) (inl p) ih = inl p
        go (inl (inr h)) (inr j) ih = inr j
        go (inr h) (inl p) ih = inl p
        go (inr h) (inr j) ih = inr j

    in_place : (e : Row k) (l : List (Row k)) (g : Row k) → (e ≡ g) ⊎ In g l → In g (place e l)
    unfolding place place_by
    in_place e [] g (inl p) = inl p
    in_place e [] g (inr i) = absurd i
    in_place e (f ∷ l) g i = go (trichotomy o e.1 f.1) i (in_place e l g)
      where
        go : (d : Trichotomy o e.1 f.1) → (e ≡ g) ⊎ In g (f ∷ l) → ((e ≡ g) ⊎ In g l → In g (place e l)) → In g (place_by e f d l (place e l))
        go (inl (inl h)) (inl p) ih = inr (ih (inl p))
        go (inl (inl h)) (inr (inl p)) ih = inl p
        go (inl (inl h)) (inr (inr j)) ih = inr (ih (inr j))
        go (inl (inr h)) (inl p) ih = inl p
        go (inl (inr h)) (inr j) ih = inr j
        go (inr h) (inl p) ih = inl p
        go (inr h) (inr j) ih = inr j

    -- the pivots of two rows are no keys of the other row
    abbrev Clear : Row k → Row k → Type 0
    Clear e f = (coef_at k e.0 f.1 ≡ zero) × (coef_at k f.0 e.1 ≡ zero)

    rows_place : (e : Row k) (l : List (Row k)) → IsRow k o e → ((f : Row k) → In f l → Clear e f) → AreRows k o l → AreRows k o (place e l)
    unfolding place place_by AreRows
    rows_place e [] r c a = (r, (λ f i. absurd i), tt)
    rows_place e (f ∷ l) r c a = go (trichotomy o e.1 f.1) (rows_place e l r (λ g i. c g (inr i)) a.2)
      where
        go : (d : Trichotomy o e.1 f.1) → AreRows k o (place e l) → AreRows k o (place_by e f d l (place e l))
        go (inl (inl h)) ih = (a.0, (λ g i. old g (place_in e l g i)), ih)
          where
            old : (g : Row k) → (e ≡ g) ⊎ In g l → (o.compare g.1 f.1 ≡ Less) × (coef_at k f.0 g.1 ≡ zero) × (coef_at k g.0 f.1 ≡ zero)
            old g (inl p) = subst (λ x. (o.compare x.1 f.1 ≡ Less) × (coef_at k f.0 x.1 ≡ zero) × (coef_at k x.0 f.1 ≡ zero)) p (h, (c f (inl refl)).1, (c f (inl refl)).0)
            old g (inr i) = a.1 g i
        go (inl (inr h)) ih = absurd (one_not_zero _ r.monic (ap (coef_at k e.0) h ∙ (c f (inl refl)).0))
        go (inr h) ih = (r, below, a)
          where
            below : (g : Row k) → In g (f ∷ l) → (o.compare g.1 e.1 ≡ Less) × (coef_at k e.0 g.1 ≡ zero) × (coef_at k g.0 e.1 ≡ zero)
            below g (inl p) = (subst (λ x. o.compare x.1 e.1 ≡ Less) p h, (c g (inl p)).0, (c g (inl p)).1)
            below g (inr i) = (less_transitive o g.1 f.1 e.1 (a.1 g i).0 h, (c g (inr i)).0, (c g (inr i)).1)

    -- a row less its multiple of e, so that it is 0 at the pivot of e
    cleared : Row k → Row k → Row k
    cleared e f = (difference k f.0 ((vectors k).◌·◌ (coef_at k f.0 e.1) e.0), f.1)

    coef_cleared : (e f : Row k) (s : Key) → coef_at k (cleared e f).0 s ≡ (scalars k).◌+◌ (coef_at k f.0 s) ((scalars k).◌*◌ ((scalars k).neg (scalars k).one) ((scalars k).◌*◌ (coef_at k f.0 e.1) (coef_at k e.0 s)))
    unfolding cleared
    coef_cleared e f s = coef_difference k f.0 _ s ∙ ap (λ c. (scalars k).◌+◌ (coef_at k f.0 s) ((scalars k).◌*◌ ((scalars k).neg (scalars k).one) c)) (coef_at_act k _ e.0 s)

    cleared_same : (e f : Row k) (s : Key) → (scalars k).◌*◌ (coef_at k f.0 e.1) (coef_at k e.0 s) ≡ zero → coef_at k (cleared e f).0 s ≡ coef_at k f.0 s
    cleared_same e f s z = coef_cleared e f s ∙ ap ((scalars k).◌+◌ (coef_at k f.0 s)) (ap ((scalars k).◌*◌ _) z ∙ rings.mul_zero (scalars k) _) ∙ (scalars k).add_zero _

    cleared_pivot : (e f : Row k) → IsRow k o e → coef_at k (cleared e f).0 e.1 ≡ zero
    cleared_pivot e f r = coef_cleared e f e.1 ∙ ap (λ c. (scalars k).◌+◌ (coef_at k f.0 e.1) ((scalars k).◌*◌ ((scalars k).neg (scalars k).one) c)) (ap ((scalars k).◌*◌ _) r.monic ∙ (scalars k).mul_one _)
        ∙ ap₂ (scalars k).◌+◌ (sym (rings.one_mul (scalars k) _)) refl ∙ sym (rings.add_mul (scalars k) (scalars k).one ((scalars k).neg (scalars k).one) _) ∙ ap (λ d. (scalars k).◌*◌ d (coef_at k f.0 e.1)) ((scalars k).add_neg (scalars k).one) ∙ rings.zero_mul (scalars k) _

    -- above the pivot of f nothing changes
    unchanged_above : (e f : Row k) → IsRow k o e → IsRow k o f → (s : Key) → o.compare f.1 s ≡ Less → (scalars k).◌*◌ (coef_at k f.0 e.1) (coef_at k e.0 s) ≡ zero
    unfolding coef_at
    unchanged_above e f r q s h = go (trichotomy o e.1 s)
      where
        left_zero : coef_at k f.0 e.1 ≡ zero → (scalars k).◌*◌ (coef_at k f.0 e.1) (coef_at k e.0 s) ≡ zero
        left_zero z = ap (λ c. (scalars k).◌*◌ c (coef_at k e.0 s)) z ∙ rings.zero_mul (scalars k) _

        go : Trichotomy o e.1 s → (scalars k).◌*◌ (coef_at k f.0 e.1) (coef_at k e.0 s) ≡ zero
        go (inl (inl g)) = ap ((scalars k).◌*◌ _) (r.lead.above s g) ∙ rings.mul_zero (scalars k) _
        go (inl (inr g)) = left_zero (ap (coef_at k f.0) g ∙ q.lead.above s h)
        go (inr g) = left_zero (q.lead.above e.1 (less_transitive o f.1 s e.1 h g))

    row_cleared : (e f : Row k) → IsRow k o e → IsRow k o f → coef_at k e.0 f.1 ≡ zero → IsRow k o (cleared e f)
    unfolding coef_at cleared
    row_cleared e f r q z = record {
      lead = record {
        there = one_not_zero _ monic;
        above = λ s h. cleared_same e f s (unchanged_above e f r q s h) ∙ q.lead.above s h;
      };
      monic = monic;
    }
      where
        monic : coef_at k (cleared e f).0 f.1 ≡ (scalars k).one
        monic = cleared_same e f f.1 (ap ((scalars k).◌*◌ _) z ∙ rings.mul_zero (scalars k) _) ∙ q.monic

    rows_cleared : (e : Row k) → IsRow k o e → (l : List (Row k)) → ((f : Row k) → In f l → coef_at k e.0 f.1 ≡ zero) → AreRows k o l → AreRows k o (map (cleared e) l)
    unfolding AreRows cleared
    rows_cleared e r [] z a = tt
    rows_cleared e r (x ∷ l) z a = (row_cleared e x r a.0 (z x (inl refl)), (λ g i. each g (in_map_back (cleared e) l g i)), rows_cleared e r l (λ f i. z f (inr i)) a.2)
      where
        none : (f y : Row k) → coef_at k e.0 y.1 ≡ zero → coef_at k f.0 y.1 ≡ zero → coef_at k (cleared e f).0 y.1 ≡ zero
        none f y p q = cleared_same e f y.1 (ap ((scalars k).◌*◌ _) p ∙ rings.mul_zero (scalars k) _) ∙ q

        each : (g : Row k) → (f : Row k) × In f l × (cleared e f ≡ g) → (o.compare g.1 x.1 ≡ Less) × (coef_at k (cleared e x).0 g.1 ≡ zero) × (coef_at k g.0 x.1 ≡ zero)
        each g p = subst (λ y. (o.compare y.1 x.1 ≡ Less) × (coef_at k (cleared e x).0 y.1 ≡ zero) × (coef_at k y.0 x.1 ≡ zero)) p.2
            ((a.1 p.0 p.1).0, none x p.0 (z p.0 (inr p.1)) (a.1 p.0 p.1).1, none p.0 x (z x (inl refl)) (a.1 p.0 p.1).2)

    -- a vector with a lead, made monic
    scaled_row : (v : Vect k) (t : Key) → LeadBy k o v t → Row k
    scaled_row v t l = ((vectors k).◌·◌ ((is_field k).inverse (coef_at k v t)) v, t)

    inverse_times : (v : Vect k) (t : Key) → LeadBy k o v t → (scalars k).◌*◌ ((is_field k).inverse (coef_at k v t)) (coef_at k v t) ≡ (scalars k).one
    unfolding coef_at
    inverse_times v t l = (scalars k).mul_comm _ _ ∙ (is_field k).mul_inverse _ l.there

    is_row : (v : Vect k) (t : Key) (l : LeadBy k o v t) → IsRow k o (scaled_row v t l)
    unfolding coef_at scaled_row
    is_row v t l = record {
      lead = record {
        there = one_not_zero _ (coef_at_act k _ v t ∙ inverse_times v t l);
        above = λ s h. coef_at_act k _ v s ∙ ap ((scalars k).◌*◌ _) (l.above s h) ∙ rings.mul_zero (scalars k) _;
      };
      monic = coef_at_act k _ v t ∙ inverse_times v t l;
    }

    unscaled : (v : Vect k) (t : Key) (l : LeadBy k o v t) → (vectors k).◌·◌ (coef_at k v t) (scaled_row v t l).0 ≡ v
    unfolding scaled_row
    unscaled v t l = sym ((vectors k).mul_act _ _ v) ∙ ap (λ c. (vectors k).◌·◌ c v) ((scalars k).mul_comm _ _ ∙ inverse_times v t l) ∙ (vectors k).one_act v

    -- rows with the span of a list
    pub record RowsOf (vs : List (Vect k)) (l : List (Row k)) : Type 0 where
      pub are : AreRows k o l
      pub inside : (v : Vect k) → Spans k (rows k l) v → Spans k vs v
      pub outside : (v : Vect k) → Spans k vs v → Spans k (rows k l) v

    module _ (v : Vect k) (vs : List (Vect k)) (l : List (Row k)) (h : RowsOf vs l) where
      none_left : left k o l v ≡ zero_vector k → RowsOf (v ∷ vs) l
      unfolding left
      none_left z = record {
        are = h.are;
        inside = λ u s. span_tail (vectors k) v vs u (h.inside u s);
        outside = span_within (vectors k) (v ∷ vs) (rows k l) member;
      }
        where
          member : (u : Vect k) → In u (v ∷ vs) → Spans k (rows k l) u
          member u (inl p) = subst (Spans k (rows k l)) (sym (difference_zero k v (shadow k o l v) z) ∙ p) (shadow_in_span k o l v)
          member u (inr i) = h.outside u (span_member (vectors k) vs u i)

      module _ (t : Key) (lead : LeadBy k o (left k o l v) t) where
        abbrev new : Row k
        new = scaled_row (left k o l v) t lead

        abbrev all : List (Row k)
        all = place new (map (cleared new) l)

        new_clear : (f : Row k) → In f l → coef_at k new.0 f.1 ≡ zero
        unfolding scaled_row
        new_clear f i = coef_at_act k _ (left k o l v) f.1 ∙ ap ((scalars k).◌*◌ _) (left_at_pivot k o l h.are v f i) ∙ rings.mul_zero (scalars k) _

        are_all : AreRows k o all
        unfolding cleared
        are_all = rows_place new (map (cleared new) l) (is_row _ t lead) (λ g i. clear g (in_map_back (cleared new) l g i)) (rows_cleared new (is_row _ t lead) l new_clear h.are)
          where
            clear : (g : Row k) → (f : Row k) × In f l × (cleared new f ≡ g) → Clear new g
            clear g p = subst (Clear new) p.2 (new_clear p.0 p.1, cleared_pivot new p.0 (is_row _ t lead))

        new_inside : Spans k (v ∷ vs) new.0
        unfolding scaled_row left
        new_inside = span_act (vectors k) (v ∷ vs) _ _ (span_difference (v ∷ vs) v (shadow k o l v) (span_head (vectors k) v vs) (span_tail (vectors k) v vs _ (h.inside _ (shadow_in_span k o l v))))

        inside_all : (u : Vect k) → Spans k (rows k all) u → Spans k (v ∷ vs) u
        unfolding cleared
        inside_all = span_within (vectors k) (rows k all) (v ∷ vs) (λ u i. let r = in_rows_back all u i in subst (Spans k (v ∷ vs)) r.2 (member r.0 (place_in new (map (cleared new) l) r.0 r.1)))
          where
            old : (f : Row k) → In f l → Spans k (v ∷ vs) f.0
            old f i = span_tail (vectors k) v vs f.0 (h.inside f.0 (span_member (vectors k) (rows k l) f.0 (in_rows_of l f i)))

            member : (g : Row k) → (new ≡ g) ⊎ In g (map (cleared new) l) → Spans k (v ∷ vs) g.0
            member g (inl p) = subst (λ x. Spans k (v ∷ vs) x.0) p new_inside
            member g (inr i) =
                let r = in_map_back (cleared new) l g i in
                subst (λ x. Spans k (v ∷ vs) x.0) r.2 (span_difference (v ∷ vs) r.0.0 _ (old r.0 r.1) (span_act (vectors k) (v ∷ vs) _ new.0 new_inside))

        row_in : (g : Row k) → (new ≡ g) ⊎ In g (map (cleared new) l) → Spans k (rows k all) g.0
        row_in g i = span_member (vectors k) (rows k all) g.0 (in_rows_of all g (in_place new (map (cleared new) l) g i))

        old_outside : (f : Row k) → In f l → Spans k (rows k all) f.0
        unfolding cleared scaled_row
        old_outside f i = subst (Spans k (rows k all)) (difference_plus f.0 _)
            (span_add (vectors k) (rows k all) _ _ (row_in (cleared new f) (inr (map_in (cleared new) f l i))) (span_act (vectors k) (rows k all) (coef_at k f.0 t) new.0 (row_in new (inl refl))))

        rows_outside : (u : Vect k) → Spans k (rows k l) u → Spans k (rows k all) u
        rows_outside = span_within (vectors k) (rows k l) (rows k all) (λ u i. let r = in_rows_back l u i in subst (Spans k (rows k all)) r.2 (old_outside r.0 r.1))

        one_more : RowsOf (v ∷ vs) all
        unfolding left
        one_more = record { are = are_all; inside = inside_all; outside = span_within (vectors k) (v ∷ vs) (rows k all) member }
          where
            first : Spans k (rows k all) v
            first = subst (Spans k (rows k all)) (difference_plus v (shadow k o l v))
                (span_add (vectors k) (rows k all) (left k o l v) (shadow k o l v)
                (subst (Spans k (rows k all)) (unscaled (left k o l v) t lead) (span_act (vectors k) (rows k all) (coef_at k (left k o l v) t) new.0 (row_in new (inl refl))))
                (rows_outside (shadow k o l v) (shadow_in_span k o l v)))

            member : (u : Vect k) → In u (v ∷ vs) → Spans k (rows k all) u
            member u (inl p) = subst (Spans k (rows k all)) p first
            member u (inr i) = rows_outside u (h.outside u (span_member (vectors k) vs u i))

    -- the elimination
    pub eliminate : (vs : List (Vect k)) → (l : List (Row k)) × RowsOf vs l
    unfolding zero_vector AreRows
    eliminate [] = ([], record { are = tt; inside = λ v s. s; outside = λ v s. s })
    eliminate (v ∷ vs) = let r = eliminate vs in go r.0 r.1 (has_lead (scalars k) (is_field k) key_same o (left k o r.0 v))
      where
        go : (l : List (Row k)) → RowsOf vs l → HasLead (scalars k) (is_field k) key_same o (left k o l v) → (l : List (Row k)) × RowsOf (v ∷ vs) l
        go l h (inl z) = (l, none_left v vs l h z)
        go l h (inr n) = (all v vs l h n.0 n.1, one_more v vs l h n.0 n.1)

    -- whether a vector lies in the span of a list
    pub span_decidable : (vs : List (Vect k)) (v : Vect k) → Dec (Spans k vs v)
    span_decidable vs v = let r = eliminate vs in go r.0 r.1 (in_rows k o r.0 r.1.are v)
      where
        go : (l : List (Row k)) → RowsOf vs l → Dec (Spans k (rows k l) v) → Dec (Spans k vs v)
        go l h (yes s) = yes (h.inside v s)
        go l h (no n) = no (λ s. n (h.outside v s))
