-- Each finite list of vectors has one reduced echelon list; the leads of its span; and what is left of a vector by a span.
use Rattle.std.proofs.Common.{◌≡◌, ℕ, zero, suc, get_or, ◌⊎◌, inl, inr, List, [], ◌∷◌, map, sym, ap, ap₂, ◌∙◌, refl, subst}
use Rattle.std.specs.declared.cmp.Ordering.TheVariants.{Less}
use Rattle.alg_core.specs.RingLaws as rings
use Rattle.alg_core.specs.Fields.{FieldOn, Scalar, scalars, is_field}
use Rattle.alg_core.specs.Keys.{Key, key_same}
use Rattle.alg_core.specs.KeyOrders.{OrderOn, Trichotomy, trichotomy, less_irreflexive}
use Rattle.alg_core.specs.Leads.{lead_unique}
use Rattle.alg_core.specs.Lists.{In}
use Rattle.alg_core.specs.Vectors.{Vect, vectors, coef_at, plus}
use Rattle.alg_core.specs.Spans.{combine, Independent}
use Rattle.poly_module.specs.Modules.{LeadBy, IsSubspace}
use Rattle.poly_module.specs.ReducedLists.{LeadsFall}
use Rattle.poly_module.specs.Echelons.{Spans, IsEchelon}
use Rattle.alg_core.proofs.SpanLaws.{span_member}
use Rattle.poly_module.proofs.Reduced.{reduced_unique}
use Rattle.poly_module.proofs.EchelonLists.{Row, rows, IsRow, AreRows, shadow, left, at_pivots, coef_at_act, coef_at_sum, coef_at_nothing, shadow_in_span, shadow_of_span, left_at_pivot, pivots_combine, spans_subspace}
use Rattle.poly_module.proofs.Elimination.{in_rows_back, in_rows_of, difference_plus, RowsOf, eliminate}

module _ {E : Type 0} (k : FieldOn E) (o : OrderOn Key) where
  abbrev nought : Scalar k
  nought = (scalars k).zero

  row_of : (l : List (Row k)) → AreRows k o l → (e : Row k) → In e l → IsRow k o e
  unfolding AreRows
  row_of [] a e i = absurd i
  row_of (x ∷ l) a e (inl p) = subst (IsRow k o) p a.0
  row_of (x ∷ l) a e (inr i) = row_of l a.2 e i

  -- the pivot of another row is no key of a row
  other_pivot : (l : List (Row k)) → AreRows k o l → (e f : Row k) → In e l → In f l → (f ≡ e) ⊎ (coef_at k e.0 f.1 ≡ nought)
  unfolding AreRows
  other_pivot [] a e f i j = absurd i
  other_pivot (x ∷ l) a e f (inl p) (inl q) = inl (sym q ∙ p)
  other_pivot (x ∷ l) a e f (inl p) (inr j) = inr (subst (λ y. coef_at k y.0 f.1 ≡ nought) p (a.1 f j).1)
  other_pivot (x ∷ l) a e f (inr i) (inl q) = inr (subst (λ y. coef_at k e.0 y.1 ≡ nought) q (a.1 e i).2)
  other_pivot (x ∷ l) a e f (inr i) (inr j) = other_pivot l a.2 e f i j

  -- a key that is the pivot of a row, or of none
  pivot_or_not : (t : Key) (l : List (Row k)) → ((e : Row k) × In e l × (e.1 ≡ t)) ⊎ ((e : Row k) → In e l → ¬ (e.1 ≡ t))
  pivot_or_not t [] = inr (λ e i. absurd i)
  pivot_or_not t (x ∷ l) = go (key_same x.1 t) (pivot_or_not t l)
    where
      go : Dec (x.1 ≡ t) → (((e : Row k) × In e l × (e.1 ≡ t)) ⊎ ((e : Row k) → In e l → ¬ (e.1 ≡ t))) → ((e : Row k) × In e (x ∷ l) × (e.1 ≡ t)) ⊎ ((e : Row k) → In e (x ∷ l) → ¬ (e.1 ≡ t))
      go (yes p) r = inl (x, inl refl, p)
      go (no n) (inl r) = inl (r.0, inr r.1, r.2)
      go (no n) (inr r) = inr each
        where
          each : (e : Row k) → In e (x ∷ l) → ¬ (e.1 ≡ t)
          each e (inl p) q = n (ap (λ y. y.1) p ∙ q)
          each e (inr i) q = r e i q

  -- the lead of an element of the span is a pivot
  lead_is_pivot : (l : List (Row k)) → AreRows k o l → (v : Vect k) (t : Key) → Spans k (rows k l) v → LeadBy k o v t → (e : Row k) × In e l × (e.1 ≡ t)
  unfolding shadow at_pivots coef_at
  lead_is_pivot l a v t s lead = go (pivot_or_not t l)
    where
      term : (e : Row k) → IsRow k o e → ¬ (e.1 ≡ t) → (scalars k).◌*◌ (coef_at k v e.1) (coef_at k e.0 t) ≡ nought
      term e r n = by (trichotomy o e.1 t)
        where
          by : Trichotomy o e.1 t → (scalars k).◌*◌ (coef_at k v e.1) (coef_at k e.0 t) ≡ nought
          by (inl (inl h)) = ap ((scalars k).◌*◌ _) (r.lead.above t h) ∙ rings.mul_zero (scalars k) _
          by (inl (inr h)) = absurd (n h)
          by (inr h) = ap (λ c. (scalars k).◌*◌ c (coef_at k e.0 t)) (lead.above e.1 h) ∙ rings.zero_mul (scalars k) _

      nothing : (m : List (Row k)) → ((e : Row k) → In e m → IsRow k o e) → ((e : Row k) → In e m → ¬ (e.1 ≡ t)) → coef_at k (combine (vectors k) (map (λ e. coef_at k v e.1) m) (rows k m)) t ≡ nought
      nothing [] r n = coef_at_nothing k t
      nothing (e ∷ m) r n = coef_at_sum k _ _ t ∙ ap₂ (scalars k).◌+◌ (coef_at_act k _ e.0 t ∙ term e (r e (inl refl)) (n e (inl refl))) (nothing m (λ f i. r f (inr i)) (λ f i. n f (inr i))) ∙ (scalars k).add_zero nought

      go : ((e : Row k) × In e l × (e.1 ≡ t)) ⊎ ((e : Row k) → In e l → ¬ (e.1 ≡ t)) → (e : Row k) × In e l × (e.1 ≡ t)
      go (inl r) = r
      go (inr n) = absurd (lead.there (ap (λ u. coef_at k u t) (sym (shadow_of_span k o l a v s)) ∙ nothing l (row_of l a) n))

  leads_fall : (l : List (Row k)) → AreRows k o l → LeadsFall k o (rows k l)
  unfolding AreRows
  leads_fall [] a = tt
  leads_fall (x ∷ l) a = (each, leads_fall l a.2)
    where
      each : (w : Vect k) (s t : Key) → In w (rows k l) → LeadBy k o x.0 s → LeadBy k o w t → o.compare t s ≡ Less
      each w s t i p q =
          let r = in_rows_back k l w i in
          let here : x.1 ≡ s = lead_unique (scalars k) (is_field k) key_same o x.0 x.1 s a.0.lead p in
          let there : r.0.1 ≡ t = lead_unique (scalars k) (is_field k) key_same o w r.0.1 t (subst (λ u. LeadBy k o u r.0.1) r.2 (row_of l a.2 r.0 r.1).lead) q in
          subst (λ u. o.compare u s ≡ Less) there (subst (λ u. o.compare r.0.1 u ≡ Less) here (a.1 r.0 r.1).0)

  -- rows are a reduced echelon list of their span
  pub echelon_rows : (vs : List (Vect k)) (l : List (Row k)) → RowsOf k o vs l → IsEchelon k o (Spans k vs) (rows k l)
  echelon_rows vs l h = record {
    reduced = record {
      inside = λ v i. h.inside v (span_member (vectors k) (rows k l) v i);
      lead = λ v i. let r = in_rows_back k l v i in (r.0.1, subst (λ u. LeadBy k o u r.0.1) r.2 (row_of l h.are r.0 r.1).lead);
      monic = monic;
      covers = λ v t s lead. let r = lead_is_pivot l h.are v t (h.outside v s) lead in (r.0.0, r.0.1, in_rows_of k l r.0 r.1, (row_of l h.are r.0 r.1).lead, r.2);
      apart = apart;
      falling = leads_fall l h.are;
    };
    spans = h.outside;
  }
    where
      pivot_of : (v : Vect k) (t : Key) (r : (e : Row k) × In e l × (e.0 ≡ v)) → LeadBy k o v t → r.0.1 ≡ t
      pivot_of v t r lead = lead_unique (scalars k) (is_field k) key_same o v r.0.1 t (subst (λ u. LeadBy k o u r.0.1) r.2 (row_of l h.are r.0 r.1).lead) lead

      monic : (v : Vect k) (t : Key) → In v (rows k l) → LeadBy k o v t → coef_at k v t ≡ (scalars k).one
      monic v t i lead =
          let r = in_rows_back k l v i in
          ap₂ (coef_at k) (sym r.2) (sym (pivot_of v t r lead)) ∙ (row_of l h.are r.0 r.1).monic

      apart : (v w : Vect k) (s t : Key) → In v (rows k l) → In w (rows k l) → LeadBy k o w s → ¬ (coef_at k v t ≡ nought) → s ≡ t → w ≡ v
      apart v w s t i j lead n e =
          let p = in_rows_back k l v i in
          let q = in_rows_back k l w j in
          go p q (pivot_of w s q lead) (other_pivot l h.are p.0 q.0 p.1 q.1)
        where
          go : (p : (e : Row k) × In e l × (e.0 ≡ v)) (q : (e : Row k) × In e l × (e.0 ≡ w)) → q.0.1 ≡ s → (q.0 ≡ p.0) ⊎ (coef_at k p.0.0 q.0.1 ≡ nought) → w ≡ v
          go p q is (inl same) = sym q.2 ∙ ap (λ x. x.0) same ∙ p.2
          go p q is (inr none) = absurd (n (ap₂ (coef_at k) (sym p.2) (sym (is ∙ e)) ∙ none))

  -- each finite list of vectors has a reduced echelon list
  pub echelon_exists : (vs : List (Vect k)) → (ws : List (Vect k)) × IsEchelon k o (Spans k vs) ws
  echelon_exists vs = let r = eliminate k o vs in (rows k r.0, echelon_rows vs r.0 r.1)

  -- and a subspace has at most one
  pub echelon_unique : (U : Vect k → Type 0) → IsSubspace k U → (vs ws : List (Vect k)) → IsEchelon k o U vs → IsEchelon k o U ws → vs ≡ ws
  echelon_unique U sub vs ws a b = reduced_unique k o (λ s t. s ≡ t) U sub (λ s t u p q. p ∙ q) (λ t. Unit {0}) (λ v u t n. tt) (λ s t w e h. less_irreflexive o t s (sym e) h) vs ws a.reduced b.reduced

  -- Each vector is the sum of an element of the span and a vector in which no lead of the span is a key.
  pub span_split : (vs : List (Vect k)) (v : Vect k) → (s : Vect k) × (g : Vect k) × Spans k vs s × (plus k g s ≡ v)
      × ((w : Vect k) (t : Key) → Spans k vs w → LeadBy k o w t → coef_at k g t ≡ (scalars k).zero)
  unfolding plus left
  span_split vs v =
      let r = eliminate k o vs in
      let l = r.0 in (
        shadow k o l v,
        left k o l v,
        r.1.inside _ (shadow_in_span k o l v),
        difference_plus k v (shadow k o l v),
        λ w t s lead. let p = lead_is_pivot l r.1.are w t (r.1.outside w s) lead in ap (coef_at k (left k o l v)) (sym p.2) ∙ left_at_pivot k o l r.1.are v p.0 p.1,
      )

  -- rows are independent
  rows_independent : (l : List (Row k)) → AreRows k o l → Independent (vectors k) (rows k l)
  unfolding at_pivots
  rows_independent l a cs e z i = ap (λ ds. get_or ds i nought) (sym (pivots_combine k o l a cs e)) ∙ ap (λ v. get_or (map (λ f. coef_at k v f.1) l) i nought) z ∙ none l i
    where
      none : (l : List (Row k)) (i : ℕ) → get_or (map (λ f. coef_at k (vectors k).zero f.1) l) i nought ≡ nought
      none [] i = refl
      none (x ∷ l) zero = coef_at_nothing k x.1
      none (x ∷ l) (suc i) = none l i

  -- the reduced echelon list of a span is independent
  pub echelon_independent : (vs ws : List (Vect k)) → IsEchelon k o (Spans k vs) ws → Independent (vectors k) ws
  echelon_independent vs ws e =
      let r = eliminate k o vs in
      subst (Independent (vectors k)) (echelon_unique (Spans k vs) (spans_subspace k vs) (rows k r.0) ws (echelon_rows vs r.0 r.1) e) (rows_independent r.0 r.1.are)
