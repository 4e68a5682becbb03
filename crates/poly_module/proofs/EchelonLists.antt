-- Gaussian elimination: each finite list of vectors has a reduced echelon list with the same span, and its span is decided.
use Rattle.std.proofs.Common.{◌≡◌, inl, inr, suc, List, [], ◌∷◌, length, map, sym, ap, ap₂, ◌∙◌, refl, subst, arith}
use Rattle.std.specs.declared.cmp.Ordering.TheVariants.{Less}
use Rattle.alg_core.specs.RingLaws as rings
use Rattle.alg_core.specs.Fields.{FieldOn, Scalar, scalars, is_field}
use Rattle.alg_core.specs.FreeModules.{coef_add, coef_act, coef_zero}
use Rattle.alg_core.specs.Keys.{Key, key_same}
use Rattle.alg_core.specs.KeyOrders.{OrderOn}
use Rattle.alg_core.specs.Leads.{HasLead, has_lead}
use Rattle.alg_core.specs.Lists.{In}
use Rattle.alg_core.specs.Vectors.{Vect, vectors, coef_at, plus, zero_vector}
use Rattle.poly_module.specs.Parts.{Supp, supp_zero, supp_plus, supp_act}
use Rattle.alg_core.specs.Spans.{combine}
use Rattle.poly_module.specs.Modules.{IsSubspace, LeadBy}
use Rattle.poly_module.specs.Echelons.{Spans}
use Rattle.alg_core.proofs.SpanLaws.{span_zero, span_add, span_act, span_ind}
use Rattle.poly_module.proofs.Reduced.{difference, coef_difference, difference_zero}

module _ {E : Type 0} (k : FieldOn E) where
  abbrev R0 : Scalar k
  R0 = (scalars k).zero

  pub coef_at_act : (c : Scalar k) (v : Vect k) (t : Key) → coef_at k ((vectors k).◌·◌ c v) t ≡ (scalars k).◌*◌ c (coef_at k v t)
  unfolding coef_at
  coef_at_act c v t = coef_act (scalars k) key_same c v t

  pub coef_at_sum : (u v : Vect k) (t : Key) → coef_at k ((vectors k).◌+◌ u v) t ≡ (scalars k).◌+◌ (coef_at k u t) (coef_at k v t)
  unfolding coef_at
  coef_at_sum u v t = coef_add (scalars k) key_same u v t

  pub coef_at_nothing : (t : Key) → coef_at k (vectors k).zero t ≡ R0
  unfolding coef_at
  coef_at_nothing t = coef_zero (scalars k) key_same t

  pub spans_subspace : (vs : List (Vect k)) → IsSubspace k (Spans k vs)
  unfolding plus zero_vector
  spans_subspace vs = record { zero = span_zero (vectors k) vs; plus = λ u v a b. span_add (vectors k) vs u v a b; act = λ c u a. span_act (vectors k) vs c u a }

  -- what holds of the keys of all members holds of the keys of each vector of the span
  pub spans_supp : (Q : Key → Type 0) (vs : List (Vect k)) → ((w : Vect k) → In w vs → Supp k Q w) → (v : Vect k) → Spans k vs v → Supp k Q v
  unfolding plus zero_vector
  spans_supp Q = span_ind (vectors k) (Supp k Q) (supp_zero k Q) (λ u v a b. supp_plus k Q u v a b) (λ c u a. supp_act k Q c u a)

  -- a vector and its pivot
  abbrev pub Row : Type 0
  Row = Vect k × Key

  abbrev pub rows : List Row → List (Vect k)
  rows l = map (λ e. e.0) l

  module _ (o : OrderOn Key) where
    -- the pivot is the lead, with the coefficient 1
    pub record IsRow (e : Row) : Type 0 where
      pub lead : LeadBy k o e.0 e.1
      pub monic : coef_at k e.0 e.1 ≡ (scalars k).one

    -- each pivot is a key of its own row alone, and the pivots fall
    unfoldable pub AreRows : List Row → Type 0
    AreRows [] = Unit {0}
    AreRows (e ∷ l) = IsRow e × ((f : Row) → In f l → (o.compare f.1 e.1 ≡ Less) × (coef_at k e.0 f.1 ≡ R0) × (coef_at k f.0 e.1 ≡ R0)) × AreRows l

    -- the coefficients at the pivots
    unfoldable pub at_pivots : Vect k → List Row → List (Scalar k)
    at_pivots v l = map (λ e. coef_at k v e.1) l

    -- where each member of a list is 0 at a key, so is each sum of multiples
    pub combine_none : (t : Key) (ds : List (Scalar k)) (l : List Row) → ((f : Row) → In f l → coef_at k f.0 t ≡ R0) → coef_at k (combine (vectors k) ds (rows l)) t ≡ R0
    combine_none t [] l h = coef_at_nothing t
    combine_none t (d ∷ ds) [] h = coef_at_nothing t
    combine_none t (d ∷ ds) (e ∷ l) h = coef_at_sum _ _ t ∙ ap₂ (scalars k).◌+◌ (coef_at_act d e.0 t ∙ ap ((scalars k).◌*◌ d) (h e (inl refl)) ∙ rings.mul_zero (scalars k) d) (combine_none t ds l (λ f i. h f (inr i))) ∙ (scalars k).add_zero R0

    -- the coefficients of a sum of multiples of rows stand at the pivots
    pub pivots_combine : (l : List Row) → AreRows l → (ds : List (Scalar k)) → length ds ≡ length (rows l) → at_pivots (combine (vectors k) ds (rows l)) l ≡ ds
    unfolding AreRows at_pivots
    pivots_combine [] h [] e = refl
    pivots_combine [] h (d ∷ ds) e = absurd (omega arith)
    pivots_combine (x ∷ l) h [] e = absurd (omega arith)
    pivots_combine (x ∷ l) h (d ∷ ds) e = ap₂ ◌∷◌ head (tail l (λ f i. (h.1 f i).1) ∙ pivots_combine l h.2 ds (omega arith))
      where
        rest : Vect k
        rest = combine (vectors k) ds (rows l)

        head : coef_at k ((vectors k).◌+◌ ((vectors k).◌·◌ d x.0) rest) x.1 ≡ d
        head = coef_at_sum _ _ x.1 ∙ ap₂ (scalars k).◌+◌ (coef_at_act d x.0 x.1 ∙ ap ((scalars k).◌*◌ d) h.0.monic ∙ (scalars k).mul_one d) (combine_none x.1 ds l (λ f i. (h.1 f i).2)) ∙ (scalars k).add_zero d

        tail : (fs : List Row) → ((f : Row) → In f fs → coef_at k x.0 f.1 ≡ R0) → map (λ f. coef_at k ((vectors k).◌+◌ ((vectors k).◌·◌ d x.0) rest) f.1) fs ≡ map (λ f. coef_at k rest f.1) fs
        tail [] z = refl
        tail (f ∷ fs) z = ap₂ ◌∷◌ (coef_at_sum _ _ f.1 ∙ ap₂ (scalars k).◌+◌ (coef_at_act d x.0 f.1 ∙ ap ((scalars k).◌*◌ d) (z f (inl refl)) ∙ rings.mul_zero (scalars k) d) refl ∙ rings.zero_add (scalars k) _) (tail fs (λ g i. z g (inr i)))

    map_at : (f g : Row → Scalar k) (l : List Row) → map f l ≡ map g l → (e : Row) → In e l → f e ≡ g e
    map_at f g [] q e i = absurd i
    map_at f g (x ∷ l) q e (inl p) = subst (λ y. f y ≡ g y) p (ap (first_of (f x)) q)
      where
        first_of : Scalar k → List (Scalar k) → Scalar k
        first_of d [] = d
        first_of d (c ∷ cs) = c
    map_at f g (x ∷ l) q e (inr i) = map_at f g l (ap after_first q) e i
      where
        after_first : List (Scalar k) → List (Scalar k)
        after_first [] = []
        after_first (c ∷ cs) = cs

    length_pivots : (v : Vect k) (l : List Row) → length (at_pivots v l) ≡ length (rows l)
    unfolding at_pivots
    length_pivots v [] = refl
    length_pivots v (e ∷ l) = ap suc (length_pivots v l)

    -- what the rows make of the coefficients at the pivots, and what is left of a vector
    unfoldable pub shadow : List Row → Vect k → Vect k
    shadow l v = combine (vectors k) (at_pivots v l) (rows l)

    unfoldable pub left : List Row → Vect k → Vect k
    left l v = difference k v (shadow l v)

    pub shadow_in_span : (l : List Row) (v : Vect k) → Spans k (rows l) (shadow l v)
    unfolding shadow
    shadow_in_span l v = (at_pivots v l, length_pivots v l, refl)

    pub shadow_of_span : (l : List Row) → AreRows l → (v : Vect k) → Spans k (rows l) v → shadow l v ≡ v
    unfolding shadow
    shadow_of_span l h v a = ap (λ u. combine (vectors k) (at_pivots u l) (rows l)) (sym a.2) ∙ ap (λ ds. combine (vectors k) ds (rows l)) (pivots_combine l h a.0 a.1) ∙ a.2

    -- nothing is left at the pivots
    pub left_at_pivot : (l : List Row) → AreRows l → (v : Vect k) (e : Row) → In e l → coef_at k (left l v) e.1 ≡ R0
    unfolding left shadow at_pivots
    left_at_pivot l h v e i =
        let same : coef_at k (shadow l v) e.1 ≡ coef_at k v e.1 = map_at (λ f. coef_at k (shadow l v) f.1) (λ f. coef_at k v f.1) l (pivots_combine l h (at_pivots v l) (length_pivots v l)) e i in
        coef_difference k v (shadow l v) e.1 ∙ ap (λ c. (scalars k).◌+◌ (coef_at k v e.1) ((scalars k).◌*◌ ((scalars k).neg (scalars k).one) c)) same ∙ opposite (coef_at k v e.1)
      where
        opposite : (c : Scalar k) → (scalars k).◌+◌ c ((scalars k).◌*◌ ((scalars k).neg (scalars k).one) c) ≡ R0
        opposite c = ap₂ (scalars k).◌+◌ (sym (rings.one_mul (scalars k) c)) refl ∙ sym (rings.add_mul (scalars k) (scalars k).one ((scalars k).neg (scalars k).one) c) ∙ ap (λ d. (scalars k).◌*◌ d c) ((scalars k).add_neg (scalars k).one) ∙ rings.zero_mul (scalars k) c

    -- whether a vector lies in the span of rows
    pub in_rows : (l : List Row) → AreRows l → (v : Vect k) → Dec (Spans k (rows l) v)
    unfolding left zero_vector coef_at
    in_rows l h v = go (has_lead (scalars k) (is_field k) key_same o (left l v))
      where
        go : HasLead (scalars k) (is_field k) key_same o (left l v) → Dec (Spans k (rows l) v)
        go (inl z) = yes (subst (Spans k (rows l)) (sym (difference_zero k v (shadow l v) z)) (shadow_in_span l v))
        go (inr n) = no (λ a. n.1.there (nothing (shadow_of_span l h v a) n.0))
          where
            nothing : shadow l v ≡ v → (t : Key) → coef_at k (left l v) t ≡ R0
            nothing e t = ap (λ u. coef_at k (difference k v u) t) e ∙ coef_difference k v v t ∙ ap₂ (scalars k).◌+◌ (sym (rings.one_mul (scalars k) _)) refl
                ∙ sym (rings.add_mul (scalars k) (scalars k).one ((scalars k).neg (scalars k).one) _) ∙ ap (λ d. (scalars k).◌*◌ d (coef_at k v t)) ((scalars k).add_neg (scalars k).one) ∙ rings.zero_mul (scalars k) _
