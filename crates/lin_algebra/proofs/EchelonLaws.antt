-- A reduced echelon list is determined by its span.
use Rattle.std.proofs.Common.{◌≡◌, ◌≢◌, ℕ, ◌<◌, ◌⊎◌, inl, inr, List, [], ◌∷◌, sym, ap, ap₂, ◌∙◌, refl, arith, subst}
use Rattle.std.specs.List.{AllByRecursion as Each}
use Rattle.alg_core.specs.Rings.{Ring}
use Rattle.alg_core.specs.RingLaws as rings
use Rattle.alg_core.specs.ModuleLaws as modules
use Rattle.lin_algebra.specs.Vectors.{vectors}
use Rattle.alg_core.specs.Spans.{InSpan, SameSpan}
use Rattle.lin_algebra.specs.Echelons.{PivotRow, rows, IsPivotRow, Precedes, IsReducedEchelon}
use Rattle.alg_core.specs.Lists.{In}
use Rattle.lin_algebra.proofs.EachLaws.{Each_at, Each_from, Each_weaker, Each_both, Each_map, Each_of_map, three_ways}
use Rattle.alg_core.proofs.SpanLaws.{span_add, span_act}
use Rattle.lin_algebra.proofs.SpanLaws.{span_ind, span_member}
use native.Mathlib.Decide.{ℕ_discrete}

module _ {K : Type 0} (R : Ring K) where
  abbrev V : Type 0
  V = ℕ → K

  -- the combination of the rows whose coefficients are the entries of v at the pivots
  abbrev pub by_pivots : V → List (PivotRow K) → V
  by_pivots v [] = (vectors R).zero
  by_pivots v (e ∷ l) = (vectors R).◌+◌ ((vectors R).◌·◌ (v e.0) e.1) (by_pivots v l)

  pub by_pivots_zero : (v : V) (l : List (PivotRow K)) → Each (λ e. v e.0 ≡ R.zero) l → by_pivots v l ≡ (vectors R).zero
  by_pivots_zero v [] h = refl
  by_pivots_zero v (e ∷ l) h = ap₂ (vectors R).◌+◌ (ap (λ c. (vectors R).◌·◌ c e.1) h.0 ∙ (vectors R).zero_act e.1) (by_pivots_zero v l h.1) ∙ (vectors R).add_zero _

  by_pivots_nothing : (l : List (PivotRow K)) → by_pivots (vectors R).zero l ≡ (vectors R).zero
  by_pivots_nothing [] = refl
  by_pivots_nothing (e ∷ l) = ap₂ (vectors R).◌+◌ ((vectors R).zero_act e.1) (by_pivots_nothing l) ∙ (vectors R).add_zero _

  by_pivots_add : (u v : V) (l : List (PivotRow K)) → by_pivots ((vectors R).◌+◌ u v) l ≡ (vectors R).◌+◌ (by_pivots u l) (by_pivots v l)
  by_pivots_add u v [] = sym ((vectors R).add_zero _)
  by_pivots_add u v (e ∷ l) = ap₂ (vectors R).◌+◌ ((vectors R).add_act (u e.0) (v e.0) e.1) (by_pivots_add u v l) ∙ modules.add_swap (vectors R) _ _ _ _

  by_pivots_act : (a : K) (u : V) (l : List (PivotRow K)) → by_pivots ((vectors R).◌·◌ a u) l ≡ (vectors R).◌·◌ a (by_pivots u l)
  by_pivots_act a u [] = sym (modules.act_zero (vectors R) a)
  by_pivots_act a u (e ∷ l) = ap₂ (vectors R).◌+◌ ((vectors R).mul_act a (u e.0) e.1) (by_pivots_act a u l) ∙ sym ((vectors R).act_add a _ _)

  -- the rows after e are 0 at its pivot
  pub zero_at_earlier : (e : PivotRow K) (l : List (PivotRow K)) → Each (Precedes R e) l → IsReducedEchelon R l → Each (λ f. f.1 e.0 ≡ R.zero) l
  zero_at_earlier e [] p r = tt
  zero_at_earlier e (f ∷ l) p r = (r.0.before e.0 p.0.rises, zero_at_earlier e l p.1 r.2)

  pub each_pivot_row : (l : List (PivotRow K)) → IsReducedEchelon R l → Each (IsPivotRow R) l
  each_pivot_row [] r = tt
  each_pivot_row (e ∷ l) r = (r.0, each_pivot_row l r.2)

  -- each row is 0 at the pivots of the others
  pub zero_at_others : (l : List (PivotRow K)) → IsReducedEchelon R l → (e f : PivotRow K) → In e l → In f l → e.0 ≢ f.0 → e.1 f.0 ≡ R.zero
  zero_at_others [] r e f i j n = absurd i
  zero_at_others (x ∷ l) r e f (inl p) (inl q) n = absurd (n (ap (λ y. y.0) (sym p ∙ q)))
  zero_at_others (x ∷ l) r e f (inl p) (inr j) n = subst (λ y. y.1 f.0 ≡ R.zero) p (Each_at (Precedes R x) l r.1 f j).clear
  zero_at_others (x ∷ l) r e f (inr i) (inl q) n = subst (λ y. e.1 y.0 ≡ R.zero) q (Each_at (λ g. g.1 x.0 ≡ R.zero) l (zero_at_earlier x l r.1 r.2) e i)
  zero_at_others (x ∷ l) r e f (inr i) (inr j) n = zero_at_others l r.2 e f i j n

  by_pivots_members : (l : List (PivotRow K)) → IsReducedEchelon R l → Each (λ w. by_pivots w l ≡ w) (rows R l)
  by_pivots_members [] r = tt
  by_pivots_members (e ∷ l) r = (
    ap₂ (vectors R).◌+◌ (ap (λ c. (vectors R).◌·◌ c e.1) r.0.at ∙ (vectors R).one_act e.1) (by_pivots_zero e.1 l (Each_weaker (Precedes R e) (λ f. e.1 f.0 ≡ R.zero) (λ f h. h.clear) l r.1)) ∙ (vectors R).add_zero e.1,
    Each_both (λ w. w e.0 ≡ R.zero) (λ w. by_pivots w l ≡ w) (λ w. by_pivots w (e ∷ l) ≡ w)
        (λ w z h. ap₂ (vectors R).◌+◌ (ap (λ c. (vectors R).◌·◌ c e.1) z ∙ (vectors R).zero_act e.1) h ∙ modules.zero_add (vectors R) w)
        (rows R l) (Each_map (λ w. w e.0 ≡ R.zero) (λ f. f.1) l (zero_at_earlier e l r.1 r.2)) (by_pivots_members l r.2),
  )

  -- what is in the span is that combination
  pub by_pivots_span : (l : List (PivotRow K)) → IsReducedEchelon R l → (v : V) → InSpan (vectors R) (rows R l) v → by_pivots v l ≡ v
  by_pivots_span l r = span_ind (vectors R) (λ v. by_pivots v l ≡ v) (by_pivots_nothing l)
      (λ u v h g. by_pivots_add u v l ∙ ap₂ (vectors R).◌+◌ h g)
      (λ a u h. by_pivots_act a u l ∙ ap ((vectors R).◌·◌ a) h)
      (rows R l) (by_pivots_members l r)

  -- what is 0 at each pivot and in the span is 0
  pub zero_in_span : (l : List (PivotRow K)) → IsReducedEchelon R l → (v : V) → InSpan (vectors R) (rows R l) v → Each (λ e. v e.0 ≡ R.zero) l → v ≡ (vectors R).zero
  zero_in_span l r v h z = sym (by_pivots_span l r v h) ∙ by_pivots_zero v l z

  -- the first column at which such a combination is not 0 is a pivot
  first_is_pivot : (v : V) (l : List (PivotRow K)) (p : ℕ) → Each (IsPivotRow R) l → ((j : ℕ) → j < p → v j ≡ R.zero) → ¬ (by_pivots v l p ≡ R.zero) → (e : PivotRow K) × In e l × (e.0 ≡ p)
  first_is_pivot v [] p pivot before n = absurd (n refl)
  first_is_pivot v (e ∷ l) p pivot before n = go (first_is_pivot v l p pivot.1 before) (three_ways e.0 p)
    where
      skip : R.◌*◌ (v e.0) (e.1 p) ≡ R.zero → ¬ (by_pivots v l p ≡ R.zero)
      skip z h = n (ap₂ R.◌+◌ z h ∙ R.add_zero R.zero)

      go : (¬ (by_pivots v l p ≡ R.zero) → (f : PivotRow K) × In f l × (f.0 ≡ p)) → (e.0 < p) ⊎ ((e.0 ≡ p) ⊎ (p < e.0)) → (f : PivotRow K) × In f (e ∷ l) × (f.0 ≡ p)
      go later (inl h) = let f = later (skip (ap (λ c. R.◌*◌ c (e.1 p)) (before e.0 h) ∙ rings.zero_mul R _)) in (f.0, inr f.1, f.2)
      go later (inr (inl h)) = (e, inl refl, h)
      go later (inr (inr h)) = let f = later (skip (ap (R.◌*◌ (v e.0)) (pivot.0.before p h) ∙ rings.mul_zero R _)) in (f.0, inr f.1, f.2)

  pub first_in_span : (l : List (PivotRow K)) → IsReducedEchelon R l → (v : V) (p : ℕ) → InSpan (vectors R) (rows R l) v → ((j : ℕ) → j < p → v j ≡ R.zero) → ¬ (v p ≡ R.zero) → (e : PivotRow K) × In e l × (e.0 ≡ p)
  first_in_span l r v p h before n = first_is_pivot v l p (each_pivot_row l r) before (λ z. n (sym (ap (λ u. u p) (by_pivots_span l r v h)) ∙ z))

  row_in_span : (l : List (PivotRow K)) (e : PivotRow K) → In e l → InSpan (vectors R) (rows R l) e.1
  row_in_span l e i = Each_at (λ f. InSpan (vectors R) (rows R l) f.1) l (Each_of_map (InSpan (vectors R) (rows R l)) (λ f. f.1) l (span_member (vectors R) (rows R l))) e i

  module _ (one_not_zero : ¬ (R.one ≡ R.zero)) where
    -- of two lists with one span, each pivot of one is a pivot of the other
    pivot_of_other : (l l' : List (PivotRow K)) → IsReducedEchelon R l → IsReducedEchelon R l' → SameSpan (vectors R) (rows R l) (rows R l') → (e : PivotRow K) → In e l → (f : PivotRow K) × In f l' × (f.0 ≡ e.0)
    pivot_of_other l l' r r' s e i =
        let pivot = Each_at (IsPivotRow R) l (each_pivot_row l r) e i in
        first_in_span l' r' e.1 e.0 ((s e.1).0 (row_in_span l e i)) pivot.before (λ z. one_not_zero (sym pivot.at ∙ z))

    module _ (l l' : List (PivotRow K)) (r : IsReducedEchelon R l) (r' : IsReducedEchelon R l') (s : SameSpan (vectors R) (rows R l) (rows R l')) where
      -- rows with one pivot are equal
      same_row : (e f : PivotRow K) → In e l → In f l' → f.0 ≡ e.0 → f ≡ e
      same_row e f i j q = λ t. (q t, modules.eq_of_minus (vectors R) f.1 e.1 none t)
        where
          d : V
          d = (vectors R).◌+◌ f.1 (modules.minus (vectors R) e.1)

          within : InSpan (vectors R) (rows R l) d
          within = span_add (vectors R) (rows R l) _ _ ((s f.1).1 (row_in_span l' f j))
              (subst (InSpan (vectors R) (rows R l)) (sym (modules.minus_is (vectors R) e.1)) (span_act (vectors R) (rows R l) (R.neg R.one) e.1 (row_in_span l e i)))

          d_at : (c : ℕ) (a : K) → f.1 c ≡ a → e.1 c ≡ a → d c ≡ R.zero
          d_at c a p p' = ap₂ R.◌+◌ p (ap (λ u. u c) (modules.minus_is (vectors R) e.1) ∙ ap (R.◌*◌ (R.neg R.one)) p')
              ∙ ap (λ u. R.◌+◌ u (R.◌*◌ (R.neg R.one) a)) (sym (rings.one_mul R a)) ∙ sym (rings.add_mul R R.one (R.neg R.one) a) ∙ ap (λ u. R.◌*◌ u a) (R.add_neg R.one) ∙ rings.zero_mul R a

          pivot_at : (g : PivotRow K) → In g l → Dec (e.0 ≡ g.0) → d g.0 ≡ R.zero
          pivot_at g k (yes h) = d_at g.0 R.one
              (ap f.1 (sym h ∙ sym q) ∙ (Each_at (IsPivotRow R) l' (each_pivot_row l' r') f j).at)
              (ap e.1 (sym h) ∙ (Each_at (IsPivotRow R) l (each_pivot_row l r) e i).at)
          pivot_at g k (no n) = let o = pivot_of_other l l' r r' s g k in
              d_at g.0 R.zero
              (ap f.1 (sym o.2) ∙ zero_at_others l' r' f o.0 j o.1 (λ h. n (sym q ∙ h ∙ o.2)))
              (zero_at_others l r e g i k n)

          none : d ≡ (vectors R).zero
          none = zero_in_span l r d within (Each_from (λ g. d g.0 ≡ R.zero) l (λ g k. pivot_at g k (ℕ_discrete e.0 g.0)))

      member_of_other : (e : PivotRow K) → In e l → In e l'
      member_of_other e i = let f = pivot_of_other l l' r r' s e i in subst (λ x. In x l') (same_row e f.0 i f.1 f.2) f.1

    -- lists that rise and have the same members are equal
    same_list : (l l' : List (PivotRow K)) → IsReducedEchelon R l → IsReducedEchelon R l' → ((e : PivotRow K) → In e l → In e l') → ((e : PivotRow K) → In e l' → In e l) → l ≡ l'
    same_list [] [] r r' to from = refl
    same_list [] (y ∷ l') r r' to from = absurd (from y (inl refl))
    same_list (x ∷ l) [] r r' to from = absurd (to x (inl refl))
    same_list (x ∷ l) (y ∷ l') r r' to from = ap₂ ◌∷◌ heads (same_list l l' r.2 r'.2 (λ e i. tail e i (to e (inr i))) (λ e i. tail' e i (from e (inr i))))
      where
        heads : x ≡ y
        heads = at (to x (inl refl)) (from y (inl refl))
          where
            at : ((y ≡ x) ⊎ In x l') → ((x ≡ y) ⊎ In y l) → x ≡ y
            at (inl e) h = sym e
            at (inr h) (inl e) = e
            at (inr h) (inr h') = let below = (Each_at (Precedes R y) l' r'.1 x h).rises in let above = (Each_at (Precedes R x) l r.1 y h').rises in absurd (omega arith)

        tail : (e : PivotRow K) → In e l → (y ≡ e) ⊎ In e l' → In e l'
        tail e i (inl q) = let above : x.0 < e.0 = (Each_at (Precedes R x) l r.1 e i).rises in let same : x.0 ≡ e.0 = ap (λ u. u.0) (heads ∙ q) in absurd (omega arith)
        tail e i (inr h) = h

        tail' : (e : PivotRow K) → In e l' → (x ≡ e) ⊎ In e l → In e l
        tail' e i (inl q) = let above : y.0 < e.0 = (Each_at (Precedes R y) l' r'.1 e i).rises in let same : y.0 ≡ e.0 = ap (λ u. u.0) (sym heads ∙ q) in absurd (omega arith)
        tail' e i (inr h) = h

    -- there is one reduced echelon list with a given span
    pub reduced_unique : (l l' : List (PivotRow K)) → IsReducedEchelon R l → IsReducedEchelon R l' → SameSpan (vectors R) (rows R l) (rows R l') → l ≡ l'
    reduced_unique l l' r r' s = same_list l l' r r' (member_of_other l l' r r' s) (member_of_other l' l r' r (λ v. ((s v).1, (s v).0)))
