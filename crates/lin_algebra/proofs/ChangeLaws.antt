-- A row more in a reduced echelon list: the others are cleared at its pivot, and it takes its place.
use Rattle.std.proofs.Common.{◌≡◌, ◌≢◌, ℕ, ◌<◌, ◌⊎◌, inl, inr, List, [], ◌∷◌, ◌++◌, map, sym, ap, ap₂, ◌∙◌, arith, subst}
use Rattle.std.specs.List.{AllByRecursion as Each}
use Rattle.alg_core.specs.Rings.{Ring}
use Rattle.alg_core.specs.RingLaws as rings
use Rattle.lin_algebra.specs.Vectors.{vectors}
use Rattle.alg_core.specs.Spans.{InSpan, SameSpan}
use Rattle.lin_algebra.specs.Echelons.{PivotRow, rows, IsPivotRow, Precedes, IsReducedEchelon}
use Rattle.lin_algebra.proofs.EachLaws.{Each_weaker, Each_both, Each_append, Each_append_left, Each_append_right, Each_map, three_ways}
use Rattle.alg_core.proofs.SpanLaws.{span_add, span_act, span_head, span_tail}
use Rattle.lin_algebra.proofs.SpanLaws.{span_member, span_within, SameSpan_from}
use Rattle.lin_algebra.specs.Bases.{cleared}

module _ {K : Type 0} (R : Ring K) where
  abbrev V : Type 0
  V = ℕ → K

  -- what is left of a row by w, which is 0 at a column
  keeps : (u w : V) (a : K) (j : ℕ) (b : K) → u j ≡ b → w j ≡ R.zero → (vectors R).◌+◌ u ((vectors R).◌·◌ a w) j ≡ b
  keeps u w a j b h z = ap₂ R.◌+◌ h (ap (R.◌*◌ a) z ∙ rings.mul_zero R a) ∙ R.add_zero b

  -- w is 0 before p, 1 at p, and 0 at the pivots of the rows
  pub record IsNew (p : ℕ) (w : V) (l : List (PivotRow K)) : Type 0 where
    pub pivot : IsPivotRow R (p, w)
    pub apart : Each (λ e. (w e.0 ≡ R.zero) × (e.0 ≢ p)) l

  cleared_pivot : (p : ℕ) (w : V) (e : PivotRow K) → IsPivotRow R (p, w) → w e.0 ≡ R.zero → e.0 ≢ p → IsPivotRow R e → IsPivotRow R (cleared R p w e)
  cleared_pivot p w e new z n old = record {
    before = λ j h. before j h;
    at = keeps e.1 w _ e.0 R.one old.at z;
  }
    where
      before : (j : ℕ) → j < e.0 → (cleared R p w e).1 j ≡ R.zero
      before j h = go (three_ways j p)
        where
          go : (j < p) ⊎ ((j ≡ p) ⊎ (p < j)) → (cleared R p w e).1 j ≡ R.zero
          go (inl l) = keeps e.1 w _ j R.zero (old.before j h) (new.before j l)
          go (inr l) = ap₂ R.◌+◌ (old.before j h) (ap (λ c. R.◌*◌ (R.neg c) (w j)) (old.before p (at_most l)) ∙ ap (λ c. R.◌*◌ c (w j)) neg_zero ∙ rings.zero_mul R (w j)) ∙ R.add_zero R.zero
            where
              at_most : (j ≡ p) ⊎ (p < j) → p < e.0
              at_most (inl q) = omega arith
              at_most (inr q) = omega arith

              neg_zero : R.neg R.zero ≡ R.zero
              neg_zero = sym (rings.zero_add R (R.neg R.zero)) ∙ R.add_neg R.zero

  pub cleared_zero : (p : ℕ) (w : V) (e : PivotRow K) → w p ≡ R.one → (cleared R p w e).1 p ≡ R.zero
  cleared_zero p w e one = ap (R.◌+◌ (e.1 p)) (ap (R.◌*◌ (R.neg (e.1 p))) one ∙ R.mul_one _) ∙ R.add_neg (e.1 p)

  pub IsReducedEchelon_cleared : (p : ℕ) (w : V) (l : List (PivotRow K)) → IsNew p w l → IsReducedEchelon R l → IsReducedEchelon R (map (cleared R p w) l)
  IsReducedEchelon_cleared p w [] new r = tt
  IsReducedEchelon_cleared p w (e ∷ l) new r = (
    cleared_pivot p w e new.pivot new.apart.0.0 new.apart.0.1 r.0,
    Each_map (Precedes R (cleared R p w e)) (cleared R p w) l (Each_both (Precedes R e) (λ f. (w f.0 ≡ R.zero) × (f.0 ≢ p)) (λ f. Precedes R (cleared R p w e) (cleared R p w f))
        (λ f h z. record { rises = h.rises; clear = keeps e.1 w _ f.0 R.zero h.clear z.0 }) l r.1 new.apart.1),
    IsReducedEchelon_cleared p w l (record { pivot = new.pivot; apart = new.apart.1 }) r.2,
  )

  -- a row takes its place between those with a smaller and those with a greater pivot
  pub IsReducedEchelon_insert : (l r : List (PivotRow K)) (n : PivotRow K) → IsReducedEchelon R (l ++ r) → IsPivotRow R n → Each (λ e. Precedes R e n) l → Each (Precedes R n) r → IsReducedEchelon R (l ++ n ∷ r)
  IsReducedEchelon_insert [] r n h p before after = (p, after, h)
  IsReducedEchelon_insert (e ∷ l) r n h p before after = (
    h.0,
    Each_append (Precedes R e) l (n ∷ r) (Each_append_left (Precedes R e) l r h.1) (before.0, Each_append_right (Precedes R e) l r h.1),
    IsReducedEchelon_insert l r n h.2 p before.1 after,
  )

  -- the cleared rows, and w among them, span what the rows and w span
  pub span_cleared : (p : ℕ) (w : V) (l : List (PivotRow K)) → SameSpan (vectors R) (w ∷ rows R (map (cleared R p w) l)) (w ∷ rows R l)
  span_cleared p w l = SameSpan_from (vectors R) (w ∷ rows R (map (cleared R p w) l)) (w ∷ rows R l) (span_head (vectors R) w (rows R l), there l (rows R l) (λ v h. h)) (span_head (vectors R) w (rows R (map (cleared R p w) l)), back l (rows R (map (cleared R p w) l)) (λ v h. h))
    where
      there : (m : List (PivotRow K)) (ws : List V) → ((v : V) → InSpan (vectors R) (w ∷ rows R m) v → InSpan (vectors R) (w ∷ ws) v) → Each (InSpan (vectors R) (w ∷ ws)) (rows R (map (cleared R p w) m))
      there [] ws up = tt
      there (e ∷ m) ws up = (
        span_add (vectors R) (w ∷ ws) _ _ (up e.1 (span_tail (vectors R) w (e.1 ∷ rows R m) e.1 (span_head (vectors R) e.1 (rows R m)))) (span_act (vectors R) (w ∷ ws) _ w (span_head (vectors R) w ws)),
        there m ws (λ v h. up v (span_within (vectors R) (w ∷ rows R m) (w ∷ e.1 ∷ rows R m) (span_head (vectors R) w (e.1 ∷ rows R m), skip e.1 (rows R m)) v h)),
      )
        where
          skip : (x : V) (xs : List V) → Each (InSpan (vectors R) (w ∷ x ∷ xs)) xs
          skip x xs = Each_weaker (InSpan (vectors R) xs) (InSpan (vectors R) (w ∷ x ∷ xs)) (λ v h. span_tail (vectors R) w (x ∷ xs) v (span_tail (vectors R) x xs v h)) xs (span_member (vectors R) xs)

      back : (m : List (PivotRow K)) (ws : List V) → ((v : V) → InSpan (vectors R) (w ∷ rows R (map (cleared R p w) m)) v → InSpan (vectors R) (w ∷ ws) v) → Each (InSpan (vectors R) (w ∷ ws)) (rows R m)
      back [] ws up = tt
      back (e ∷ m) ws up = (
        subst (InSpan (vectors R) (w ∷ ws)) again (span_add (vectors R) (w ∷ ws) (cleared R p w e).1 ((vectors R).◌·◌ (e.1 p) w) (up (cleared R p w e).1 (span_tail (vectors R) w ((cleared R p w e).1 ∷ rows R (map (cleared R p w) m)) (cleared R p w e).1 (span_head (vectors R) (cleared R p w e).1 (rows R (map (cleared R p w) m))))) (span_act (vectors R) (w ∷ ws) (e.1 p) w (span_head (vectors R) w ws))),
        back m ws (λ v h. up v (span_within (vectors R) (w ∷ rows R (map (cleared R p w) m)) (w ∷ (cleared R p w e).1 ∷ rows R (map (cleared R p w) m)) (span_head (vectors R) w ((cleared R p w e).1 ∷ rows R (map (cleared R p w) m)), skip (cleared R p w e).1 (rows R (map (cleared R p w) m))) v h)),
      )
        where
          again : (vectors R).◌+◌ (cleared R p w e).1 ((vectors R).◌·◌ (e.1 p) w) ≡ e.1
          again = (vectors R).add_assoc e.1 _ _ ∙ ap ((vectors R).◌+◌ e.1) (sym ((vectors R).add_act (R.neg (e.1 p)) (e.1 p) w) ∙ ap (λ c. (vectors R).◌·◌ c w) (rings.neg_add R (e.1 p)) ∙ (vectors R).zero_act w) ∙ (vectors R).add_zero e.1

          skip : (x : V) (xs : List V) → Each (InSpan (vectors R) (w ∷ x ∷ xs)) xs
          skip x xs = Each_weaker (InSpan (vectors R) xs) (InSpan (vectors R) (w ∷ x ∷ xs)) (λ v h. span_tail (vectors R) w (x ∷ xs) v (span_tail (vectors R) x xs v h)) xs (span_member (vectors R) xs)
