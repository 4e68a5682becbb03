-- What elimination makes of a row and of the list that it goes into.
use Rattle.std.proofs.Common.{◌≡◌, ◌≢◌, ℕ, ◌+◌, ◌<◌, ◌≤◌, ◌⊎◌, inl, inr, List, [], ◌∷◌, ◌++◌, map, length, take, drop, get_or, sym, ap, ◌∙◌, refl, arith, subst}
use Rattle.std.specs.List.{AllByRecursion as Each}
use Rattle.std.proofs.lemmas.Bool.{cases_lt}
use Rattle.std.proofs.lemmas.List.{map-append, take-append-drop, drop_more, drop_all}
use Rattle.alg_core.specs.Rings.{Ring, Module}
use Rattle.alg_core.specs.RingLaws as rings
use Rattle.alg_core.specs.ModuleLaws as modules
use Rattle.lin_algebra.specs.Vectors.{vectors}
use Rattle.alg_core.specs.Spans.{InSpan, SameSpan}
use Rattle.lin_algebra.specs.Echelons.{PivotRow, rows, Precedes, IsReducedEchelon}
use Rattle.lin_algebra.specs.Bases.{cleared_at, cleared, reduced_by, IsMonicMultiple, IsPutIn}
use Rattle.lin_algebra.proofs.EachLaws.{Each_weaker, Each_both, Each_append, Each_append_left, Each_append_right, Each_map}
use Rattle.alg_core.proofs.SpanLaws.{span_zero, span_add, span_act, span_head, span_tail}
use Rattle.lin_algebra.proofs.SpanLaws.{span_member, span_append_left, span_append_right, SameSpan_from}
use Rattle.lin_algebra.proofs.EchelonLaws.{zero_at_earlier}
use Rattle.lin_algebra.proofs.ChangeLaws.{IsNew, cleared_zero, IsReducedEchelon_cleared, IsReducedEchelon_insert, span_cleared}

module _ {K : Type 0} {R : Ring K} {A : Type 0} (X : Module R A) where
  pub SameSpan_trans : (us vs ws : List A) → SameSpan X us vs → SameSpan X vs ws → SameSpan X us ws
  SameSpan_trans us vs ws h g v = (λ s. (g v).0 ((h v).0 s), λ s. (h v).1 ((g v).1 s))

  -- it does not matter where an element stands
  pub SameSpan_insert : (ls rs : List A) (w : A) → SameSpan X (ls ++ w ∷ rs) (w ∷ (ls ++ rs))
  SameSpan_insert ls rs w = SameSpan_from X (ls ++ w ∷ rs) (w ∷ (ls ++ rs))
      (Each_append (InSpan X (w ∷ (ls ++ rs))) ls (w ∷ rs)
      (Each_weaker (InSpan X ls) (InSpan X (w ∷ (ls ++ rs))) (λ v h. span_tail X w (ls ++ rs) v (span_append_left X ls rs v h)) ls (span_member X ls))
      (span_head X w (ls ++ rs), Each_weaker (InSpan X rs) (InSpan X (w ∷ (ls ++ rs))) (λ v h. span_tail X w (ls ++ rs) v (span_append_right X ls rs v h)) rs (span_member X rs))) (
        span_append_right X ls (w ∷ rs) w (span_head X w rs),
        Each_append (InSpan X (ls ++ w ∷ rs)) ls rs
            (Each_weaker (InSpan X ls) (InSpan X (ls ++ w ∷ rs)) (span_append_left X ls (w ∷ rs)) ls (span_member X ls))
            (Each_weaker (InSpan X rs) (InSpan X (ls ++ w ∷ rs)) (λ v h. span_append_right X ls (w ∷ rs) v (span_tail X w rs v h)) rs (span_member X rs)),
      )

  -- an element of the span adds nothing
  pub SameSpan_absorb : (ws : List A) (v : A) → InSpan X ws v → SameSpan X ws (v ∷ ws)
  SameSpan_absorb ws v h = SameSpan_from X ws (v ∷ ws) (Each_weaker (InSpan X ws) (InSpan X (v ∷ ws)) (span_tail X v ws) ws (span_member X ws)) (h, span_member X ws)

  -- two elements, each in the span of the other and the rest
  pub SameSpan_exchange : (ws : List A) (u v : A) → InSpan X (v ∷ ws) u → InSpan X (u ∷ ws) v → SameSpan X (u ∷ ws) (v ∷ ws)
  SameSpan_exchange ws u v h g = SameSpan_from X (u ∷ ws) (v ∷ ws)
      (h, Each_weaker (InSpan X ws) (InSpan X (v ∷ ws)) (span_tail X v ws) ws (span_member X ws))
      (g, Each_weaker (InSpan X ws) (InSpan X (u ∷ ws)) (span_tail X u ws) ws (span_member X ws))

module _ {K : Type 0} (R : Ring K) where
  abbrev V : Type 0
  V = ℕ → K

  abbrev X : Module R V
  X = vectors R

  -- a column at which the rows are 0 stays as it is
  reduced_keeps : (v : V) (l : List (PivotRow K)) (c : ℕ) → Each (λ f. f.1 c ≡ R.zero) l → reduced_by R v l c ≡ v c
  reduced_keeps v [] c h = refl
  reduced_keeps v (e ∷ l) c h = reduced_keeps (cleared_at R e.0 e.1 v) l c h.1 ∙ ap (R.◌+◌ (v c)) (ap (R.◌*◌ (R.neg (v e.0))) h.0 ∙ rings.mul_zero R _) ∙ R.add_zero (v c)

  -- what is left of a row is 0 at each pivot
  pub reduced_zero : (v : V) (l : List (PivotRow K)) → IsReducedEchelon R l → Each (λ e. reduced_by R v l e.0 ≡ R.zero) l
  reduced_zero v [] r = tt
  reduced_zero v (e ∷ l) r = (
    reduced_keeps (cleared_at R e.0 e.1 v) l e.0 (zero_at_earlier R e l r.1 r.2) ∙ ap (R.◌+◌ (v e.0)) (ap (R.◌*◌ (R.neg (v e.0))) r.0.at ∙ R.mul_one _) ∙ R.add_neg (v e.0),
    reduced_zero (cleared_at R e.0 e.1 v) l r.2,
  )

  -- and what is taken off is a combination of the rows
  pub reduced_span : (v : V) (l : List (PivotRow K)) → (s : V) × InSpan X (rows R l) s × (v ≡ X.◌+◌ (reduced_by R v l) s)
  reduced_span v [] = (X.zero, span_zero X [], sym (X.add_zero v))
  reduced_span v (e ∷ l) =
      let rest = reduced_span (cleared_at R e.0 e.1 v) l in
      let again : X.◌+◌ (cleared_at R e.0 e.1 v) (X.◌·◌ (v e.0) e.1) ≡ v
      = X.add_assoc v _ _ ∙ ap (X.◌+◌ v) (sym (X.add_act (R.neg (v e.0)) (v e.0) e.1) ∙ ap (λ c. X.◌·◌ c e.1) (rings.neg_add R (v e.0)) ∙ X.zero_act e.1) ∙ X.add_zero v in (
        X.◌+◌ rest.0 (X.◌·◌ (v e.0) e.1),
        span_add X (e.1 ∷ rows R l) _ _ (span_tail X e.1 (rows R l) rest.0 rest.1) (span_act X (e.1 ∷ rows R l) (v e.0) e.1 (span_head X e.1 (rows R l))),
        sym again ∙ ap (λ u. X.◌+◌ u (X.◌·◌ (v e.0) e.1)) rest.2 ∙ X.add_assoc _ _ _,
      )

  -- a row of which nothing is left is a combination of the others
  pub SameSpan_reduced_to_zero : (v : V) (l : List (PivotRow K)) → reduced_by R v l ≡ X.zero → SameSpan X (rows R l) (v ∷ rows R l)
  SameSpan_reduced_to_zero v l z =
      let s = reduced_span v l in
      SameSpan_absorb X (rows R l) v (subst (InSpan X (rows R l)) (sym (s.2 ∙ ap (λ u. X.◌+◌ u s.0) z ∙ modules.zero_add X s.0)) s.1)

  Each_split_left : (P : PivotRow K → Type 0) (t : ℕ) (m : List (PivotRow K)) → Each P m → Each P (take t m)
  Each_split_left P t m h = Each_append_left P (take t m) (drop t m) (subst (Each P) (sym (take-append-drop t m)) h)

  Each_split_right : (P : PivotRow K → Type 0) (t : ℕ) (m : List (PivotRow K)) → Each P m → Each P (drop t m)
  Each_split_right P t m h = Each_append_right P (take t m) (drop t m) (subst (Each P) (sym (take-append-drop t m)) h)

  -- the tail of a reduced echelon list is one
  reduced_right : (l r : List (PivotRow K)) → IsReducedEchelon R (l ++ r) → IsReducedEchelon R r
  reduced_right [] r h = h
  reduced_right (e ∷ l) r h = reduced_right l r h.2

  -- from the first pivot that is not below p on, none is
  pivots_from : (m : List (PivotRow K)) (t p : ℕ) (d : PivotRow K) → IsReducedEchelon R m → (t < length m → p ≤ (get_or m t d).0) → Each (λ e. p ≤ e.0) (drop t m)
  pivots_from m t p d r h = go (cases_lt t (length m))
    where
      go : (t < length m) ⊎ (length m ≤ t) → Each (λ e. p ≤ e.0) (drop t m)
      go (inr past) = subst (Each (λ e. p ≤ e.0)) (sym (drop_all t m past)) tt
      go (inl inside) =
          let first = get_or m t d in
          let rest : IsReducedEchelon R (first ∷ drop (t + 1) m) = subst (IsReducedEchelon R) (drop_more m t d inside) (reduced_right (take t m) (drop t m) (subst (IsReducedEchelon R) (sym (take-append-drop t m)) r)) in
          let low : p ≤ first.0 = h inside in
          subst (Each (λ e. p ≤ e.0)) (sym (drop_more m t d inside))
          (low, Each_weaker (Precedes R first) (λ e. p ≤ e.0) (λ e g. let up = g.rises in omega arith) (drop (t + 1) m) rest.1)

  -- a row with the pivot p, made of what is left of v, goes into the list at its place t
  module _ (l m : List (PivotRow K)) (v w u : V) (p t : ℕ) (a : K) (d : PivotRow K)
      (one_not_zero : ¬ (R.one ≡ R.zero)) (r : IsReducedEchelon R l) (left : w ≡ reduced_by R v l)
      (before : (j : ℕ) → j < p → w j ≡ R.zero) (inverse : R.◌*◌ a (w p) ≡ R.one) (scaled : u ≡ X.◌·◌ a w)
      (others : m ≡ map (cleared R p u) l) (low : Each (λ e. e.0 < p) (take t m)) (high : t < length m → p ≤ (get_or m t d).0) where
    is_new : IsNew R p u l
    is_new = record {
      pivot = record {
        before = λ j h. ap (λ x. x j) scaled ∙ ap (R.◌*◌ a) (before j h) ∙ rings.mul_zero R a;
        at = ap (λ x. x p) scaled ∙ inverse;
      };
      apart = Each_weaker (λ e. reduced_by R v l e.0 ≡ R.zero) (λ e. (u e.0 ≡ R.zero) × (e.0 ≢ p))
          (λ e z. let none : w e.0 ≡ R.zero = ap (λ x. x e.0) left ∙ z in
          (ap (λ x. x e.0) scaled ∙ ap (R.◌*◌ a) none ∙ rings.mul_zero R a, λ q. one_not_zero (sym inverse ∙ ap (R.◌*◌ a) (ap w (sym q) ∙ none) ∙ rings.mul_zero R a)))
          l (reduced_zero v l r);
    }

    m_reduced : IsReducedEchelon R m
    m_reduced = subst (IsReducedEchelon R) (sym others) (IsReducedEchelon_cleared R p u l is_new r)

    m_apart : Each (λ e. (u e.0 ≡ R.zero) × (e.0 ≢ p) × (e.1 p ≡ R.zero)) m
    m_apart = subst (Each (λ e. (u e.0 ≡ R.zero) × (e.0 ≢ p) × (e.1 p ≡ R.zero))) (sym others)
        (Each_map (λ e. (u e.0 ≡ R.zero) × (e.0 ≢ p) × (e.1 p ≡ R.zero)) (cleared R p u) l
        (Each_weaker (λ e. (u e.0 ≡ R.zero) × (e.0 ≢ p)) (λ e. (u e.0 ≡ R.zero) × (e.0 ≢ p) × ((cleared R p u e).1 p ≡ R.zero)) (λ e h. (h.0, h.1, cleared_zero R p u e is_new.pivot.at)) l is_new.apart))

    pub inserted_reduced : IsReducedEchelon R (take t m ++ (p, u) ∷ drop t m)
    inserted_reduced = IsReducedEchelon_insert R (take t m) (drop t m) (p, u) (subst (IsReducedEchelon R) (sym (take-append-drop t m)) m_reduced) is_new.pivot
        (Each_both (λ e. e.0 < p) (λ e. (u e.0 ≡ R.zero) × (e.0 ≢ p) × (e.1 p ≡ R.zero)) (λ e. Precedes R e (p, u)) (λ e h g. record { rises = h; clear = g.2 }) (take t m) low (Each_split_left _ t m m_apart))
        (Each_both (λ e. p ≤ e.0) (λ e. (u e.0 ≡ R.zero) × (e.0 ≢ p) × (e.1 p ≡ R.zero)) (λ e. Precedes R (p, u) e) (λ e h g. record { rises = above e h g.1; clear = g.0 }) (drop t m) (pivots_from m t p d m_reduced high) (Each_split_right _ t m m_apart))
      where
        above : (e : PivotRow K) → p ≤ e.0 → e.0 ≢ p → p < e.0
        above e h n = omega (arith, h, n)

    pub inserted_span : SameSpan X (rows R (take t m ++ (p, u) ∷ drop t m)) (v ∷ rows R l)
    inserted_span =
        let parts : rows R (take t m ++ (p, u) ∷ drop t m) ≡ rows R (take t m) ++ u ∷ rows R (drop t m) = map-append (λ (e : PivotRow K). e.1) (take t m) ((p, u) ∷ drop t m) in
        let whole : rows R (take t m) ++ rows R (drop t m) ≡ rows R (map (cleared R p u) l) = sym (map-append (λ (e : PivotRow K). e.1) (take t m) (drop t m)) ∙ ap (rows R) (take-append-drop t m ∙ others) in
        subst (λ ws. SameSpan X ws (v ∷ rows R l)) (sym parts)
        (SameSpan_trans X (rows R (take t m) ++ u ∷ rows R (drop t m)) (u ∷ rows R (map (cleared R p u) l)) (v ∷ rows R l) (subst (λ ws. SameSpan X (rows R (take t m) ++ u ∷ rows R (drop t m)) (u ∷ ws)) whole (SameSpan_insert X (rows R (take t m)) (rows R (drop t m)) u))
        (SameSpan_trans X (u ∷ rows R (map (cleared R p u) l)) (u ∷ rows R l) (v ∷ rows R l) (span_cleared R p u l) (SameSpan_exchange X (rows R l) u v there back)))
      where
        s : (s : V) × InSpan X (rows R l) s × (v ≡ X.◌+◌ (reduced_by R v l) s)
        s = reduced_span v l

        w_again : X.◌+◌ v (modules.minus X s.0) ≡ w
        w_again = ap (λ x. X.◌+◌ x (modules.minus X s.0)) s.2 ∙ X.add_assoc _ _ _ ∙ ap (X.◌+◌ (reduced_by R v l)) (modules.add_minus X s.0) ∙ X.add_zero _ ∙ sym left

        there : InSpan X (v ∷ rows R l) u
        there = subst (InSpan X (v ∷ rows R l)) (ap (X.◌·◌ a) w_again ∙ sym scaled)
            (span_act X (v ∷ rows R l) a _ (span_add X (v ∷ rows R l) v (modules.minus X s.0) (span_head X v (rows R l)) (span_tail X v (rows R l) _ (subst (InSpan X (rows R l)) (sym (modules.minus_is X s.0)) (span_act X (rows R l) (R.neg R.one) s.0 s.1)))))

        u_again : X.◌·◌ (w p) u ≡ w
        u_again = ap (X.◌·◌ (w p)) scaled ∙ sym (X.mul_act (w p) a w) ∙ ap (λ c. X.◌·◌ c w) (R.mul_comm (w p) a ∙ inverse) ∙ X.one_act w

        back : InSpan X (u ∷ rows R l) v
        back = subst (InSpan X (u ∷ rows R l)) (ap (λ x. X.◌+◌ x s.0) (u_again ∙ left) ∙ sym s.2)
            (span_add X (u ∷ rows R l) _ s.0 (span_act X (u ∷ rows R l) (w p) u (span_head X u (rows R l))) (span_tail X u (rows R l) s.0 s.1))

  -- the same of a row that is put into the list
  module _ (l l' : List (PivotRow K)) (v w u : V) (p : ℕ) (one_not_zero : ¬ (R.one ≡ R.zero)) (r : IsReducedEchelon R l) (left : w ≡ reduced_by R v l)
      (before : (j : ℕ) → j < p → w j ≡ R.zero) (monic : IsMonicMultiple R p w u) (put : IsPutIn R p u l l') where
    pub put_in_reduced : IsReducedEchelon R l'
    put_in_reduced = subst (IsReducedEchelon R) (sym put.list)
        (inserted_reduced l (map (cleared R p u) l) v w u p put.place monic.factor (0, X.zero) one_not_zero r left before monic.inverse monic.multiple refl put.low (put.high (0, X.zero)))

    pub put_in_span : SameSpan X (rows R l') (v ∷ rows R l)
    put_in_span = subst (λ m. SameSpan X (rows R m) (v ∷ rows R l)) (sym put.list)
        (inserted_span l (map (cleared R p u) l) v w u p put.place monic.factor (0, X.zero) one_not_zero r left before monic.inverse monic.multiple refl put.low (put.high (0, X.zero)))
