-- The greedy choice: of all combinations with one sum, just one uses no member that lies in the span of those before it.
use Rattle.std.proofs.Common.{◌≡◌, ℕ, zero, suc, ◌<◌, List, [], ◌∷◌, ◌++◌, length, get_or, take, sym, ap, ap₂, ◌∙◌, refl, subst, append_assoc, append-nil, arith}
use Rattle.alg_core.specs.Rings.{Ring, Module, IsField}
use Rattle.alg_core.specs.RingLaws as rings
use Rattle.alg_core.specs.ModuleLaws as modules
use Rattle.alg_core.specs.Spans.{combine, InSpan, Greedy}
use Rattle.alg_core.proofs.SpanLaws.{span_zero, span_add, span_act, span_minus, span_append, span_parts, span_one, span_head, span_nothing}

module _ {K : Type 0} {R : Ring K} (k : IsField R) {A : Type 0} (X : Module R A) where
  -- the same for the members ws after the members us
  GreedyAfter : List A → List A → List K → Type 0
  GreedyAfter us [] [] = Unit {0}
  GreedyAfter us [] (c ∷ cs) = ⊥
  GreedyAfter us (w ∷ ws) [] = ⊥
  GreedyAfter us (w ∷ ws) (c ∷ cs) = (InSpan X us w → c ≡ R.zero) × GreedyAfter (us ++ (w ∷ [])) ws cs

  greedy_each : (us ws : List A) (cs : List K) → GreedyAfter us ws cs → length cs ≡ length ws
  unfolding GreedyAfter
  greedy_each us [] [] g = refl
  greedy_each us [] (c ∷ cs) g = absurd g
  greedy_each us (w ∷ ws) [] g = absurd g
  greedy_each us (w ∷ ws) (c ∷ cs) g = ap suc (greedy_each (us ++ (w ∷ [])) ws cs g.1)

  greedy_skips : (us ws : List A) (cs : List K) → GreedyAfter us ws cs → (i : ℕ) → i < length ws → InSpan X (us ++ take i ws) (get_or ws i X.zero) → get_or cs i R.zero ≡ R.zero
  unfolding GreedyAfter
  greedy_skips us [] cs g i h s = absurd (omega arith)
  greedy_skips us (w ∷ ws) [] g i h s = refl
  greedy_skips us (w ∷ ws) (c ∷ cs) g zero h s = g.0 (subst (λ l. InSpan X l w) (append-nil us) s)
  greedy_skips us (w ∷ ws) (c ∷ cs) g (suc i) h s = greedy_skips (us ++ (w ∷ [])) ws cs g.1 i (omega arith) (subst (λ l. InSpan X l (get_or ws i X.zero)) (sym (append_assoc us (w ∷ []) (take i ws))) s)

  greedy_after : (us ws : List A) (cs : List K) → length cs ≡ length ws → ((i : ℕ) → i < length ws → InSpan X (us ++ take i ws) (get_or ws i X.zero) → get_or cs i R.zero ≡ R.zero) → GreedyAfter us ws cs
  unfolding GreedyAfter
  greedy_after us [] [] e h = tt
  greedy_after us [] (c ∷ cs) e h = absurd (omega arith)
  greedy_after us (w ∷ ws) [] e h = absurd (omega arith)
  greedy_after us (w ∷ ws) (c ∷ cs) e h = (
    λ s. h 0 (omega arith) (subst (λ l. InSpan X l w) (sym (append-nil us)) s),
    greedy_after (us ++ (w ∷ [])) ws cs (omega arith) (λ i l s. h (suc i) (omega arith) (subst (λ l. InSpan X l (get_or ws i X.zero)) (append_assoc us (w ∷ []) (take i ws)) s)),
  )

  -- an element of the span of us and w
  Last : List A → A → A → Type 0
  Last us w v = (u : A) × (c : K) × InSpan X us u × (X.◌+◌ u (X.◌·◌ c w) ≡ v)

  last : (us : List A) (w v : A) → InSpan X (us ++ (w ∷ [])) v → Last us w v
  unfolding Last
  last us w v a =
      let p = span_parts X us (w ∷ []) v a in
      let q = span_one X w p.1 p.3 in
      (p.0, q.0, p.2, ap (X.◌+◌ p.0) q.1 ∙ p.4)

  with_last : (us : List A) (w u : A) (c : K) → InSpan X us u → InSpan X (us ++ (w ∷ [])) (X.◌+◌ u (X.◌·◌ c w))
  with_last us w u c a = span_append X us (w ∷ []) u _ a (span_act X (w ∷ []) c w (span_head X w []))

  module _ (decide : (us : List A) (w : A) → Dec (InSpan X us w)) where
    After : List A → List A → A → Type 0
    After us ws v = (cs : List K) × (u : A) × GreedyAfter us ws cs × InSpan X us u × (X.◌+◌ u (combine X cs ws) ≡ v)

    exists_after : (us ws : List A) (v : A) → InSpan X (us ++ ws) v → After us ws v
    unfolding After GreedyAfter Last
    exists_after us [] v a = ([], v, tt, subst (λ l. InSpan X l v) (append-nil us) a, X.add_zero v)
    exists_after us (w ∷ ws) v a = go (exists_after (us ++ (w ∷ [])) ws v (subst (λ l. InSpan X l v) (sym (append_assoc us (w ∷ []) ws)) a)) (decide us w)
      where
        go : After (us ++ (w ∷ [])) ws v → Dec (InSpan X us w) → After us (w ∷ ws) v
        go r (yes s) =
            let l = last us w r.1 r.3 in
            (R.zero ∷ r.0, r.1, (λ h. refl, r.2), subst (InSpan X us) l.3 (span_add X us l.0 _ l.2 (span_act X us l.1 w s)), ap (X.◌+◌ r.1) (ap₂ X.◌+◌ (X.zero_act w) refl ∙ modules.zero_add X _) ∙ r.4)
        go r (no n) =
            let l = last us w r.1 r.3 in
            (l.1 ∷ r.0, l.0, (λ h. absurd (n h), r.2), l.2, sym (X.add_assoc _ _ _) ∙ ap (λ x. X.◌+◌ x (combine X r.0 ws)) l.3 ∙ r.4)

    -- in each span
    pub greedy_exists : (ws : List A) (v : A) → InSpan X ws v → (cs : List K) × Greedy X ws cs × (combine X cs ws ≡ v)
    unfolding After
    greedy_exists ws v a =
        let r = exists_after [] ws v a in
        (r.0, record { each = greedy_each [] ws r.0 r.2; skips = greedy_skips [] ws r.0 r.2 }, sym (ap (λ x. X.◌+◌ x (combine X r.0 ws)) (span_nothing X r.1 r.3) ∙ modules.zero_add X _) ∙ r.4)

    -- a multiple of w in the span, where the factor is not 0
    divided : (us : List A) (w : A) (c : K) → ¬ (c ≡ R.zero) → InSpan X us (X.◌·◌ c w) → InSpan X us w
    divided us w c n s = subst (InSpan X us) (sym (X.mul_act (k.inverse c) c w) ∙ ap (λ d. X.◌·◌ d w) (R.mul_comm (k.inverse c) c ∙ k.mul_inverse c n) ∙ X.one_act w) (span_act X us (k.inverse c) _ s)

    -- two sums with the last member, with different coefficients
    differ : (us : List A) (w u v : A) (c d : K) → InSpan X us u → InSpan X us v → X.◌+◌ u (X.◌·◌ c w) ≡ X.◌+◌ v (X.◌·◌ d w) → ¬ (c ≡ d) → InSpan X us w
    differ us w u v c d a b e n =
        let δ : K = R.◌+◌ c (R.neg d) in
        let back : R.◌+◌ d δ ≡ c = rings.add_left_comm R d c (R.neg d) ∙ ap (R.◌+◌ c) (R.add_neg d) ∙ R.add_zero c in
        let not_zero : ¬ (δ ≡ R.zero) = λ z. n (sym back ∙ ap (R.◌+◌ d) z ∙ R.add_zero d) in
        let shifted : X.◌+◌ (X.◌·◌ d w) (X.◌+◌ u (X.◌·◌ δ w)) ≡ X.◌+◌ (X.◌·◌ d w) v =
        modules.add_left_comm X _ u _ ∙ ap (X.◌+◌ u) (sym (X.add_act d δ w) ∙ ap (λ x. X.◌·◌ x w) back) ∙ e ∙ X.add_comm v _ in
        let left : X.◌+◌ u (X.◌·◌ δ w) ≡ v = modules.add_cancel X _ _ _ shifted in
        let alone : X.◌+◌ (modules.minus X u) v ≡ X.◌·◌ δ w = ap (X.◌+◌ (modules.minus X u)) (sym left) ∙ sym (X.add_assoc _ _ _) ∙ ap (λ x. X.◌+◌ x (X.◌·◌ δ w)) (modules.minus_add X u) ∙ modules.zero_add X _ in
        divided us w δ not_zero (subst (InSpan X us) alone (span_add X us _ v (span_minus X us u a) b))

    -- the coefficient of the last member is told
    same_last : (us : List A) (w u v : A) (x y : K) → InSpan X us u → InSpan X us v → (InSpan X us w → x ≡ R.zero) → (InSpan X us w → y ≡ R.zero) → X.◌+◌ u (X.◌·◌ x w) ≡ X.◌+◌ v (X.◌·◌ y w) → x ≡ y
    same_last us w u v x y a b g h e = go (decide us w) (k.same x y)
      where
        go : Dec (InSpan X us w) → Dec (x ≡ y) → x ≡ y
        go (yes s) d = g s ∙ sym (h s)
        go (no n) (yes p) = p
        go (no n) (no p) = absurd (n (differ us w u v x y a b e p))

    unique_after : (us ws : List A) (cs ds : List K) (u v : A) → GreedyAfter us ws cs → GreedyAfter us ws ds → InSpan X us u → InSpan X us v → X.◌+◌ u (combine X cs ws) ≡ X.◌+◌ v (combine X ds ws) → cs ≡ ds
    unfolding GreedyAfter
    unique_after us [] [] [] u v g h a b e = refl
    unique_after us [] [] (y ∷ ds) u v g h a b e = absurd h
    unique_after us [] (x ∷ cs) ds u v g h a b e = absurd g
    unique_after us (w ∷ ws) [] ds u v g h a b e = absurd g
    unique_after us (w ∷ ws) (x ∷ cs) [] u v g h a b e = absurd h
    unique_after us (w ∷ ws) (x ∷ cs) (y ∷ ds) u v g h a b e =
        let moved : X.◌+◌ (X.◌+◌ u (X.◌·◌ x w)) (combine X cs ws) ≡ X.◌+◌ (X.◌+◌ v (X.◌·◌ y w)) (combine X ds ws) = X.add_assoc _ _ _ ∙ e ∙ sym (X.add_assoc _ _ _) in
        let tails : cs ≡ ds = unique_after (us ++ (w ∷ [])) ws cs ds _ _ g.1 h.1 (with_last us w u x a) (with_last us w v y b) moved in
        let firsts : X.◌+◌ u (X.◌·◌ x w) ≡ X.◌+◌ v (X.◌·◌ y w) = modules.add_cancel X (combine X ds ws) _ _ (X.add_comm _ _ ∙ ap (X.◌+◌ _) (ap (λ l. combine X l ws) (sym tails)) ∙ moved ∙ X.add_comm _ _) in
        ap₂ ◌∷◌ (same_last us w u v x y a b g.0 h.0 firsts) tails

    -- and only once
    pub greedy_unique : (ws : List A) (cs ds : List K) → Greedy X ws cs → Greedy X ws ds → combine X cs ws ≡ combine X ds ws → cs ≡ ds
    greedy_unique ws cs ds g h e = unique_after [] ws cs ds X.zero X.zero (greedy_after [] ws cs g.each g.skips) (greedy_after [] ws ds h.each h.skips) (span_zero X []) (span_zero X []) (ap (X.◌+◌ X.zero) e)
