-- Independent lists: one in the span of another is not longer, and two with the same span have the same length.
use Rattle.std.proofs.Common.{◌≡◌, ◌⊎◌, inl, inr, suc, ◌+◌, ◌≤◌, List, [], ◌∷◌, ◌++◌, length, sym, ap, ap₂, ◌∙◌, refl, subst, arith}
use Rattle.std.proofs.lemmas.List.{length-append}
use Rattle.alg_core.specs.Rings.{Ring, Module, IsField}
use Rattle.alg_core.specs.ModuleLaws as modules
use Rattle.alg_core.specs.Lists.{In, in_left, in_right}
use Rattle.alg_core.specs.Spans.{combine, InSpan, Independent}
use Rattle.alg_core.proofs.SpanLaws.{span_add, span_act, span_minus, span_member, span_within, span_parts}

in_either : {A : Type 0} (x : A) (l l' : List A) → In x (l ++ l') → In x l ⊎ In x l'
in_either x [] l' h = inr h
in_either x (y ∷ l) l' (inl e) = inl (inl e)
in_either x (y ∷ l) l' (inr h) = go (in_either x l l' h)
  where
    go : In x l ⊎ In x l' → In x (y ∷ l) ⊎ In x l'
    go (inl i) = inl (inr i)
    go (inr i) = inr i

module _ {K : Type 0} {R : Ring K} (k : IsField R) {A : Type 0} (X : Module R A) where
  -- the rest of an independent list is independent, and its head is not in the span of the rest
  pub independent_tail : (w : A) (ws : List A) → Independent X (w ∷ ws) → Independent X ws
  independent_tail w ws h cs e z i = h (R.zero ∷ cs) (ap suc e) (ap₂ X.◌+◌ (X.zero_act w) z ∙ X.add_zero X.zero) (suc i)

  pub independent_head : (w : A) (ws : List A) → Independent X (w ∷ ws) → ¬ InSpan X ws w
  independent_head w ws h s =
      let minus_one : R.neg R.one ≡ R.zero = h (R.neg R.one ∷ s.0) (ap suc s.1) (ap₂ X.◌+◌ (sym (modules.minus_is X w)) s.2 ∙ modules.minus_add X w) 0 in
      k.one_not_zero (sym (R.add_zero R.one) ∙ ap (R.◌+◌ R.one) (sym minus_one) ∙ R.add_neg R.one)

  -- a sum of multiples is 0, or has a member with a coefficient other than 0
  record Picked (ws : List A) (t : A) : Type 0 where
    pub before : List A
    pub member : A
    pub after : List A
    pub coefficient : K
    pub rest : A
    pub is : ws ≡ before ++ (member ∷ after)
    pub not_zero : ¬ (coefficient ≡ R.zero)
    pub others : InSpan X (before ++ after) rest
    pub sum : X.◌+◌ (X.◌·◌ coefficient member) rest ≡ t

  pick : (cs : List K) (ws : List A) → length cs ≡ length ws → (combine X cs ws ≡ X.zero) ⊎ Picked ws (combine X cs ws)
  pick [] ws e = inl refl
  pick (c ∷ cs) [] e = inl refl
  pick (c ∷ cs) (w ∷ ws) e = go (k.same c R.zero) (pick cs ws (omega arith))
    where
      go : Dec (c ≡ R.zero) → (combine X cs ws ≡ X.zero) ⊎ Picked ws (combine X cs ws) → (combine X (c ∷ cs) (w ∷ ws) ≡ X.zero) ⊎ Picked (w ∷ ws) (combine X (c ∷ cs) (w ∷ ws))
      go (no n) r = inr (record { before = []; member = w; after = ws; coefficient = c; rest = combine X cs ws; is = refl; not_zero = n; others = (cs, omega arith, refl); sum = refl })
      go (yes z) (inl q) = inl (ap₂ X.◌+◌ (ap (λ d. X.◌·◌ d w) z ∙ X.zero_act w) q ∙ X.add_zero X.zero)
      go (yes z) (inr p) = inr (record {
        before = w ∷ p.before;
        member = p.member;
        after = p.after;
        coefficient = p.coefficient;
        rest = p.rest;
        is = ap (λ l. w ∷ l) p.is;
        not_zero = p.not_zero;
        others = (R.zero ∷ p.others.0, ap suc p.others.1, ap₂ X.◌+◌ (X.zero_act w) p.others.2 ∙ modules.zero_add X _);
        sum = p.sum ∙ sym (ap₂ X.◌+◌ (ap (λ d. X.◌·◌ d w) z ∙ X.zero_act w) refl ∙ modules.zero_add X _);
      })

  -- what is left of ws when independent members us took the place of as many of its members
  record Exchanged (us ws : List A) : Type 0 where
    pub left : List A
    pub count : length us + length left ≡ length ws
    pub spans : (w : A) → In w ws → InSpan X (us ++ left) w

  -- one member more
  module _ (u : A) (us ws : List A) (x : Exchanged us ws) (inside : InSpan X ws u) (outside : ¬ InSpan X us u) where
    in_new : InSpan X (us ++ x.left) u
    in_new = span_within X ws (us ++ x.left) x.spans u inside

    exchange_at : (s t : A) → InSpan X us s → X.◌+◌ s t ≡ u → Picked x.left t → Exchanged (u ∷ us) ws
    exchange_at s t a e p = record {
      left = p.before ++ p.after;
      count = let c = x.count in let l : length x.left ≡ length (p.before ++ (p.member ∷ p.after)) = ap length p.is in omega (arith, length-append p.before (p.member ∷ p.after), length-append p.before p.after);
      spans = λ w i. span_within X (us ++ x.left) new each w (x.spans w i);
    }
      where
        new : List A
        new = (u ∷ us) ++ (p.before ++ p.after)

        old : (w : A) → In w us → InSpan X new w
        old w i = span_member X new w (inr (in_left w us (p.before ++ p.after) i))

        kept : (w : A) → In w (p.before ++ p.after) → InSpan X new w
        kept w i = span_member X new w (inr (in_right w us (p.before ++ p.after) i))

        multiple : InSpan X new (X.◌·◌ p.coefficient p.member)
        multiple = subst (InSpan X new) alone (span_add X new _ _ (span_minus X new _ (span_add X new s p.rest (span_within X us new old s a) (span_within X (p.before ++ p.after) new kept p.rest p.others))) (span_member X new u (inl refl)))
          where
            total : X.◌+◌ (X.◌+◌ s p.rest) (X.◌·◌ p.coefficient p.member) ≡ u
            total = X.add_assoc _ _ _ ∙ ap (X.◌+◌ s) (X.add_comm _ _ ∙ p.sum) ∙ e

            alone : X.◌+◌ (modules.minus X (X.◌+◌ s p.rest)) u ≡ X.◌·◌ p.coefficient p.member
            alone = ap (X.◌+◌ _) (sym total) ∙ sym (X.add_assoc _ _ _) ∙ ap (λ z. X.◌+◌ z (X.◌·◌ p.coefficient p.member)) (modules.minus_add X _) ∙ modules.zero_add X _

        member : InSpan X new p.member
        member = subst (InSpan X new) (sym (X.mul_act _ _ _) ∙ ap (λ d. X.◌·◌ d p.member) (R.mul_comm _ _ ∙ k.mul_inverse p.coefficient p.not_zero) ∙ X.one_act _) (span_act X new (k.inverse p.coefficient) _ multiple)

        each : (w : A) → In w (us ++ x.left) → InSpan X new w
        each w i = go (in_either w us x.left i)
          where
            at : In w p.before ⊎ In w (p.member ∷ p.after) → InSpan X new w
            at (inl j) = kept w (in_left w p.before p.after j)
            at (inr (inl q)) = subst (InSpan X new) q member
            at (inr (inr j)) = kept w (in_right w p.before p.after j)

            go : In w us ⊎ In w x.left → InSpan X new w
            go (inl j) = old w j
            go (inr j) = at (in_either w p.before (p.member ∷ p.after) (subst (In w) p.is j))

    exchange_one : Exchanged (u ∷ us) ws
    exchange_one =
        let p = span_parts X us x.left u in_new in
        go p.0 p.1 p.2 p.3 p.4 (pick p.3.0 x.left p.3.1)
      where
        go : (s t : A) → InSpan X us s → (b : InSpan X x.left t) → X.◌+◌ s t ≡ u → (combine X b.0 x.left ≡ X.zero) ⊎ Picked x.left (combine X b.0 x.left) → Exchanged (u ∷ us) ws
        go s t a b e (inl z) = absurd (outside (subst (InSpan X us) (sym (X.add_zero s) ∙ ap (X.◌+◌ s) (sym z ∙ b.2) ∙ e) a))
        go s t a b e (inr p) = exchange_at s t a e (subst (Picked x.left) b.2 p)

  exchange : (us ws : List A) → Independent X us → ((u : A) → In u us → InSpan X ws u) → Exchanged us ws
  exchange [] ws h each = record { left = ws; count = omega arith; spans = λ w i. span_member X ws w i }
  exchange (u ∷ us) ws h each = exchange_one u us ws (exchange us ws (independent_tail u us h) (λ v i. each v (inr i))) (each u (inl refl)) (independent_head u us h)

  -- an independent list in the span of another is not longer
  pub independent_length : (us ws : List A) → Independent X us → ((u : A) → In u us → InSpan X ws u) → length us ≤ length ws
  independent_length us ws h each = let x = exchange us ws h each in let c = x.count in omega arith

  -- independent lists with the same span have the same length
  pub same_length : (us ws : List A) → Independent X us → Independent X ws → ((u : A) → In u us → InSpan X ws u) → ((w : A) → In w ws → InSpan X us w) → length us ≡ length ws
  same_length us ws h j to from = let a = independent_length us ws h to in let b = independent_length ws us j from in omega arith
