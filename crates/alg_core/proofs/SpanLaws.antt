-- Spans: sums, multiples, members, longer lists, and lists of members of a span.
use Rattle.std.proofs.Common.{◌≡◌, inl, inr, suc, List, [], ◌∷◌, ◌++◌, length, map, sym, ap, ap₂, ◌∙◌, refl, subst, arith}
use Rattle.alg_core.specs.Rings.{Ring, Module, Linear}
use Rattle.alg_core.specs.ModuleLaws as modules
use Rattle.alg_core.specs.Lists.{In}
use Rattle.alg_core.specs.Spans.{combine, InSpan}

module _ {K : Type 0} {R : Ring K} {A : Type 0} (X : Module R A) where
  added : List K → List K → List K
  added [] ds = []
  added (c ∷ cs) [] = []
  added (c ∷ cs) (d ∷ ds) = R.◌+◌ c d ∷ added cs ds

  multiplied : K → List K → List K
  multiplied d [] = []
  multiplied d (c ∷ cs) = R.◌*◌ d c ∷ multiplied d cs

  -- as many zeros as there are members
  zeros : List A → List K
  zeros [] = []
  zeros (w ∷ ws) = R.zero ∷ zeros ws

  combine_added : (cs ds : List K) (ws : List A) → length cs ≡ length ds → combine X (added cs ds) ws ≡ X.◌+◌ (combine X cs ws) (combine X ds ws)
  unfolding added
  combine_added [] [] ws e = sym (X.add_zero X.zero)
  combine_added [] (d ∷ ds) ws e = absurd (omega arith)
  combine_added (c ∷ cs) [] ws e = absurd (omega arith)
  combine_added (c ∷ cs) (d ∷ ds) [] e = sym (X.add_zero X.zero)
  combine_added (c ∷ cs) (d ∷ ds) (w ∷ ws) e = ap₂ X.◌+◌ (X.add_act c d w) (combine_added cs ds ws (omega arith)) ∙ modules.add_swap X _ _ _ _

  combine_multiplied : (d : K) (cs : List K) (ws : List A) → combine X (multiplied d cs) ws ≡ X.◌·◌ d (combine X cs ws)
  unfolding multiplied
  combine_multiplied d [] ws = sym (modules.act_zero X d)
  combine_multiplied d (c ∷ cs) [] = sym (modules.act_zero X d)
  combine_multiplied d (c ∷ cs) (w ∷ ws) = ap₂ X.◌+◌ (X.mul_act d c w) (combine_multiplied d cs ws) ∙ sym (X.act_add d _ _)

  combine_zeros : (ws : List A) → combine X (zeros ws) ws ≡ X.zero
  unfolding zeros
  combine_zeros [] = refl
  combine_zeros (w ∷ ws) = ap₂ X.◌+◌ (X.zero_act w) (combine_zeros ws) ∙ X.add_zero X.zero

  length_added : (cs ds : List K) → length cs ≡ length ds → length (added cs ds) ≡ length ds
  unfolding added
  length_added [] ds e = e
  length_added (c ∷ cs) [] e = absurd (omega arith)
  length_added (c ∷ cs) (d ∷ ds) e = ap suc (length_added cs ds (omega arith))

  length_multiplied : (d : K) (cs : List K) → length (multiplied d cs) ≡ length cs
  unfolding multiplied
  length_multiplied d [] = refl
  length_multiplied d (c ∷ cs) = ap suc (length_multiplied d cs)

  length_zeros : (ws : List A) → length (zeros ws) ≡ length ws
  unfolding zeros
  length_zeros [] = refl
  length_zeros (w ∷ ws) = ap suc (length_zeros ws)

  pub span_zero : (ws : List A) → InSpan X ws X.zero
  span_zero ws = (zeros ws, length_zeros ws, combine_zeros ws)

  pub span_add : (ws : List A) (u v : A) → InSpan X ws u → InSpan X ws v → InSpan X ws (X.◌+◌ u v)
  span_add ws u v a b = (added a.0 b.0, length_added a.0 b.0 (a.1 ∙ sym b.1) ∙ b.1, combine_added a.0 b.0 ws (a.1 ∙ sym b.1) ∙ ap₂ X.◌+◌ a.2 b.2)

  pub span_act : (ws : List A) (d : K) (u : A) → InSpan X ws u → InSpan X ws (X.◌·◌ d u)
  span_act ws d u a = (multiplied d a.0, length_multiplied d a.0 ∙ a.1, combine_multiplied d a.0 ws ∙ ap (X.◌·◌ d) a.2)

  pub span_minus : (ws : List A) (u : A) → InSpan X ws u → InSpan X ws (modules.minus X u)
  span_minus ws u a = subst (InSpan X ws) (sym (modules.minus_is X u)) (span_act ws _ u a)

  -- one member more in front
  pub span_tail : (w : A) (ws : List A) (v : A) → InSpan X ws v → InSpan X (w ∷ ws) v
  span_tail w ws v a = (R.zero ∷ a.0, ap suc a.1, ap₂ X.◌+◌ (X.zero_act w) a.2 ∙ modules.zero_add X v)

  pub span_head : (w : A) (ws : List A) → InSpan X (w ∷ ws) w
  span_head w ws = (R.one ∷ zeros ws, ap suc (length_zeros ws), ap₂ X.◌+◌ (X.one_act w) (combine_zeros ws) ∙ X.add_zero w)

  pub span_member : (ws : List A) (w : A) → In w ws → InSpan X ws w
  span_member [] w i = absurd i
  span_member (x ∷ ws) w (inl e) = subst (InSpan X (x ∷ ws)) e (span_head x ws)
  span_member (x ∷ ws) w (inr i) = span_tail x ws w (span_member ws w i)

  -- where all members have a property that sums and multiples keep, so has each element of the span
  pub span_ind : (P : A → Type 0) → P X.zero → ((u v : A) → P u → P v → P (X.◌+◌ u v)) → ((c : K) (u : A) → P u → P (X.◌·◌ c u)) → (ws : List A) → ((w : A) → In w ws → P w) → (v : A) → InSpan X ws v → P v
  span_ind P none sum act ws each v a = subst P a.2 (go a.0 ws each)
    where
      go : (cs : List K) (ws : List A) → ((w : A) → In w ws → P w) → P (combine X cs ws)
      go [] ws each = none
      go (c ∷ cs) [] each = none
      go (c ∷ cs) (w ∷ ws) each = sum _ _ (act c w (each w (inl refl))) (go cs ws (λ x i. each x (inr i)))

  -- where all members lie in another span, so does each element of the span
  pub span_within : (us ws : List A) → ((u : A) → In u us → InSpan X ws u) → (v : A) → InSpan X us v → InSpan X ws v
  span_within us ws each = span_ind (InSpan X ws) (span_zero ws) (span_add ws) (span_act ws) us each

  -- an element of the span of a longer list
  pub span_append : (us ws : List A) (u w : A) → InSpan X us u → InSpan X ws w → InSpan X (us ++ ws) (X.◌+◌ u w)
  span_append [] ws u w a b = subst (InSpan X ws) (sym (ap (λ x. X.◌+◌ x w) (sym (nothing a)) ∙ modules.zero_add X w)) b
    where
      nothing : InSpan X [] u → X.zero ≡ u
      nothing ([], e, q) = q
      nothing (c ∷ cs, e, q) = q
  span_append (x ∷ us) ws u w ([], e, q) b = absurd (omega arith)
  span_append (x ∷ us) ws u w (c ∷ cs, e, q) b =
      let rest = span_append us ws (combine X cs us) w (cs, omega arith, refl) b in
      (c ∷ rest.0, ap suc rest.1, ap (X.◌+◌ (X.◌·◌ c x)) rest.2 ∙ sym (X.add_assoc _ _ w) ∙ ap (λ z. X.◌+◌ z w) q)

  -- is a sum of elements of the two spans
  pub span_parts : (us ws : List A) (v : A) → InSpan X (us ++ ws) v → (u : A) × (w : A) × InSpan X us u × InSpan X ws w × (X.◌+◌ u w ≡ v)
  span_parts [] ws v a = (X.zero, v, span_zero [], a, modules.zero_add X v)
  span_parts (x ∷ us) ws v ([], e, q) = absurd (omega arith)
  span_parts (x ∷ us) ws v (c ∷ cs, e, q) =
      let rest = span_parts us ws (combine X cs (us ++ ws)) (cs, omega arith, refl) in
      (X.◌+◌ (X.◌·◌ c x) rest.0, rest.1, (c ∷ rest.2.0, ap suc rest.2.1, ap (X.◌+◌ (X.◌·◌ c x)) rest.2.2), rest.3, X.add_assoc _ _ _ ∙ ap (X.◌+◌ (X.◌·◌ c x)) rest.4 ∙ q)

  -- the span of one element
  pub span_one : (w v : A) → InSpan X (w ∷ []) v → (c : K) × (X.◌·◌ c w ≡ v)
  span_one w v ([], e, q) = absurd (omega arith)
  span_one w v (c ∷ [], e, q) = (c, sym (X.add_zero _) ∙ q)
  span_one w v (c ∷ d ∷ cs, e, q) = absurd (omega arith)

  -- the span of nothing
  pub span_nothing : (v : A) → InSpan X [] v → v ≡ X.zero
  span_nothing v ([], e, q) = sym q
  span_nothing v (c ∷ cs, e, q) = sym q

module _ {K : Type 0} {R : Ring K} {A B : Type 0} (X : Module R A) (Y : Module R B) (f : A → B) (l : Linear X Y f) where
  combine_map : (cs : List K) (ws : List A) → f (combine X cs ws) ≡ combine Y cs (map f ws)
  combine_map [] ws = modules.linear_zero X Y f l
  combine_map (c ∷ cs) [] = modules.linear_zero X Y f l
  combine_map (c ∷ cs) (w ∷ ws) = l.add _ _ ∙ ap₂ Y.◌+◌ (l.act c w) (combine_map cs ws)

  length_map : (ws : List A) → length (map f ws) ≡ length ws
  length_map [] = refl
  length_map (w ∷ ws) = ap suc (length_map ws)

  -- a linear function takes a span to the span of the images
  pub span_map : (ws : List A) (v : A) → InSpan X ws v → InSpan Y (map f ws) (f v)
  span_map ws v a = (a.0, a.1 ∙ sym (length_map ws), sym (combine_map a.0 ws) ∙ ap f a.2)
