-- A set of vectors has at most one reduced list, and a module at most one reduced basis.
use Rattle.std.proofs.Common.{◌≡◌, ℕ, zero, suc, ◌⊎◌, inl, inr, true, List, [], ◌∷◌, length, sym, ap, ap₂, ◌∙◌, refl, subst}
use Rattle.std.specs.declared.cmp.Ordering.TheVariants.{Less}
use mathlib.Core.Bool.{Bool-discrete}
use Rattle.alg_core.specs.RingLaws as rings
use Rattle.alg_core.specs.ModuleLaws as modules
use Rattle.alg_core.specs.Fields.{FieldOn, Scalar, scalars, scalar_same, is_field}
use Rattle.alg_core.specs.FreeModules.{coef_add, coef_act}
use Rattle.alg_core.specs.Monomials.{monomials}
use Rattle.alg_core.specs.Keys.{Key, key_same, times_key, times_key_mul, KeyDivides}
use Rattle.alg_core.specs.KeyOrders.{OrderOn, Trichotomy, trichotomy, less_asymmetric, less_irreflexive}
use Rattle.alg_core.specs.Leads.{HasLead, has_lead, lead_unique}
use Rattle.alg_core.specs.Lists.{In}
use Rattle.alg_core.specs.Vectors.{Vect, vectors, coef_at, plus, zero_vector}
use Rattle.alg_core.specs.Spaces.{SpaceOver}
use Rattle.alg_core.specs.SpaceOrder.{key_order}
use Rattle.poly_module.specs.Parts.{Supp, select, select_inside, select_outside, supp_select}
use Rattle.poly_module.specs.Modules.{IsSubspace, LeadBy, InModule, IsGroebnerBasis, listed}
use Rattle.poly_module.specs.ReducedLists.{LeadsFall, IsReduced, FitsOrder, IsReducedBasis}
use Rattle.poly_module.proofs.ModuleElements.{module_zero, module_subspace, module_positions, module_within, module_part}
use Rattle.alg_core.specs.SpaceGrading.{degree}
use Rattle.poly_module.specs.Degrees.{IsHomogeneous, has_grade, graded_part}
use Rattle.poly_module.proofs.KeyGrowth.{divisor_not_greater}

module _ {E : Type 0} (k : FieldOn E) where
  abbrev nought : Scalar k
  nought = (scalars k).zero

  -- u less v
  unfoldable pub difference : Vect k → Vect k → Vect k
  difference u v = plus k u (modules.minus (vectors k) v)

  pub coef_difference : (u v : Vect k) (t : Key) → coef_at k (difference u v) t ≡ (scalars k).◌+◌ (coef_at k u t) ((scalars k).◌*◌ ((scalars k).neg (scalars k).one) (coef_at k v t))
  unfolding difference coef_at plus
  coef_difference u v t = coef_add (scalars k) key_same u _ t ∙ ap ((scalars k).◌+◌ _) (ap (λ w. coef_at k w t) (modules.minus_is (vectors k) v) ∙ coef_act (scalars k) key_same _ v t)

  subspace_difference : (U : Vect k → Type 0) → IsSubspace k U → (u v : Vect k) → U u → U v → U (difference u v)
  unfolding difference
  subspace_difference U sub u v a b = sub.plus u _ a (subst U (sym (modules.minus_is (vectors k) v)) (sub.act _ v b))

  pub difference_zero : (u v : Vect k) → difference u v ≡ zero_vector k → u ≡ v
  unfolding difference plus zero_vector
  difference_zero u v e = modules.eq_of_minus (vectors k) u v e

  module _ (o : OrderOn Key) (D : Key → Key → Type 0) (U : Vect k → Type 0) (sub : IsSubspace k U)
      (trans : (s t u : Key) → D s t → D t u → D s u) (W : Key → Type 0) (within : (v : Vect k) → U v → Supp k W v)
      (up : (s t : Key) → W s → D s t → ¬ (o.compare t s ≡ Less)) where
    -- no other key of a member is a multiple of a lead
    no_key : (vs : List (Vect k)) → IsReduced k o D U vs → (v : Vect k) → In v vs → (r t : Key) → LeadBy k o v r → ¬ (t ≡ r) → ¬ (coef_at k v t ≡ nought)
        → (w : Vect k) (s : Key) → In w vs → LeadBy k o w s → D s t → ⊥
    unfolding coef_at
    no_key vs a v p r t lead n c w s q l d = go (trichotomy o t r)
      where
        same : w ≡ v
        same = a.apart v w s t p q l c d

        leads : s ≡ r
        leads = lead_unique (scalars k) (is_field k) key_same o v s r (subst (λ x. LeadBy k o x s) same l) lead

        not_below : ¬ (o.compare t r ≡ Less)
        not_below = up r t (within v (a.inside v p) r lead.there) (subst (λ x. D x t) leads d)

        go : Trichotomy o t r → ⊥
        go (inl (inl h)) = not_below h
        go (inl (inr h)) = n h
        go (inr h) = c (lead.above t h)

    module _ (vs ws : List (Vect k)) (a : IsReduced k o D U vs) (b : IsReduced k o D U ws) where
      -- members with one lead are equal
      one_lead : (v w : Vect k) (r : Key) → In v vs → In w ws → LeadBy k o v r → LeadBy k o w r → v ≡ w
      unfolding coef_at zero_vector
      one_lead v w r p q lv lw = go (has_lead (scalars k) (is_field k) key_same o (difference v w))
        where
          inside : U (difference v w)
          inside = subspace_difference U sub v w (a.inside v p) (b.inside w q)

          at_lead : coef_at k (difference v w) r ≡ nought
          at_lead = coef_difference v w r ∙ ap₂ (scalars k).◌+◌ (a.monic v r p lv) (ap ((scalars k).◌*◌ _) (b.monic w r q lw) ∙ (scalars k).mul_one _) ∙ (scalars k).add_neg (scalars k).one

          neither : (t : Key) → LeadBy k o (difference v w) t → Dec (coef_at k v t ≡ nought) → Dec (coef_at k w t ≡ nought) → ⊥
          neither t l (yes x) (yes y) = l.there (coef_difference v w t ∙ ap₂ (scalars k).◌+◌ x (ap ((scalars k).◌*◌ _) y ∙ rings.mul_zero (scalars k) _) ∙ (scalars k).add_zero nought)
          neither t l (no x) y = let c = a.covers _ t inside l in no_key vs a v p r t lv (λ z. l.there (ap (coef_at k (difference v w)) z ∙ at_lead)) x c.0 c.1 c.2 c.3 c.4
          neither t l (yes x) (no y) = let c = b.covers _ t inside l in no_key ws b w q r t lw (λ z. l.there (ap (coef_at k (difference v w)) z ∙ at_lead)) y c.0 c.1 c.2 c.3 c.4

          go : HasLead (scalars k) (is_field k) key_same o (difference v w) → v ≡ w
          go (inl z) = difference_zero v w z
          go (inr l) = absurd (neither l.0 l.1 (scalar_same k _ _) (scalar_same k _ _))

      both_ways : (s t : Key) → W s → W t → D s t → D t s → s ≡ t
      both_ways s t p q d e = go (trichotomy o s t)
        where
          go : Trichotomy o s t → s ≡ t
          go (inl (inl h)) = absurd (up t s q e h)
          go (inl (inr h)) = h
          go (inr h) = absurd (up s t p d h)

      member_of_other : (v : Vect k) → In v vs → In v ws
      unfolding coef_at
      member_of_other v p =
          let lead = a.lead v p in
          let f = b.covers v lead.0 (a.inside v p) lead.1 in
          let h = a.covers f.0 f.1 (b.inside f.0 f.2) f.3 in
          let same : h.0 ≡ v = a.apart v h.0 h.1 lead.0 p h.2 h.3 lead.1.there (trans h.1 f.1 lead.0 h.4 f.4) in
          let first : h.1 ≡ lead.0 = lead_unique (scalars k) (is_field k) key_same o v h.1 lead.0 (subst (λ x. LeadBy k o x h.1) same h.3) lead.1 in
          let in_lead : W lead.0 = within v (a.inside v p) lead.0 lead.1.there in
          let in_other : W f.1 = within f.0 (b.inside f.0 f.2) f.1 f.3.there in
          let leads : f.1 ≡ lead.0 = both_ways f.1 lead.0 in_other in_lead f.4 (subst (λ x. D x f.1) first h.4) in
          subst (λ x. In x ws) (sym (one_lead v f.0 lead.0 p f.2 lead.1 (subst (LeadBy k o f.0) leads f.3))) f.2

  module _ (o : OrderOn Key) where
    -- lists whose leads fall and that have the same members are equal
    same_list : (vs ws : List (Vect k)) → LeadsFall k o vs → LeadsFall k o ws → ((v : Vect k) → In v vs → (t : Key) × LeadBy k o v t)
        → ((v : Vect k) → In v vs → In v ws) → ((v : Vect k) → In v ws → In v vs) → vs ≡ ws
    same_list [] [] f g lead to from = refl
    same_list [] (y ∷ ws) f g lead to from = absurd (from y (inl refl))
    same_list (x ∷ vs) [] f g lead to from = absurd (to x (inl refl))
    same_list (x ∷ vs) (y ∷ ws) f g lead to from = ap₂ ◌∷◌ heads (same_list vs ws f.1 g.1 (λ v i. lead v (inr i))
        (λ v i. later v ws y (λ e. twice x vs (lead x (inl refl)) f.0 (subst (λ u. In u vs) (sym e ∙ sym heads) i)) (to v (inr i)))
        (λ v i. later v vs x (λ e. twice y ws (lead_other y (inl refl)) g.0 (subst (λ u. In u ws) (sym e ∙ heads) i)) (from v (inr i))))
      where
        lead_other : (v : Vect k) → In v (y ∷ ws) → (t : Key) × LeadBy k o v t
        lead_other v i = lead v (from v i)

        -- the head stands in no later place
        twice : (u : Vect k) (us : List (Vect k)) → ((t : Key) × LeadBy k o u t) → ((w : Vect k) (s t : Key) → In w us → LeadBy k o u s → LeadBy k o w t → o.compare t s ≡ Less) → ¬ In u us
        twice u us l fall i = less_irreflexive o l.0 l.0 refl (fall u l.0 l.0 i l.1 l.1)

        later : (v : Vect k) (us : List (Vect k)) (u : Vect k) → ¬ (u ≡ v) → In v (u ∷ us) → In v us
        later v us u n (inl e) = absurd (n e)
        later v us u n (inr i) = i

        heads : x ≡ y
        heads = go (to x (inl refl)) (from y (inl refl))
          where
            go : ((y ≡ x) ⊎ In x ws) → ((x ≡ y) ⊎ In y vs) → x ≡ y
            go (inl e) h = sym e
            go (inr i) (inl e) = e
            go (inr i) (inr j) =
                let l = lead x (inl refl) in
                let m = lead y (inr j) in
                absurd (less_asymmetric o l.0 m.0 (g.0 x m.0 l.0 i m.1 l.1) (f.0 y l.0 m.0 j l.1 m.1))

  module _ (o : OrderOn Key) (D : Key → Key → Type 0) (U : Vect k → Type 0) (sub : IsSubspace k U)
      (trans : (s t u : Key) → D s t → D t u → D s u) (W : Key → Type 0) (within : (v : Vect k) → U v → Supp k W v)
      (up : (s t : Key) → W s → D s t → ¬ (o.compare t s ≡ Less)) where
    -- a subspace has at most one reduced list
    pub reduced_unique : (vs ws : List (Vect k)) → IsReduced k o D U vs → IsReduced k o D U ws → vs ≡ ws
    reduced_unique vs ws a b = same_list o vs ws a.falling b.falling a.lead (member_of_other o D U sub trans W within up vs ws a b) (member_of_other o D U sub trans W within up ws vs b a)

module _ {E : Type 0} (S : SpaceOver E) {I : Type 0} (g : I → Vect S.field) where
  pub divides_trans : (s t u : Key) → KeyDivides s t → KeyDivides t u → KeyDivides s u
  divides_trans s t u p q = (monomials.◌·◌ q.0 p.0, times_key_mul q.0 p.0 s ∙ ap (times_key q.0) p.1 ∙ q.1)

  -- a module over a space with a positive order has at most one reduced basis
  pub reduced_basis_unique : S.order.is_positive ≡ true → ((i : I) → Supp S.field (FitsOrder S) (g i)) → (vs ws : List (Vect S.field)) → IsReducedBasis S g vs → IsReducedBasis S g ws → vs ≡ ws
  reduced_basis_unique positive fits vs ws a b = reduced_unique S.field (key_order S) KeyDivides (InModule S.field g) (module_subspace S.field g) divides_trans (FitsOrder S)
      (module_positions S.field g (λ q. S.order.fits q (length S.weights) ≡ true) (λ q. Bool-discrete _ _) fits) (divisor_not_greater S positive) vs ws a.reduced b.reduced

module _ {E : Type 0} (k : FieldOn E) where
  -- a member of a list has a place
  pub place_of_member : (vs : List (Vect k)) (w : Vect k) → In w vs → (i : ℕ) × (listed k vs i ≡ w)
  place_of_member [] w i = absurd i
  place_of_member (v ∷ vs) w (inl e) = (0, e)
  place_of_member (v ∷ vs) w (inr i) = let r = place_of_member vs w i in (suc r.0, r.1)

  -- at each place stands a member, or 0
  pub listed_has : (P : Vect k → Type 0) → P (zero_vector k) → (vs : List (Vect k)) → ((w : Vect k) → In w vs → P w) → (i : ℕ) → P (listed k vs i)
  listed_has P none [] h i = none
  listed_has P none (v ∷ vs) h zero = h v (inl refl)
  listed_has P none (v ∷ vs) h (suc i) = listed_has P none vs (λ w j. h w (inr j)) i

module _ {E : Type 0} (S : SpaceOver E) {I : Type 0} (g : I → Vect S.field) where
  -- a reduced basis is a basis of the module that it generates
  pub reduced_is_basis : (vs : List (Vect S.field)) → IsReducedBasis S g vs → IsGroebnerBasis S.field (listed S.field vs) (key_order S)
  reduced_is_basis vs a v t inside lead =
      let within = module_within S.field (listed S.field vs) g (listed_has S.field (InModule S.field g) (module_zero S.field g) vs a.reduced.inside) v inside in
      let c = a.reduced.covers v t within lead in
      let p = place_of_member S.field vs c.0 c.2 in
      (p.0, c.1, subst (λ w. LeadBy S.field (key_order S) w c.1) (sym p.1) c.3, c.4)

module _ {E : Type 0} (S : SpaceOver E) {I : Type 0} (g : I → Vect S.field) where
  -- where a module has the parts of its elements at the keys that pass a test, the lead of a member of the reduced basis
  -- passes with all its keys
  pub reduced_selected : {Q : Key → Type 0} (test : (t : Key) → Dec (Q t)) → ((v : Vect S.field) → InModule S.field g v → InModule S.field g (select S.field test v))
      → S.order.is_positive ≡ true → ((i : I) → Supp S.field (FitsOrder S) (g i)) → (vs : List (Vect S.field)) → IsReducedBasis S g vs
      → (v : Vect S.field) (t : Key) → In v vs → LeadBy S.field (key_order S) v t → Q t → Supp S.field Q v
  unfolding coef_at zero_vector
  reduced_selected {Q = Q} test closed positive fits vs a v t i lead q = go (has_lead (scalars S.field) (is_field S.field) key_same (key_order S) rest)
    where
      U : Vect S.field → Type 0
      U = InModule S.field g

      passing : Vect S.field
      passing = select S.field test v

      rest : Vect S.field
      rest = difference S.field v passing

      inside : U rest
      inside = subspace_difference S.field U (module_subspace S.field g) v passing (a.reduced.inside v i) (closed v (a.reduced.inside v i))

      -- a key of the rest is a key of v that does not pass
      none : (r : Key) → Q r → coef_at S.field rest r ≡ (scalars S.field).zero
      none r e = coef_difference S.field v passing r ∙ ap (λ c. (scalars S.field).◌+◌ (coef_at S.field v r) ((scalars S.field).◌*◌ ((scalars S.field).neg (scalars S.field).one) c)) (select_inside S.field test v r e)
          ∙ ap₂ (scalars S.field).◌+◌ (sym (rings.one_mul (scalars S.field) _)) refl ∙ sym (rings.add_mul (scalars S.field) (scalars S.field).one ((scalars S.field).neg (scalars S.field).one) _)
          ∙ ap (λ c. (scalars S.field).◌*◌ c (coef_at S.field v r)) ((scalars S.field).add_neg (scalars S.field).one) ∙ rings.zero_mul (scalars S.field) _

      kept : (r : Key) → ¬ Q r → coef_at S.field rest r ≡ coef_at S.field v r
      kept r n = coef_difference S.field v passing r ∙ ap ((scalars S.field).◌+◌ _) (ap ((scalars S.field).◌*◌ _) (select_outside S.field test v r n) ∙ rings.mul_zero (scalars S.field) _) ∙ (scalars S.field).add_zero _

      against : (r : Key) → LeadBy S.field (key_order S) rest r → ⊥
      against r l =
          let other : ¬ Q r = λ e. l.there (none r e) in
          let c = a.reduced.covers rest r inside l in
          no_key S.field (key_order S) KeyDivides U (module_subspace S.field g) (divides_trans S g) (FitsOrder S) (module_positions S.field g (λ q. S.order.fits q (length S.weights) ≡ true) (λ q. Bool-discrete _ _) fits) (divisor_not_greater S positive)
          vs a.reduced v i t r lead (λ e. other (subst Q (sym e) q)) (λ z. l.there (kept r other ∙ z)) c.0 c.1 c.2 c.3 c.4

      go : HasLead (scalars S.field) (is_field S.field) key_same (key_order S) rest → Supp S.field Q v
      go (inl z) = subst (Supp S.field Q) (sym (difference_zero S.field v passing z)) (supp_select S.field test v)
      go (inr l) = absurd (against l.0 l.1)

module _ {E : Type 0} (S : SpaceOver E) {I : Type 0} (g : I → Vect S.field) (d : I → ℕ) (homogeneous : (i : I) → IsHomogeneous S (d i) (g i)) where
  -- the members of a reduced basis of a module of homogeneous vectors are homogeneous
  pub reduced_homogeneous : S.order.is_positive ≡ true → ((i : I) → Supp S.field (FitsOrder S) (g i)) → (vs : List (Vect S.field)) → IsReducedBasis S g vs
      → (v : Vect S.field) (t : Key) → In v vs → LeadBy S.field (key_order S) v t → IsHomogeneous S (degree S t) v
  unfolding graded_part
  reduced_homogeneous positive fits vs a v t i lead = reduced_selected S g (has_grade S.field (degree S) (degree S t)) (module_part S g d homogeneous (degree S t)) positive fits vs a v t i lead refl
