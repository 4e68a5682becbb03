-- S-vectors: their keys, degrees and module, that there is one, and when a pair is treated.
use Rattle.std.proofs.Common.{◌≡◌, ◌⊎◌, inl, inr, ℕ, ◌+◌, sym, ap, ap₂, ◌∙◌, refl, subst}
use Rattle.std.specs.declared.cmp.Ordering.TheVariants.{Less}
use Rattle.alg_core.specs.RingLaws as rings
use Rattle.alg_core.specs.Fields.{FieldOn, Scalar, scalars, is_field}
use Rattle.alg_core.specs.Monomials.{monomials, mon_cancel}
use Rattle.alg_core.specs.Keys.{Key, key_same, times_key_one, KeyDivides}
use Rattle.alg_core.specs.CommonMultiples.{common_multiple}
use Rattle.alg_core.specs.KeyOrders.{OrderOn, Trichotomy, trichotomy}
use Rattle.alg_core.specs.Leads.{has_lead, HasLead, lead_unique}
use Rattle.alg_core.specs.Spaces.{SpaceOver}
use Rattle.alg_core.specs.SpaceOrder.{key_order}
use Rattle.alg_core.specs.SpaceGrading.{weight, degree, degree_times_key}
use Rattle.alg_core.specs.Vectors.{Vect, vectors, coef_at, zero_vector, shift}
use Rattle.alg_core.proofs.KeyMultiples.{key_lcm_left, key_lcm_right}
use Rattle.alg_core.proofs.VectorLaws.{coef_at_plus}
use Rattle.poly_module.specs.Signs.{minus}
use Rattle.poly_module.specs.Polynomials.{product}
use Rattle.poly_module.specs.Products.{shift_product, one_product, one_vector_single}
use Rattle.poly_module.specs.Parts.{supp_act}
use Rattle.poly_module.specs.Degrees.{IsHomogeneous}
use Rattle.poly_module.specs.Forms.{homogeneous_shift}
use Rattle.poly_module.specs.Modules.{LeadBy, InModule}
use Rattle.poly_module.proofs.EchelonLists.{coef_at_act}
use Rattle.poly_module.proofs.LeadLaws.{coef_shift, lead_act, lead_shift}
use Rattle.poly_module.proofs.SpaceVectorLaws.{minus_plus, minus_unique, supp_minus}
use Rattle.poly_module.proofs.ModuleElements.{module_act, module_shift}
use Rattle.module_groebner.specs.Remainders.{IsSumBelow, IsRemainder}
use Rattle.module_groebner.specs.SVectors.{IsMonicMultiple, IsSVector, IsTreated}
use Rattle.module_groebner.proofs.Sums.{sum_zero, sum_plus, sum_one, Grows, sum_grows, up_to_below, not_greater_less}
use Rattle.module_groebner.proofs.Remainders.{remainder_low, module_difference}

module _ {E : Type 0} (S : SpaceOver E) where
  abbrev k : FieldOn E
  k = S.field

  abbrev o : OrderOn Key
  o = key_order S

  pub multiple_lead : (v : Vect S.field) (t l : Key) (u : Vect S.field) → IsMonicMultiple S v t l u → LeadBy S.field (key_order S) u l
  multiple_lead v t l u m = subst (λ w. LeadBy k o w l) (sym m.is) (lead_act k o m.factor nonzero (shift k m.monomial v) l (subst (LeadBy k o (shift k m.monomial v)) m.reaches (lead_shift S m.monomial v t m.lead)))
    where
      nonzero : ¬ (m.factor ≡ (scalars k).zero)
      nonzero e = (is_field k).one_not_zero (sym m.monic ∙ ap (λ c. (scalars k).◌*◌ c (coef_at k v t)) e ∙ rings.zero_mul (scalars k) _)

  pub multiple_coef : (v : Vect S.field) (t l : Key) (u : Vect S.field) → IsMonicMultiple S v t l u → coef_at S.field u l ≡ (scalars S.field).one
  multiple_coef v t l u m = ap (λ w. coef_at k w l) m.is ∙ coef_at_act k m.factor (shift k m.monomial v) l
      ∙ ap ((scalars k).◌*◌ m.factor) (ap (coef_at k (shift k m.monomial v)) (sym m.reaches) ∙ coef_shift k m.monomial v t) ∙ m.monic

  pub multiple_homogeneous : (v : Vect S.field) (t l : Key) (u : Vect S.field) → IsMonicMultiple S v t l u → (d : ℕ) → IsHomogeneous S d v → IsHomogeneous S (degree S l) u
  unfolding coef_at
  multiple_homogeneous v t l u m d h = subst (IsHomogeneous S (degree S l)) (sym m.is) (supp_act k (λ s. degree S s ≡ degree S l) m.factor _
      (subst (λ n. IsHomogeneous S n (shift k m.monomial v)) same (homogeneous_shift S m.monomial d v h)))
    where
      same : weight S.weights 0 m.monomial.0 + d ≡ degree S l
      same = ap (λ n. weight S.weights 0 m.monomial.0 + n) (sym (h t m.lead.there)) ∙ sym (degree_times_key S m.monomial t) ∙ ap (degree S) m.reaches

  -- the multiple is determined
  pub multiple_unique : (v : Vect S.field) (s t l : Key) (u w : Vect S.field) → IsMonicMultiple S v s l u → IsMonicMultiple S v t l w → u ≡ w
  multiple_unique v s t l u w a b = a.is ∙ ap₂ (λ c m. (vectors k).◌·◌ c (shift k m v)) factors monomial ∙ sym b.is
    where
      same : s ≡ t
      same = lead_unique (scalars k) (is_field k) key_same o v s t a.lead b.lead

      one_factor : (x y c : Scalar k) → (scalars k).◌*◌ x c ≡ (scalars k).one → (scalars k).◌*◌ y c ≡ (scalars k).one → x ≡ y
      one_factor x y c p q = sym ((scalars k).mul_one x) ∙ ap ((scalars k).◌*◌ x) (sym q ∙ (scalars k).mul_comm y c) ∙ sym ((scalars k).mul_assoc x c y) ∙ ap (λ z. (scalars k).◌*◌ z y) p ∙ rings.one_mul (scalars k) y

      factors : a.factor ≡ b.factor
      factors = one_factor a.factor b.factor (coef_at k v t) (ap (λ r. (scalars k).◌*◌ a.factor (coef_at k v r)) (sym same) ∙ a.monic) b.monic

      monomial : a.monomial ≡ b.monomial
      monomial = mon_cancel s.1 a.monomial b.monomial (monomials.comm s.1 a.monomial ∙ ap (λ r. r.1) (a.reaches ∙ sym b.reaches) ∙ ap (λ r. monomials.◌·◌ b.monomial r.1) (sym same) ∙ monomials.comm b.monomial s.1)

  -- there is one for each key that the lead divides
  pub multiple_exists : (v : Vect S.field) (t l : Key) → LeadBy S.field (key_order S) v t → KeyDivides t l → (u : Vect S.field) × IsMonicMultiple S v t l u
  unfolding coef_at
  multiple_exists v t l lead d = (
    (vectors k).◌·◌ ((is_field k).inverse (coef_at k v t)) (shift k d.0 v),
    record {
      factor = (is_field k).inverse (coef_at k v t);
      monomial = d.0;
      lead = lead;
      monic = (scalars k).mul_comm _ _ ∙ (is_field k).mul_inverse _ lead.there;
      reaches = d.1;
      is = refl;
    },
  )

  module _ (a b v : Vect S.field) (s : IsSVector S a b v) where
    abbrev common : Key
    common = common_multiple s.left s.right

    -- the lead of an S-vector is smaller than the common multiple
    pub s_below : (r : Key) → LeadBy S.field (key_order S) v r → (key_order S).compare r (common_multiple s.left s.right) ≡ Less
    unfolding coef_at
    s_below r l = go (trichotomy o r common)
      where
        sums : (q : Key) → (scalars k).◌+◌ (coef_at k v q) (coef_at k s.right_multiple q) ≡ coef_at k s.left_multiple q
        sums q = sym (coef_at_plus k v s.right_multiple q) ∙ ap (λ w. coef_at k w q) s.difference

        go : Trichotomy o r common → o.compare r common ≡ Less
        go (inl (inl h)) = h
        go (inl (inr e)) = absurd (l.there (ap (coef_at k v) e ∙ rings.add_cancel (scalars k) (scalars k).one _ _
            ((scalars k).add_comm _ _ ∙ ap ((scalars k).◌+◌ (coef_at k v common)) (sym (multiple_coef b s.right _ s.right_multiple s.is_right))
            ∙ sums common ∙ multiple_coef a s.left _ s.left_multiple s.is_left ∙ sym ((scalars k).add_zero _))))
        go (inr h) = absurd (l.there (sym ((scalars k).add_zero _) ∙ ap ((scalars k).◌+◌ (coef_at k v r)) (sym ((multiple_lead b s.right _ s.right_multiple s.is_right).above r h))
            ∙ sums r ∙ (multiple_lead a s.left _ s.left_multiple s.is_left).above r h))

    -- it is homogeneous of the degree of the common multiple
    pub s_homogeneous : (d e : ℕ) → IsHomogeneous S d a → IsHomogeneous S e b → IsHomogeneous S (degree S (common_multiple s.left s.right)) v
    s_homogeneous d e ha hb = subst (IsHomogeneous S (degree S common)) (sym (minus_unique k v s.left_multiple s.right_multiple s.difference))
        (supp_minus k (λ t. degree S t ≡ degree S common) s.left_multiple s.right_multiple (multiple_homogeneous a s.left common s.left_multiple s.is_left d ha) (multiple_homogeneous b s.right common s.right_multiple s.is_right e hb))

    -- and lies in each module with both
    pub s_inside : (g : ℕ → Vect S.field) → InModule S.field g a → InModule S.field g b → InModule S.field g v
    s_inside g ia ib = module_difference S g v s.left_multiple s.right_multiple s.difference (inside a s.left s.left_multiple s.is_left ia) (inside b s.right s.right_multiple s.is_right ib)
      where
        inside : (x : Vect S.field) (t : Key) (u : Vect S.field) → IsMonicMultiple S x t common u → InModule k g x → InModule k g u
        inside x t u m i = subst (InModule k g) (sym m.is) (module_act k g m.factor _ (module_shift k g m.monomial x i))

  -- two vectors with leads at one position have an S-vector
  pub s_exists : (a b : Vect S.field) (s t : Key) → LeadBy S.field (key_order S) a s → LeadBy S.field (key_order S) b t → s.0 ≡ t.0 → (v : Vect S.field) × IsSVector S a b v
  s_exists a b s t la lb same =
      let u = multiple_exists a s (common_multiple s t) la (key_lcm_left s t) in
      let w = multiple_exists b t (common_multiple s t) lb (key_lcm_right s t same) in
      (minus k u.0 w.0, record { left = s; right = t; position = same; left_multiple = u.0; right_multiple = w.0; is_left = u.1; is_right = w.1; difference = minus_plus k u.0 w.0 })

  -- its leads are the leads
  pub s_left : (a b v : Vect S.field) (s : IsSVector S a b v) (p : Key) → LeadBy S.field (key_order S) a p → s.left ≡ p
  s_left a b v s p l = lead_unique (scalars k) (is_field k) key_same o a s.left p s.is_left.lead l

  pub s_right : (a b v : Vect S.field) (s : IsSVector S a b v) (q : Key) → LeadBy S.field (key_order S) b q → s.right ≡ q
  s_right a b v s q l = lead_unique (scalars k) (is_field k) key_same o b s.right q s.is_right.lead l

  -- it is determined
  pub s_unique : (a b v w : Vect S.field) → IsSVector S a b v → IsSVector S a b w → v ≡ w
  s_unique a b v w s r = minus_unique k v s.left_multiple s.right_multiple s.difference ∙ ap₂ (minus k) lefts rights ∙ sym (minus_unique k w r.left_multiple r.right_multiple r.difference)
    where
      left : s.left ≡ r.left
      left = s_left a b v s r.left r.is_left.lead

      right : s.right ≡ r.right
      right = s_right a b v s r.right r.is_right.lead

      same : common_multiple s.left s.right ≡ common_multiple r.left r.right
      same = ap₂ common_multiple left right

      lefts : s.left_multiple ≡ r.left_multiple
      lefts = multiple_unique a s.left r.left (common_multiple r.left r.right) s.left_multiple r.left_multiple (subst (λ l. IsMonicMultiple S a s.left l s.left_multiple) same s.is_left) r.is_left

      rights : s.right_multiple ≡ r.right_multiple
      rights = multiple_unique b s.right r.right (common_multiple r.left r.right) s.right_multiple r.right_multiple (subst (λ l. IsMonicMultiple S b s.right l s.right_multiple) same s.is_right) r.is_right

  module _ (g h : ℕ → Vect S.field) (grows : Grows S g h) where
    -- a treated pair stays treated
    pub treated_grows : (i j : ℕ) → h i ≡ g i → h j ≡ g j → IsTreated S g i j → IsTreated S h i j
    treated_grows i j ei ej tr s t ls lt same =
        let r = tr s t (subst (λ w. LeadBy k o w s) ei ls) (subst (λ w. LeadBy k o w t) ej lt) same in
        (r.0, subst (λ w. IsSVector S w (h j) r.0) (sym ei) (subst (λ w. IsSVector S (g i) w r.0) (sym ej) r.1), sum_grows S g h grows _ r.0 r.2)

    -- a pair is treated where the remainder of its S-vector is 0 or a member
    pub treated_by : (i j : ℕ) (v r : Vect S.field) → h i ≡ g i → h j ≡ g j → IsSVector S (g i) (g j) v → IsRemainder S g v r → (r ≡ zero_vector S.field) ⊎ ((n : ℕ) × (h n ≡ r)) → IsTreated S h i j
    unfolding zero_vector coef_at
    treated_by i j v r ei ej s m new p q lp lq same =
        let left : s.left ≡ p = s_left (g i) (g j) v s p (subst (λ w. LeadBy k o w p) ei lp) in
        let right : s.right ≡ q = s_right (g i) (g j) v s q (subst (λ w. LeadBy k o w q) ej lq) in
        (v, subst (λ w. IsSVector S w (h j) v) (sym ei) (subst (λ w. IsSVector S (g i) w v) (sym ej) s), subst (λ t. IsSumBelow S h t v) (ap₂ common_multiple left right) (go (has_lead (scalars k) (is_field k) key_same o v)))
      where
        l : Key
        l = common_multiple s.left s.right

        one_of : (w : Vect S.field) → (vectors k).◌·◌ (scalars k).one (shift k monomials.one w) ≡ w
        one_of w = (vectors k).one_act _ ∙ shift_product k monomials.one w ∙ ap (λ u. product k u w) (sym (one_vector_single k)) ∙ one_product k w

        last : (t : Key) → LeadBy k o v t → (r ≡ zero_vector k) ⊎ ((n : ℕ) × (h n ≡ r)) → IsSumBelow S h l r
        last t lt (inl z) = subst (IsSumBelow S h l) (sym z) (sum_zero S h (λ x. o.compare x l ≡ Less))
        last t lt (inr n) = subst (IsSumBelow S h l) (one_of (h n.0) ∙ n.1) (sum_one S h (λ x. o.compare x l ≡ Less) (scalars k).one monomials.one n.0
            (λ x lx. subst (λ y. o.compare y l ≡ Less) (sym (times_key_one x)) (not_greater_less S g x t l (remainder_low S g v r t m lt x (subst (λ w. LeadBy k o w x) n.1 lx).there) (s_below (g i) (g j) v s t lt))))

        go : HasLead (scalars k) (is_field k) key_same o v → IsSumBelow S h l v
        go (inl z) = subst (IsSumBelow S h l) (sym z) (sum_zero S h (λ x. o.compare x l ≡ Less))
        go (inr t) =
            let w = m.sum t.0 t.1 in
            subst (IsSumBelow S h l) w.2 (sum_plus S h (λ x. o.compare x l ≡ Less) r w.0 (last t.0 t.1 new) (sum_grows S g h grows (λ x. o.compare x l ≡ Less) w.0 (up_to_below S g t.0 l w.0 (s_below (g i) (g j) v s t.0 t.1) w.1)))
