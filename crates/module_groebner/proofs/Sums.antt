-- Sums of multiples of members of a family whose leads satisfy a property: sums, multiples, larger families, keys, degrees.
use Rattle.std.proofs.Common.{◌≡◌, ◌⊎◌, inl, inr, ℕ, ◌+◌, List, [], ◌∷◌, ◌++◌, sym, ap, ap₂, ◌∙◌, refl, subst}
use Rattle.std.specs.declared.cmp.Ordering.TheVariants.{Less}
use native.Mathlib.Decide.{ℕ_discrete}
use Rattle.alg_core.specs.ModuleLaws as modules
use Rattle.alg_core.specs.Fields.{Scalar, scalars, is_field}
use Rattle.alg_core.specs.Monomials.{Mon, monomials}
use Rattle.alg_core.specs.Keys.{Key, key_same, times_key, times_key_mul, times_key_product}
use Rattle.alg_core.specs.KeyOrders.{Trichotomy, trichotomy, less_transitive}
use Rattle.alg_core.specs.Leads.{has_lead, HasLead}
use Rattle.alg_core.specs.Lists.{In}
use Rattle.alg_core.specs.Spaces.{SpaceOver}
use Rattle.alg_core.specs.SpaceOrder.{key_order, key_kept}
use Rattle.alg_core.specs.SpaceGrading.{weight, degree, degree_times_key}
use Rattle.alg_core.specs.Vectors.{Vect, vectors, coef_at, plus, zero_vector, shift}
use Rattle.alg_core.proofs.Members.{in_cases}
use Rattle.alg_core.proofs.VectorLaws.{plus_assoc, plus_zero, zero_plus, shift_linear, shift_plus, shift_zero_vector}
use Rattle.poly_module.specs.Signs.{minus}
use Rattle.poly_module.specs.Polynomials.{single_vector, product}
use Rattle.poly_module.specs.Products.{shift_product, product_assoc, product_single}
use Rattle.poly_module.specs.Parts.{Supp, supp_zero, supp_plus, supp_act}
use Rattle.poly_module.specs.Degrees.{IsHomogeneous, part, graded_part_plus, graded_part_zero, graded_part_all, graded_part_other}
use Rattle.poly_module.specs.Forms.{homogeneous_shift}
use Rattle.poly_module.specs.Modules.{LeadBy, InModule, summands}
use Rattle.poly_module.proofs.ModuleElements.{summands_in_module}
use Rattle.poly_module.proofs.LeadLaws.{lead_shift, lead_greatest}
use Rattle.module_groebner.specs.Remainders.{EachLead, IsSum, IsSumBelow, IsSumUpTo}

module _ {E : Type 0} (S : SpaceOver E) where
  abbrev pub Summand : Type 0
  Summand = Scalar S.field × Mon × ℕ

  module _ (g : ℕ → Vect S.field) where
    summands_append : (l l' : List Summand) → summands S.field g (l ++ l') ≡ plus S.field (summands S.field g l) (summands S.field g l')
    summands_append [] l' = sym (zero_plus S.field _)
    summands_append (e ∷ l) l' = ap (plus S.field _) (summands_append l l') ∙ sym (plus_assoc S.field _ _ _)

    scaled : Scalar S.field → List Summand → List Summand
    scaled c [] = []
    scaled c (e ∷ l) = ((scalars S.field).◌*◌ c e.0, e.1, e.2) ∷ scaled c l

    summands_scaled : (c : Scalar S.field) (l : List Summand) → summands S.field g (scaled c l) ≡ (vectors S.field).◌·◌ c (summands S.field g l)
    unfolding scaled zero_vector plus
    summands_scaled c [] = sym (modules.act_zero (vectors S.field) c)
    summands_scaled c (e ∷ l) = ap₂ (plus S.field) ((vectors S.field).mul_act c e.0 _) (summands_scaled c l) ∙ sym ((vectors S.field).act_add c _ _)

    leads_scaled : (P : Key → Type 0) (c : Scalar S.field) (l : List Summand) → EachLead S g P l → EachLead S g P (scaled c l)
    unfolding scaled
    leads_scaled P c [] h e s i lead = absurd i
    leads_scaled P c (x ∷ l) h e s (inl p) lead = subst (λ y. P (times_key y.1 s)) p (h x s (inl refl) (subst (λ y. LeadBy S.field (key_order S) (g y.2) s) (sym p) lead))
    leads_scaled P c (x ∷ l) h e s (inr i) lead = leads_scaled P c l (λ f r j. h f r (inr j)) e s i lead

    shifted : Mon → List Summand → List Summand
    shifted m [] = []
    shifted m (e ∷ l) = (e.0, monomials.◌·◌ m e.1, e.2) ∷ shifted m l

    pub shift_mul : (m n : Mon) (v : Vect S.field) → shift S.field (monomials.◌·◌ m n) v ≡ shift S.field m (shift S.field n v)
    shift_mul m n v = shift_product S.field (monomials.◌·◌ m n) v ∙ ap (λ w. product S.field w v) (ap (single_vector S.field) (times_key_product m (0, n)) ∙ sym (product_single S.field (0, m) (0, n)))
        ∙ product_assoc S.field _ _ v ∙ ap (product S.field (single_vector S.field (0, m))) (sym (shift_product S.field n v)) ∙ sym (shift_product S.field m _)

    summands_shifted : (m : Mon) (l : List Summand) → summands S.field g (shifted m l) ≡ shift S.field m (summands S.field g l)
    unfolding shifted
    summands_shifted m [] = sym (shift_zero_vector S.field m)
    summands_shifted m (e ∷ l) = ap₂ (plus S.field) (ap ((vectors S.field).◌·◌ e.0) (shift_mul m e.1 (g e.2)) ∙ sym ((shift_linear S.field m).act e.0 _)) (summands_shifted m l) ∙ sym (shift_plus S.field m _ _)

    leads_shifted : (P Q : Key → Type 0) (m : Mon) → ((s : Key) → P s → Q (times_key m s)) → (l : List Summand) → EachLead S g P l → EachLead S g Q (shifted m l)
    unfolding shifted
    leads_shifted P Q m up [] h e s i lead = absurd i
    leads_shifted P Q m up (x ∷ l) h e s (inl p) lead =
        subst (λ y. Q (times_key y.1 s)) p (subst Q (sym (times_key_mul m x.1 s)) (up (times_key x.1 s) (h x s (inl refl) (subst (λ y. LeadBy S.field (key_order S) (g y.2) s) (sym p) lead))))
    leads_shifted P Q m up (x ∷ l) h e s (inr i) lead = leads_shifted P Q m up l (λ f r j. h f r (inr j)) e s i lead

    module _ (P : Key → Type 0) where
      pub sum_zero : IsSum S g P (zero_vector S.field)
      sum_zero = record { multiples = []; leads = λ e s i. absurd i; is = refl }

      pub sum_plus : (u v : Vect S.field) → IsSum S g P u → IsSum S g P v → IsSum S g P (plus S.field u v)
      sum_plus u v a b = record {
        multiples = a.multiples ++ b.multiples;
        leads = λ e s i lead. go e s (in_cases e a.multiples b.multiples i) lead;
        is = summands_append a.multiples b.multiples ∙ ap₂ (plus S.field) a.is b.is;
      }
        where
          go : (e : Summand) (s : Key) → In e a.multiples ⊎ In e b.multiples → LeadBy S.field (key_order S) (g e.2) s → P (times_key e.1 s)
          go e s (inl i) lead = a.leads e s i lead
          go e s (inr i) lead = b.leads e s i lead

      pub sum_act : (c : Scalar S.field) (v : Vect S.field) → IsSum S g P v → IsSum S g P ((vectors S.field).◌·◌ c v)
      sum_act c v a = record {
        multiples = scaled c a.multiples;
        leads = leads_scaled P c a.multiples a.leads;
        is = summands_scaled c a.multiples ∙ ap ((vectors S.field).◌·◌ c) a.is;
      }

      pub sum_minus : (u v : Vect S.field) → IsSum S g P u → IsSum S g P v → IsSum S g P (minus S.field u v)
      unfolding minus
      sum_minus u v a b = sum_plus u _ a (subst (IsSum S g P) (sym (modules.minus_is (vectors S.field) v)) (sum_act _ v b))

      -- one multiple of a member
      pub sum_one : (c : Scalar S.field) (m : Mon) (i : ℕ) → ((s : Key) → LeadBy S.field (key_order S) (g i) s → P (times_key m s))
          → IsSum S g P ((vectors S.field).◌·◌ c (shift S.field m (g i)))
      sum_one c m i h = record { multiples = (c, m, i) ∷ []; leads = go; is = plus_zero S.field _ }
        where
          go : EachLead S g P ((c, m, i) ∷ [])
          go e s (inl p) lead = subst (λ y. P (times_key y.1 s)) p (h s (subst (λ y. LeadBy S.field (key_order S) (g y.2) s) (sym p) lead))
          go e s (inr q) lead = absurd q

      pub sum_in_module : (v : Vect S.field) → IsSum S g P v → InModule S.field g v
      sum_in_module v a = subst (InModule S.field g) a.is (summands_in_module S.field g a.multiples)

      pub sum_weaken : (Q : Key → Type 0) → ((s : Key) → P s → Q s) → (v : Vect S.field) → IsSum S g P v → IsSum S g Q v
      sum_weaken Q up v a = record { multiples = a.multiples; leads = λ e s i lead. up _ (a.leads e s i lead); is = a.is }

      -- a multiple by a monomial
      pub sum_shift : (Q : Key → Type 0) (m : Mon) → ((s : Key) → P s → Q (times_key m s)) → (v : Vect S.field) → IsSum S g P v → IsSum S g Q (shift S.field m v)
      sum_shift Q m up v a = record {
        multiples = shifted m a.multiples;
        leads = leads_shifted P Q m up a.multiples a.leads;
        is = summands_shifted m a.multiples ∙ ap (shift S.field m) a.is;
      }

    pub below_shift : (m : Mon) (t : Key) (v : Vect S.field) → IsSumBelow S g t v → IsSumBelow S g (times_key m t) (shift S.field m v)
    below_shift m t v = sum_shift (λ s. (key_order S).compare s t ≡ Less) (λ s. (key_order S).compare s (times_key m t) ≡ Less) m (λ s h. key_kept _ S.order m s t ∙ h) v

    -- what is not greater than a smaller key is smaller
    pub not_greater_less : (x r t : Key) → ¬ ((key_order S).compare r x ≡ Less) → (key_order S).compare r t ≡ Less → (key_order S).compare x t ≡ Less
    not_greater_less x r t n h = go (trichotomy (key_order S) x r)
      where
        go : Trichotomy (key_order S) x r → (key_order S).compare x t ≡ Less
        go (inl (inl p)) = less_transitive (key_order S) x r t p h
        go (inl (inr p)) = subst (λ y. (key_order S).compare y t ≡ Less) (sym p) h
        go (inr p) = absurd (n p)

    pub up_to_below : (r t : Key) (v : Vect S.field) → (key_order S).compare r t ≡ Less → IsSumUpTo S g r v → IsSumBelow S g t v
    up_to_below r t v h = sum_weaken (λ s. ¬ ((key_order S).compare r s ≡ Less)) (λ s. (key_order S).compare s t ≡ Less) (λ s n. not_greater_less s r t n h) v

  -- a larger family has the same sums: each member has a place in it, or is 0
  abbrev pub Grows : (ℕ → Vect S.field) → (ℕ → Vect S.field) → Type 0
  Grows g h = (i : ℕ) → ((j : ℕ) × (h j ≡ g i)) ⊎ (g i ≡ zero_vector S.field)

  pub sum_grows : (g h : ℕ → Vect S.field) → Grows g h → (P : Key → Type 0) (v : Vect S.field) → IsSum S g P v → IsSum S h P v
  unfolding zero_vector
  sum_grows g h grows P v a = subst (IsSum S h P) a.is (go a.multiples a.leads)
    where
      one : (e : Summand) → ((s : Key) → LeadBy S.field (key_order S) (g e.2) s → P (times_key e.1 s)) → ((j : ℕ) × (h j ≡ g e.2)) ⊎ (g e.2 ≡ zero_vector S.field)
          → IsSum S h P ((vectors S.field).◌·◌ e.0 (shift S.field e.1 (g e.2)))
      one e lead (inl q) = subst (λ w. IsSum S h P ((vectors S.field).◌·◌ e.0 (shift S.field e.1 w))) q.1 (sum_one h P e.0 e.1 q.0 (λ s l. lead s (subst (λ w. LeadBy S.field (key_order S) w s) q.1 l)))
      one e lead (inr z) = subst (IsSum S h P) (sym (ap (λ w. (vectors S.field).◌·◌ e.0 (shift S.field e.1 w)) z ∙ ap ((vectors S.field).◌·◌ e.0) (shift_zero_vector S.field e.1) ∙ modules.act_zero (vectors S.field) e.0)) (sum_zero h P)

      go : (l : List Summand) → EachLead S g P l → IsSum S h P (summands S.field g l)
      go [] leads = sum_zero h P
      go (e ∷ l) leads = sum_plus h P _ _ (one e (λ s. leads e s (inl refl)) (grows e.2)) (go l (λ f s i. leads f s (inr i)))

  module _ (g : ℕ → Vect S.field) (P : Key → Type 0) where
    -- the keys of a sum are bounded as its leads are
    pub sum_keys : (Q : Key → Type 0) → ((t : Key) → Dec (Q t)) → ((s t : Key) → P s → (t ≡ s) ⊎ ((key_order S).compare t s ≡ Less) → Q t)
        → (v : Vect S.field) → IsSum S g P v → Supp S.field Q v
    unfolding zero_vector
    sum_keys Q test down v a = subst (Supp S.field Q) a.is (go a.multiples a.leads)
      where
        one : (e : Summand) → ((s : Key) → LeadBy S.field (key_order S) (g e.2) s → P (times_key e.1 s)) → HasLead (scalars S.field) (is_field S.field) key_same (key_order S) (g e.2)
            → Supp S.field Q ((vectors S.field).◌·◌ e.0 (shift S.field e.1 (g e.2)))
        one e lead (inl z) = subst (Supp S.field Q) (sym (ap (λ w. (vectors S.field).◌·◌ e.0 (shift S.field e.1 w)) z ∙ ap ((vectors S.field).◌·◌ e.0) (shift_zero_vector S.field e.1) ∙ modules.act_zero (vectors S.field) e.0)) (supp_zero S.field Q)
        one e lead (inr r) = supp_act S.field Q e.0 _ (λ t c. down _ t (lead r.0 r.1) (lead_greatest S.field (key_order S) (shift S.field e.1 (g e.2)) (times_key e.1 r.0) t (lead_shift S e.1 (g e.2) r.0 r.1) c))

        go : (l : List Summand) → EachLead S g P l → Supp S.field Q (summands S.field g l)
        go [] leads = supp_zero S.field Q
        go (e ∷ l) leads = supp_plus S.field Q _ _ (one e (λ s. leads e s (inl refl)) (has_lead (scalars S.field) (is_field S.field) key_same (key_order S) (g e.2))) (go l (λ f s i. leads f s (inr i)))

  module _ (g : ℕ → Vect S.field) (d : ℕ → ℕ) (homogeneous : (i : ℕ) → IsHomogeneous S (d i) (g i)) where
    -- the degree of a multiple of a member
    summand_degree : Summand → ℕ
    summand_degree e = weight S.weights 0 e.1.0 + d e.2

    -- the lead of a multiple has its degree
    lead_degree : (e : Summand) (s : Key) → LeadBy S.field (key_order S) (g e.2) s → degree S (times_key e.1 s) ≡ summand_degree e
    unfolding summand_degree coef_at
    lead_degree e s lead = degree_times_key S e.1 s ∙ ap (λ n. weight S.weights 0 e.1.0 + n) (homogeneous e.2 s lead.there)

    summand_homogeneous : (e : Summand) → IsHomogeneous S (summand_degree e) ((vectors S.field).◌·◌ e.0 (shift S.field e.1 (g e.2)))
    unfolding summand_degree
    summand_homogeneous e = supp_act S.field (λ t. degree S t ≡ weight S.weights 0 e.1.0 + d e.2) e.0 _ (homogeneous_shift S e.1 (d e.2) (g e.2) (homogeneous e.2))

    -- the part of a sum of one degree is the sum of the multiples of that degree
    pub sum_part : (P : Key → Type 0) (n : ℕ) (v : Vect S.field) → IsSum S g P v → IsSum S g (λ s. P s × (degree S s ≡ n)) (part S n v)
    sum_part P n v a = subst (λ w. IsSum S g (λ s. P s × (degree S s ≡ n)) (part S n w)) a.is (go a.multiples a.leads)
      where
        one : (e : Summand) → ((s : Key) → LeadBy S.field (key_order S) (g e.2) s → P (times_key e.1 s)) → Dec (summand_degree e ≡ n)
            → IsSum S g (λ s. P s × (degree S s ≡ n)) (part S n ((vectors S.field).◌·◌ e.0 (shift S.field e.1 (g e.2))))
        one e lead (yes p) = subst (IsSum S g (λ s. P s × (degree S s ≡ n))) (sym (graded_part_all S.field (degree S) n _ (subst (λ m. IsHomogeneous S m ((vectors S.field).◌·◌ e.0 (shift S.field e.1 (g e.2)))) p (summand_homogeneous e))))
            (sum_one g (λ s. P s × (degree S s ≡ n)) e.0 e.1 e.2 (λ s l. (lead s l, lead_degree e s l ∙ p)))
        one e lead (no p) = subst (IsSum S g (λ s. P s × (degree S s ≡ n))) (sym (graded_part_other S.field (degree S) n (summand_degree e) (λ q. p (sym q)) _ (summand_homogeneous e))) (sum_zero g (λ s. P s × (degree S s ≡ n)))

        go : (l : List Summand) → EachLead S g P l → IsSum S g (λ s. P s × (degree S s ≡ n)) (part S n (summands S.field g l))
        go [] leads = subst (IsSum S g (λ s. P s × (degree S s ≡ n))) (sym (graded_part_zero S.field (degree S) n)) (sum_zero g (λ s. P s × (degree S s ≡ n)))
        go (e ∷ l) leads = subst (IsSum S g (λ s. P s × (degree S s ≡ n))) (sym (graded_part_plus S.field (degree S) n _ (summands S.field g l)))
            (sum_plus g (λ s. P s × (degree S s ≡ n)) _ _ (one e (λ s. leads e s (inl refl)) (ℕ_discrete (summand_degree e) n)) (go l (λ f s i. leads f s (inr i))))

    -- a homogeneous sum is a sum of multiples of its degree
    pub sum_of_degree : (P : Key → Type 0) (n : ℕ) (v : Vect S.field) → IsHomogeneous S n v → IsSum S g P v → IsSum S g (λ s. P s × (degree S s ≡ n)) v
    sum_of_degree P n v h a = subst (IsSum S g (λ s. P s × (degree S s ≡ n))) (graded_part_all S.field (degree S) n v h) (sum_part P n v a)
