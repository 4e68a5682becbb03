-- Leads of multiples, of sums and of products of polynomials, by the order of a space.
use Rattle.std.proofs.Common.{◌≡◌, ◌⊎◌, ◌≤◌, ℕ, List, inl, inr, length, arith, sym, ap, ap₂, ◌∙◌, refl, subst}
use Rattle.std.specs.declared.cmp.Ordering.{Ordering}
use Rattle.std.specs.declared.cmp.Ordering.TheVariants.{Less, Equal, Greater}
use Rattle.alg_core.specs.RingLaws as rings
use Rattle.alg_core.specs.ModuleLaws as modules
use Rattle.alg_core.specs.FormalSums.{regular, indicator}
use Rattle.alg_core.specs.CanonicalLists.{indicator_yes, indicator_no}
use Rattle.alg_core.specs.Rings.{Linear}
use Rattle.alg_core.specs.FreeModules.{linear_unique}
use Rattle.alg_core.specs.Fields.{FieldOn, Scalar, scalars, is_field, mul_not_zero}
use Rattle.alg_core.specs.Monomials.{Mon, monomials, Divides, divides_dec}
use Rattle.alg_core.specs.Keys.{Key, key_same, keys, times_key, times_key_product, times_key_cancel}
use Rattle.alg_core.specs.KeyOrders.{OrderOn, Trichotomy, trichotomy, less_asymmetric, less_irreflexive, less_transitive}
use Rattle.alg_core.specs.Spaces.{SpaceOver}
use Rattle.alg_core.specs.SpaceOrder.{key_order, key_compare, key_kept, key_alike}
use Rattle.alg_core.specs.EliminationOrder.{elimination_order}
use Rattle.alg_core.proofs.BlockKeys.{second_block}
use Rattle.alg_core.specs.Vectors.{Vect, vectors, coef_at, plus, shift}
use Rattle.alg_core.proofs.VectorLaws.{coef_at_plus, shift_linear, shift_single}
use Rattle.poly_module.specs.Polynomials.{single_vector, product}
use Rattle.poly_module.specs.Products.{plus_product, product_linear_left, shift_product}
use Rattle.poly_module.specs.Parts.{InVariables, Supp, IsPolynomial, supp_outside, coef_at_single, coef_at_linear, supp_product}
use Rattle.poly_module.specs.Modules.{LeadBy}
use Rattle.poly_module.proofs.Reduced.{difference, coef_difference}
use Rattle.poly_module.proofs.EchelonLists.{coef_at_act}
use Rattle.poly_module.proofs.Elimination.{difference_plus}

module _ {E : Type 0} (k : FieldOn E) where
  abbrev nought : Scalar k
  nought = (scalars k).zero

  same_indicator : {A B : Type 0} (a : Dec A) (b : Dec B) → (A → B) → (B → A) → indicator (scalars k) a ≡ indicator (scalars k) b
  same_indicator (yes x) b f g = indicator_yes (scalars k) (yes x) x ∙ sym (indicator_yes (scalars k) b (f x))
  same_indicator (no n) b f g = indicator_no (scalars k) (no n) n ∙ sym (indicator_no (scalars k) b (λ y. n (g y)))

  -- the coefficients of a multiple by a monomial
  pub coef_shift : (m : Mon) (v : Vect k) (t : Key) → coef_at k (shift k m v) (times_key m t) ≡ coef_at k v t
  unfolding single_vector
  coef_shift m v t = linear_unique (scalars k) key_same (regular (scalars k)) (λ v. coef_at k (shift k m v) (times_key m t)) (λ v. coef_at k v t)
      (modules.linear_after (vectors k) (vectors k) (regular (scalars k)) (shift k m) (λ v. coef_at k v (times_key m t)) (shift_linear k m) (coef_at_linear k (times_key m t))) (coef_at_linear k t)
      (λ s. ap (λ v. coef_at k v (times_key m t)) (shift_single k m s) ∙ coef_at_single k (times_key m s) (times_key m t) ∙ same_indicator _ _ (times_key_cancel m s t) (ap (times_key m)) ∙ sym (coef_at_single k s t)) v

  pub coef_shift_outside : (m : Mon) (v : Vect k) (r : Key) → ¬ Divides m r.1 → coef_at k (shift k m v) r ≡ (scalars k).zero
  unfolding single_vector regular
  coef_shift_outside m v r n = linear_unique (scalars k) key_same (regular (scalars k)) (λ v. coef_at k (shift k m v) r) (λ v. nought)
      (modules.linear_after (vectors k) (vectors k) (regular (scalars k)) (shift k m) (λ v. coef_at k v r) (shift_linear k m) (coef_at_linear k r)) zero_linear
      (λ s. ap (λ v. coef_at k v r) (shift_single k m s) ∙ coef_at_single k (times_key m s) r ∙ indicator_no (scalars k) _ (λ e. n (s.1, ap (λ u. u.1) e))) v
    where
      zero_linear : Linear (vectors k) (regular (scalars k)) (λ v. nought)
      zero_linear = record { add = λ x y. sym ((scalars k).add_zero nought); act = λ d x. sym (rings.mul_zero (scalars k) d) }

  module _ (o : OrderOn Key) where
    -- a multiple by a scalar other than 0
    pub lead_act : (c : Scalar k) → ¬ (c ≡ (scalars k).zero) → (v : Vect k) (t : Key) → LeadBy k o v t → LeadBy k o ((vectors k).◌·◌ c v) t
    unfolding coef_at
    lead_act c n v t l = record {
      there = λ z. mul_not_zero (scalars k) (is_field k) c (coef_at k v t) n l.there (sym (coef_at_act k c v t) ∙ z);
      above = λ s h. coef_at_act k c v s ∙ ap ((scalars k).◌*◌ c) (l.above s h) ∙ rings.mul_zero (scalars k) c;
    }

    -- each key is the lead or smaller
    pub lead_greatest : (v : Vect k) (t s : Key) → LeadBy k o v t → ¬ (coef_at k v s ≡ (scalars k).zero) → (s ≡ t) ⊎ (o.compare s t ≡ Less)
    unfolding coef_at
    lead_greatest v t s l n = go (trichotomy o s t)
      where
        go : Trichotomy o s t → (s ≡ t) ⊎ (o.compare s t ≡ Less)
        go (inl (inl h)) = inr h
        go (inl (inr h)) = inl h
        go (inr h) = absurd (n (l.above s h))

    -- a sum with a vector whose keys are smaller
    pub lead_plus : (u v : Vect k) (t : Key) → LeadBy k o u t → Supp k (λ s. o.compare s t ≡ Less) v → LeadBy k o (plus k u v) t
    unfolding coef_at
    lead_plus u v t l h = record {
      there = λ z. l.there (sym (coef_at_plus k u v t ∙ ap ((scalars k).◌+◌ (coef_at k u t)) (supp_outside k (λ s. o.compare s t ≡ Less) v h t (less_irreflexive o t t refl)) ∙ (scalars k).add_zero _) ∙ z);
      above = λ s g. coef_at_plus k u v s ∙ ap₂ (scalars k).◌+◌ (l.above s g) (supp_outside k (λ r. o.compare r t ≡ Less) v h s (less_asymmetric o t s g)) ∙ (scalars k).add_zero nought;
    }

    -- a sum of two vectors whose lead terms cancel
    pub lead_cancels : (u v : Vect k) (t r : Key) → LeadBy k o u t → LeadBy k o v t → (scalars k).◌+◌ (coef_at k u t) (coef_at k v t) ≡ (scalars k).zero → LeadBy k o (plus k u v) r → o.compare r t ≡ Less
    unfolding coef_at
    lead_cancels u v t r a b z l = go (trichotomy o r t)
      where
        go : Trichotomy o r t → o.compare r t ≡ Less
        go (inl (inl h)) = h
        go (inl (inr h)) = absurd (l.there (ap (coef_at k (plus k u v)) h ∙ coef_at_plus k u v t ∙ z))
        go (inr h) = absurd (l.there (coef_at_plus k u v r ∙ ap₂ (scalars k).◌+◌ (a.above r h) (b.above r h) ∙ (scalars k).add_zero nought))

module _ {E : Type 0} (S : SpaceOver E) where
  abbrev k : FieldOn E
  k = S.field

  abbrev o : OrderOn Key
  o = key_order S

  kept : (m : Mon) (s t : Key) → o.compare s t ≡ Less → o.compare (times_key m s) (times_key m t) ≡ Less
  kept m s t h = key_kept (length S.weights) S.order m s t ∙ h

  -- the lead of a multiple by a monomial
  pub lead_shift : (m : Mon) (v : Vect S.field) (t : Key) → LeadBy S.field (key_order S) v t → LeadBy S.field (key_order S) (shift S.field m v) (times_key m t)
  unfolding coef_at
  lead_shift m v t l = record { there = λ z. l.there (sym (coef_shift k m v t) ∙ z); above = λ r h. go r h (divides_dec m r.1) }
    where
      go : (r : Key) → o.compare (times_key m t) r ≡ Less → Dec (Divides m r.1) → coef_at k (shift k m v) r ≡ (scalars k).zero
      go r h (yes d) =
          let is : times_key m (r.0, d.0) ≡ r = ap (λ a. (r.0, a)) d.1 in
          ap (coef_at k (shift k m v)) (sym is) ∙ coef_shift k m v (r.0, d.0) ∙ l.above (r.0, d.0) (sym (key_kept (length S.weights) S.order m t (r.0, d.0)) ∙ ap (o.compare (times_key m t)) is ∙ h)
      go r h (no n) = coef_shift_outside k m v r n

  less_dec : (s t : Key) → Dec (o.compare s t ≡ Less)
  less_dec s t = go (o.compare s t)
    where
      go : (r : Ordering) → Dec (r ≡ Less)
      go Less = yes refl
      go Equal = no (λ e. grind arith)
      go Greater = no (λ e. grind arith)

  -- multiples by a smaller monomial of a key that is not greater
  multiples_less : (a m : Mon) (s t : Key) → o.compare (0, a) (0, m) ≡ Less → (s ≡ t) ⊎ (o.compare s t ≡ Less) → o.compare (times_key a s) (times_key m t) ≡ Less
  multiples_less a m s t h g = go g
    where
      first : o.compare (times_key a t) (times_key m t) ≡ Less
      first = ap₂ o.compare (ap (λ x. (t.0, x)) (monomials.comm a t.1)) (ap (λ x. (t.0, x)) (monomials.comm m t.1)) ∙ key_kept (length S.weights) S.order t.1 (t.0, a) (t.0, m) ∙ key_alike (length S.weights) S.order t.0 a m ∙ h

      go : (s ≡ t) ⊎ (o.compare s t ≡ Less) → o.compare (times_key a s) (times_key m t) ≡ Less
      go (inl e) = ap (λ x. o.compare (times_key a x) (times_key m t)) e ∙ first
      go (inr q) = less_transitive o _ (times_key a t) _ (kept a s t q) first

  module _ (f g : Vect S.field) (m : Mon) (n : Key) (pf : IsPolynomial S.field f) (lf : LeadBy S.field (key_order S) f (0, m)) (lg : LeadBy S.field (key_order S) g n) where
    abbrev c : Scalar S.field
    c = coef_at k f (0, m)

    first : Vect S.field
    first = (vectors k).◌·◌ c (single_vector k (0, m))

    rest : Vect S.field
    rest = difference k f first

    rest_keys : Supp k (λ t. (t.0 ≡ 0) × (o.compare t (0, m) ≡ Less)) rest
    unfolding rest first
    rest_keys t nz = go (key_same (0, m) t)
      where
        at_lead : (t : Key) → (0, m) ≡ t → coef_at k rest t ≡ (scalars k).zero
        at_lead t e = coef_difference k f first t ∙ ap₂ (scalars k).◌+◌ (ap (coef_at k f) (sym e)) (ap ((scalars k).◌*◌ _) (coef_at_act k c _ t ∙ ap ((scalars k).◌*◌ c) (coef_at_single k (0, m) t ∙ indicator_yes (scalars k) _ e) ∙ (scalars k).mul_one c))
            ∙ ap₂ (scalars k).◌+◌ (sym (rings.one_mul (scalars k) c)) refl ∙ sym (rings.add_mul (scalars k) (scalars k).one ((scalars k).neg (scalars k).one) c)
            ∙ ap (λ d. (scalars k).◌*◌ d c) ((scalars k).add_neg (scalars k).one) ∙ rings.zero_mul (scalars k) c

        elsewhere : ¬ ((0, m) ≡ t) → ¬ (coef_at k f t ≡ (scalars k).zero)
        elsewhere n z = nz (coef_difference k f first t ∙ ap₂ (scalars k).◌+◌ z (ap ((scalars k).◌*◌ _) (coef_at_act k c _ t ∙ ap ((scalars k).◌*◌ c) (coef_at_single k (0, m) t ∙ indicator_no (scalars k) _ n) ∙ rings.mul_zero (scalars k) c) ∙ rings.mul_zero (scalars k) _) ∙ (scalars k).add_zero _)

        smaller : ¬ ((0, m) ≡ t) → (t ≡ (0, m)) ⊎ (o.compare t (0, m) ≡ Less) → o.compare t (0, m) ≡ Less
        smaller n (inl e) = absurd (n (sym e))
        smaller n (inr h) = h

        go : Dec ((0, m) ≡ t) → (t.0 ≡ 0) × (o.compare t (0, m) ≡ Less)
        go (yes e) = absurd (nz (at_lead t e))
        go (no n) = (pf t (elsewhere n), smaller n (lead_greatest k o f (0, m) t lf (elsewhere n)))

    product_parts : product k f g ≡ plus k ((vectors k).◌·◌ c (shift k m g)) (product k rest g)
    unfolding rest first plus
    product_parts = ap (λ w. product k w g) (sym (difference_plus k f first) ∙ (vectors k).add_comm _ _) ∙ plus_product k first rest g
        ∙ ap (λ w. (vectors k).◌+◌ w (product k rest g)) ((product_linear_left k g).act c (single_vector k (0, m)) ∙ ap ((vectors k).◌·◌ c) (sym (shift_product k m g)))

    rest_small : Supp k (λ t. o.compare t (times_key m n) ≡ Less) (product k rest g)
    rest_small = supp_product k (λ t. (t.0 ≡ 0) × (o.compare t (0, m) ≡ Less)) (λ t. (t ≡ n) ⊎ (o.compare t n ≡ Less)) (λ t. o.compare t (times_key m n) ≡ Less) (λ t. less_dec t _)
        both rest g rest_keys (λ t nz. lead_greatest k o g n t lg nz)
      where
        at_zero : (t : Key) → t.0 ≡ 0 → t ≡ (0, t.1)
        at_zero t z = ap (λ i. (i, t.1)) z

        both : (s t : Key) → (s.0 ≡ 0) × (o.compare s (0, m) ≡ Less) → (t ≡ n) ⊎ (o.compare t n ≡ Less) → o.compare (keys.◌·◌ s t) (times_key m n) ≡ Less
        both s t p q = ap (λ x. o.compare x (times_key m n)) (ap (λ x. keys.◌·◌ x t) (at_zero s p.0) ∙ sym (times_key_product s.1 t))
            ∙ multiples_less s.1 m t n (ap (λ x. o.compare x (0, m)) (sym (at_zero s p.0)) ∙ p.1) q

    -- the lead of a polynomial times a vector is the product of the leads
    pub lead_multiple : LeadBy S.field (key_order S) (product S.field f g) (times_key m n)
    unfolding coef_at
    lead_multiple = subst (λ v. LeadBy k o v (times_key m n)) (sym product_parts) (lead_plus k o _ _ _ (lead_act k o c lf.there _ _ (lead_shift m g n lg)) rest_small)

module _ {E : Type 0} (k : FieldOn E) (first : ℕ) (ws : List ℕ) (vs ss : List ℕ) where
  abbrev T : SpaceOver E
  T = record { field = k; order = elimination_order first ws; weights = vs; shifts = ss }

  -- below a lead of the second block stand keys of the second block alone
  pub lead_second : length ws ≡ length vs → (v : Vect k) (t : Key) → InVariables k (length vs) v → LeadBy k (key_order T) v t → first ≤ t.0 → Supp k (λ s. first ≤ s.0) v
  unfolding coef_at
  lead_second many v t inside lead second s nz = go (lead_greatest k (key_order T) v t s lead nz)
    where
      short : (r : Key) → ¬ (coef_at k v r ≡ (scalars k).zero) → length r.1.0 ≤ length ws
      short r n = let h = inside r n in omega arith

      go : (s ≡ t) ⊎ ((key_order T).compare s t ≡ Less) → first ≤ s.0
      go (inl e) = subst (λ r. first ≤ r.0) (sym e) second
      go (inr h) = second_block first ws s t (short s nz) (short t lead.there) second (ap (λ n. key_compare n (elimination_order first ws) s t) many ∙ h)
