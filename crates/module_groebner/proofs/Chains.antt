-- Chains of treated pairs: where the lead of a third member divides the common multiple of the leads of two, and its pairs with
-- both are treated, the pair of the two is treated.
use Rattle.std.proofs.Common.{◌≡◌, ◌⊎◌, inl, inr, ℕ, sym, ap, ap₂, ◌∙◌, refl, subst}
use Rattle.std.specs.declared.cmp.Ordering.TheVariants.{Less}
use Rattle.alg_core.specs.RingLaws as rings
use Rattle.alg_core.specs.Fields.{FieldOn, Scalar, scalars, is_field, scalar_same}
use Rattle.alg_core.specs.Monomials.{Mon}
use Rattle.alg_core.specs.Keys.{Key, key_same, times_key, KeyDivides}
use Rattle.alg_core.specs.CommonMultiples.{common_multiple}
use Rattle.alg_core.specs.KeyOrders.{OrderOn, less_irreflexive}
use Rattle.alg_core.specs.Leads.{lead_unique}
use Rattle.alg_core.specs.Spaces.{SpaceOver}
use Rattle.alg_core.specs.SpaceOrder.{key_order}
use Rattle.alg_core.specs.Vectors.{Vect, vectors, coef_at, plus, shift}
use Rattle.alg_core.proofs.KeyMultiples.{key_lcm_left, key_lcm_right}
use Rattle.alg_core.proofs.VectorLaws.{plus_assoc, plus_comm, coef_at_plus}
use Rattle.poly_module.specs.Signs.{minus}
use Rattle.poly_module.specs.Modules.{LeadBy}
use Rattle.poly_module.proofs.EchelonLists.{coef_at_act}
use Rattle.poly_module.proofs.SpaceVectorLaws.{minus_plus, minus_unique}
use Rattle.module_groebner.specs.Remainders.{IsSumBelow}
use Rattle.module_groebner.specs.SVectors.{IsMonicMultiple, IsSVector, IsTreated}
use Rattle.module_groebner.proofs.Sums.{sum_plus, sum_act}
use Rattle.module_groebner.proofs.SVectors.{multiple_coef}
use Rattle.module_groebner.proofs.DegreeCriterion.{below_keys}
use Rattle.module_groebner.proofs.PairCriterion.{forth, back}

module _ {E : Type 0} (S : SpaceOver E) (g : ℕ → Vect S.field) where
  abbrev k : FieldOn E
  k = S.field

  abbrev o : OrderOn Key
  o = key_order S

  -- treated in one order of the two or in the other
  abbrev pub IsLinked : ℕ → ℕ → Type 0
  IsLinked i j = IsTreated S g i j ⊎ IsTreated S g j i

  module _ (x : Key) where
    -- the multiple of one member is one of the other, up to what lies below x
    abbrev Agrees : Mon → ℕ → Mon → ℕ → Type 0
    Agrees m i n j = (c : Scalar S.field) × (w : Vect S.field) × IsSumBelow S g x w × (plus S.field ((vectors S.field).◌·◌ c (shift S.field n (g j))) w ≡ shift S.field m (g i))

    linked_agrees : (m n : Mon) (i j : ℕ) (s t : Key) → LeadBy S.field (key_order S) (g i) s → LeadBy S.field (key_order S) (g j) t → times_key m s ≡ x → times_key n t ≡ x → IsLinked i j → Agrees m i n j
    linked_agrees m n i j s t li lj at_i at_j (inl h) = let r = h s t li lj (ap (λ r. r.0) at_i ∙ sym (ap (λ r. r.0) at_j)) in forth S g x m n i j s t li lj at_i at_j r.0 r.1 r.2
    linked_agrees m n i j s t li lj at_i at_j (inr h) = let r = h t s lj li (ap (λ r. r.0) at_j ∙ sym (ap (λ r. r.0) at_i)) in back S g x n m j i t s lj li at_j at_i r.0 r.1 r.2

    joined : (m n q : Mon) (i j l : ℕ) → Agrees m i q l → Agrees q l n j → Agrees m i n j
    unfolding plus
    joined m n q i j l a b = (
      (scalars k).◌*◌ a.0 b.0,
      plus k ((vectors k).◌·◌ a.0 b.1) a.1,
      sum_plus S g (λ z. o.compare z x ≡ Less) _ a.1 (sum_act S g (λ z. o.compare z x ≡ Less) a.0 b.1 b.2) a.2,
      sym (plus_assoc k _ _ a.1) ∙ ap (λ u. plus k u a.1) (ap (λ u. plus k u ((vectors k).◌·◌ a.0 b.1)) ((vectors k).mul_act a.0 b.0 (shift k n (g j))) ∙ sym ((vectors k).act_add a.0 _ _) ∙ ap ((vectors k).◌·◌ a.0) b.3) ∙ a.3,
    )

    vanishes : (w : Vect S.field) → IsSumBelow S g x w → coef_at S.field w x ≡ (scalars S.field).zero
    vanishes w b = go (scalar_same k (coef_at k w x) (scalars k).zero)
      where
        go : Dec (coef_at k w x ≡ (scalars k).zero) → coef_at k w x ≡ (scalars k).zero
        go (yes e) = e
        go (no n) = absurd (less_irreflexive o x x refl (below_keys S g x w b x n))

  one_factor : (a b c : Scalar S.field) → (scalars S.field).◌*◌ a c ≡ (scalars S.field).one → (scalars S.field).◌*◌ b c ≡ (scalars S.field).one → a ≡ b
  one_factor a b c p q = sym ((scalars k).mul_one a) ∙ ap ((scalars k).◌*◌ a) (sym q ∙ (scalars k).mul_comm b c) ∙ sym ((scalars k).mul_assoc a c b) ∙ ap (λ z. (scalars k).◌*◌ z b) p ∙ rings.one_mul (scalars k) b

  module _ (i j : ℕ) (s t : Key) (li : LeadBy S.field (key_order S) (g i) s) (lj : LeadBy S.field (key_order S) (g j) t) (same : s.0 ≡ t.0) where
    abbrev x : Key
    x = common_multiple s t

    abbrev m : Mon
    m = (key_lcm_left s t).0

    abbrev n : Mon
    n = (key_lcm_right s t same).0

    abbrev a : Scalar S.field
    a = (is_field k).inverse (coef_at k (g i) s)

    abbrev b : Scalar S.field
    b = (is_field k).inverse (coef_at k (g j) t)

    abbrev left : Vect S.field
    left = (vectors k).◌·◌ a (shift k m (g i))

    abbrev right : Vect S.field
    right = (vectors k).◌·◌ b (shift k n (g j))

    is_left : IsMonicMultiple S (g i) s x left
    unfolding coef_at
    is_left = record { factor = a; monomial = m; lead = li; monic = (scalars k).mul_comm _ _ ∙ (is_field k).mul_inverse _ li.there; reaches = (key_lcm_left s t).1; is = refl }

    is_right : IsMonicMultiple S (g j) t x right
    unfolding coef_at
    is_right = record { factor = b; monomial = n; lead = lj; monic = (scalars k).mul_comm _ _ ∙ (is_field k).mul_inverse _ lj.there; reaches = (key_lcm_right s t same).1; is = refl }

    s_vector : IsSVector S (g i) (g j) (minus S.field left right)
    s_vector = record { left = s; right = t; position = same; left_multiple = left; right_multiple = right; is_left = is_left; is_right = is_right; difference = minus_plus k left right }

    module _ (c : Scalar S.field) (w : Vect S.field) (below : IsSumBelow S g (common_multiple s t) w)
        (sum : plus S.field ((vectors S.field).◌·◌ c (shift S.field (key_lcm_right s t same).0 (g j))) w ≡ shift S.field (key_lcm_left s t).0 (g i)) where
      -- the left multiple as one of the other member, and what lies below
      spread : left ≡ plus S.field ((vectors S.field).◌·◌ ((scalars S.field).◌*◌ a c) (shift S.field n (g j))) ((vectors S.field).◌·◌ a w)
      unfolding plus
      spread = ap ((vectors k).◌·◌ a) (sym sum) ∙ (vectors k).act_add a _ w ∙ ap (λ u. plus k u ((vectors k).◌·◌ a w)) (sym ((vectors k).mul_act a c (shift k n (g j))))

      nothing : coef_at S.field ((vectors S.field).◌·◌ a w) x ≡ (scalars S.field).zero
      nothing = coef_at_act k a w x ∙ ap ((scalars k).◌*◌ a) (vanishes x w below) ∙ (scalars k).mul_comm a _ ∙ rings.zero_mul (scalars k) a

      unit : (scalars S.field).◌*◌ ((scalars S.field).◌*◌ a c) (coef_at S.field (shift S.field n (g j)) x) ≡ (scalars S.field).one
      unit = sym (coef_at_act k _ (shift k n (g j)) x) ∙ sym ((scalars k).add_zero _) ∙ ap ((scalars k).◌+◌ _) (sym nothing) ∙ sym (coef_at_plus k _ _ x) ∙ ap (λ u. coef_at k u x) (sym spread) ∙ multiple_coef S (g i) s x left is_left

      other : (scalars S.field).◌*◌ b (coef_at S.field (shift S.field n (g j)) x) ≡ (scalars S.field).one
      other = sym (coef_at_act k b (shift k n (g j)) x) ∙ multiple_coef S (g j) t x right is_right

      rest : plus S.field ((vectors S.field).◌·◌ a w) right ≡ left
      rest = plus_comm k _ _ ∙ ap (λ d. plus k ((vectors k).◌·◌ d (shift k n (g j))) ((vectors k).◌·◌ a w)) (one_factor b ((scalars k).◌*◌ a c) (coef_at k (shift k n (g j)) x) other unit) ∙ sym spread

      agreed : (v : Vect S.field) × IsSVector S (g i) (g j) v × IsSumBelow S g (common_multiple s t) v
      agreed = (minus k left right, s_vector, subst (IsSumBelow S g x) (minus_unique k ((vectors k).◌·◌ a w) left right rest) (sum_act S g (λ z. o.compare z x ≡ Less) a w below))

  pub chained : (i j l : ℕ) (s t u : Key) → LeadBy S.field (key_order S) (g i) s → LeadBy S.field (key_order S) (g j) t → LeadBy S.field (key_order S) (g l) u
      → KeyDivides u (common_multiple s t) → IsLinked i l → IsLinked l j → IsTreated S g i j
  chained i j l s t u ls lt lu divides il lj p q lp lq same =
      let ep : s ≡ p = lead_unique (scalars k) (is_field k) key_same o (g i) s p ls lp in
      let eq : t ≡ q = lead_unique (scalars k) (is_field k) key_same o (g j) t q lt lq in
      let d : KeyDivides u (common_multiple p q) = subst (KeyDivides u) (ap₂ common_multiple ep eq) divides in
      let left = key_lcm_left p q in
      let right = key_lcm_right p q same in
      let r = joined (common_multiple p q) left.0 right.0 d.0 i j l
      (linked_agrees (common_multiple p q) left.0 d.0 i l p u lp lu left.1 d.1 il)
      (linked_agrees (common_multiple p q) d.0 right.0 l j u q lu lq d.1 right.1 lj) in
      agreed i j p q lp lq same r.0 r.1 r.2 r.3
