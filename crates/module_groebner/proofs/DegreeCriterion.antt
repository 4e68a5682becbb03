-- Buchberger's criterion, by degree: where the pairs up to a degree are treated, the leads of the elements of that degree are
-- multiples of leads of members.
use Rattle.std.proofs.Common.{◌≡◌, ◌⊎◌, inl, inr, ℕ, zero, suc, ◌<◌, List, [], ◌∷◌, sym, ap, ap₂, ◌∙◌, refl, subst, arith}
use Rattle.std.specs.declared.cmp.Ordering.TheVariants.{Less}
use Rattle.alg_core.specs.ModuleLaws as modules
use Rattle.alg_core.specs.Fields.{FieldOn, Scalar, scalars, is_field, scalar_same}
use Rattle.alg_core.specs.Monomials.{Mon}
use Rattle.alg_core.specs.Keys.{Key, key_same, times_key, KeyDivides}
use Rattle.alg_core.specs.KeyOrders.{OrderOn, Trichotomy, trichotomy, less_transitive, less_irreflexive, less_asymmetric}
use Rattle.alg_core.specs.Leads.{has_lead, HasLead, lead_unique}
use Rattle.alg_core.specs.Spaces.{SpaceOver}
use Rattle.alg_core.specs.SpaceOrder.{key_order}
use Rattle.alg_core.specs.SpaceGrading.{AllPositive, degree, rank, rank_less}
use Rattle.alg_core.specs.Vectors.{Vect, vectors, coef_at, plus, zero_vector, shift}
use Rattle.alg_core.proofs.VectorLaws.{plus_left_comm, plus_swap, zero_plus, coef_at_zero, shift_zero_vector}
use Rattle.poly_module.specs.Parts.{Supp}
use Rattle.poly_module.specs.Degrees.{IsHomogeneous}
use Rattle.poly_module.specs.Modules.{LeadBy, InModule, summands}
use Rattle.poly_module.proofs.LeadLaws.{lead_act, lead_shift, lead_plus}
use Rattle.poly_module.proofs.ModuleElements.{module_summands}
use Rattle.module_groebner.specs.Remainders.{EachLead, IsSum, IsSumBelow, IsSumUpTo}
use Rattle.module_groebner.proofs.Sums.{Summand, sum_zero, sum_plus, sum_act, sum_weaken, sum_one, sum_keys, sum_of_degree}
use Rattle.module_groebner.proofs.Remainders.{AtMost, less_dec}

module _ {E : Type 0} (S : SpaceOver E) (g : ℕ → Vect S.field) where
  abbrev k : FieldOn E
  k = S.field

  abbrev o : OrderOn Key
  o = key_order S

  -- the lead of a member divides the key
  abbrev pub Found : Key → Type 0
  Found t = (i : ℕ) × (s : Key) × LeadBy S.field (key_order S) (g i) s × KeyDivides s t

  -- a sum has a greatest lead, or is 0
  pub greatest_lead : (P : Key → Type 0) (v : Vect S.field) → IsSum S g P v → (v ≡ zero_vector S.field) ⊎ ((y : Key) × P y × IsSum S g (λ z. AtMost S y z × P z) v)
  unfolding zero_vector coef_at
  greatest_lead P v a = finish (go a.multiples a.leads)
    where
      Greatest : List (Summand S) → Type 0
      Greatest l = EachLead S g (λ z. ⊥) l ⊎ ((y : Key) × P y × EachLead S g (λ z. AtMost S y z × P z) l)

      none : (e : Summand S) → g e.2 ≡ zero_vector k → (l : List (Summand S)) → summands k g (e ∷ l) ≡ summands k g l
      none e z l = ap (λ w. plus k ((vectors k).◌·◌ e.0 (shift k e.1 w)) (summands k g l)) z
          ∙ ap (λ w. plus k w (summands k g l)) (ap ((vectors k).◌·◌ e.0) (shift_zero_vector k e.1) ∙ modules.act_zero (vectors k) e.0) ∙ zero_plus k _

      keep : (e : Summand S) (l : List (Summand S)) → ((s : Key) → ¬ LeadBy k o (g e.2) s) → (y : Key) → EachLead S g (λ z. AtMost S y z × P z) l → EachLead S g (λ z. AtMost S y z × P z) (e ∷ l)
      keep e l n y h f s (inl p) lead = absurd (n s (subst (λ x. LeadBy k o (g x.2) s) (sym p) lead))
      keep e l n y h f s (inr i) lead = h f s i lead

      raise : (y x : Key) → AtMost S x y → (l : List (Summand S)) → EachLead S g (λ z. AtMost S y z × P z) l → EachLead S g (λ z. AtMost S x z × P z) l
      raise y x n l h f s i lead = let r = h f s i lead in (up r.0, r.1)
        where
          up : AtMost S y (times_key f.1 s) → AtMost S x (times_key f.1 s)
          up q w = at (trichotomy o (times_key f.1 s) y)
            where
              at : Trichotomy o (times_key f.1 s) y → ⊥
              at (inl (inl a)) = n (less_transitive o x _ y w a)
              at (inl (inr a)) = n (subst (λ u. o.compare x u ≡ Less) a w)
              at (inr a) = q a

      first : (e : Summand S) (l : List (Summand S)) (x : Key) → P x → ((s : Key) → LeadBy k o (g e.2) s → times_key e.1 s ≡ x) → EachLead S g (λ z. AtMost S x z × P z) l → EachLead S g (λ z. AtMost S x z × P z) (e ∷ l)
      first e l x px is h f s (inl p) lead = let q = subst (λ y. times_key y.1 s ≡ x) p (is s (subst (λ y. LeadBy k o (g y.2) s) (sym p) lead)) in
          (λ w. less_irreflexive o x (times_key f.1 s) (sym q) w, subst P (sym q) px)
      first e l x px is h f s (inr i) lead = h f s i lead

      more : (e : Summand S) (l : List (Summand S)) (y : Key) → P y → EachLead S g (λ z. AtMost S y z × P z) l → (s : Key) → LeadBy k o (g e.2) s → P (times_key e.1 s) → Greatest (e ∷ l)
      more e l y py h s lead ps = at (less_dec S y (times_key e.1 s))
        where
          is : (r : Key) → LeadBy k o (g e.2) r → times_key e.1 r ≡ times_key e.1 s
          is r lr = ap (times_key e.1) (lead_unique (scalars k) (is_field k) key_same o (g e.2) r s lr lead)

          at : Dec (o.compare y (times_key e.1 s) ≡ Less) → Greatest (e ∷ l)
          at (yes p) = inr (times_key e.1 s, ps, first e l (times_key e.1 s) ps is (raise y (times_key e.1 s) (λ w. less_asymmetric o y (times_key e.1 s) p w) l h))
          at (no n) = inr (y, py, λ f r i lr. under f r i lr)
            where
              under : EachLead S g (λ z. AtMost S y z × P z) (e ∷ l)
              under f r (inl p) lr = let q = subst (λ x. times_key x.1 r ≡ times_key e.1 s) p (is r (subst (λ x. LeadBy k o (g x.2) r) (sym p) lr)) in
                  (subst (AtMost S y) (sym q) n, subst P (sym q) ps)
              under f r (inr i) lr = h f r i lr

      alone : (e : Summand S) (l : List (Summand S)) → EachLead S g (λ z. ⊥) l → (s : Key) → LeadBy k o (g e.2) s → P (times_key e.1 s) → Greatest (e ∷ l)
      alone e l q s lead ps = inr (times_key e.1 s, ps, first e l (times_key e.1 s) ps (λ r lr. ap (times_key e.1) (lead_unique (scalars k) (is_field k) key_same o (g e.2) r s lr lead)) (λ f r i lr. absurd (q f r i lr)))

      lone : (e : Summand S) (l : List (Summand S)) → ((s : Key) → ¬ LeadBy k o (g e.2) s) → EachLead S g (λ z. ⊥) l → EachLead S g (λ z. ⊥) (e ∷ l)
      lone e l n q f s (inl p) lead = n s (subst (λ x. LeadBy k o (g x.2) s) (sym p) lead)
      lone e l n q f s (inr i) lead = q f s i lead

      go : (l : List (Summand S)) → EachLead S g P l → Greatest l
      go [] h = inl (λ e s i. absurd i)
      go (e ∷ l) h = at (has_lead (scalars k) (is_field k) key_same o (g e.2)) (go l (λ f s i. h f s (inr i)))
        where
          at : HasLead (scalars k) (is_field k) key_same o (g e.2) → Greatest l → Greatest (e ∷ l)
          at (inl z) (inl q) = inl (lone e l (λ s lead. lead.there (ap (λ w. coef_at k w s) z ∙ coef_at_zero k s)) q)
          at (inl z) (inr r) = inr (r.0, r.1, keep e l (λ s lead. lead.there (ap (λ w. coef_at k w s) z ∙ coef_at_zero k s)) r.0 r.2)
          at (inr t) (inl q) = alone e l q t.0 t.1 (h e t.0 (inl refl) t.1)
          at (inr t) (inr r) = more e l r.0 r.1 r.2 t.0 t.1 (h e t.0 (inl refl) t.1)

      finish : Greatest a.multiples → (v ≡ zero_vector k) ⊎ ((y : Key) × P y × IsSum S g (λ z. AtMost S y z × P z) v)
      finish (inl q) = inl (sym a.is ∙ nothing a.multiples q)
        where
          nothing : (l : List (Summand S)) → EachLead S g (λ z. ⊥) l → summands k g l ≡ zero_vector k
          nothing [] h = refl
          nothing (e ∷ l) h = at (has_lead (scalars k) (is_field k) key_same o (g e.2)) (nothing l (λ f s i. h f s (inr i)))
            where
              at : HasLead (scalars k) (is_field k) key_same o (g e.2) → summands k g l ≡ zero_vector k → summands k g (e ∷ l) ≡ zero_vector k
              at (inl z) r = none e z l ∙ r
              at (inr t) r = absurd (h e t.0 (inl refl) t.1)
      finish (inr r) = inr (r.0, r.1, record { multiples = a.multiples; leads = r.2; is = a.is })

  -- where the leads of two members have a common multiple x, their multiples with this lead differ by what lies below it
  abbrev pub Agrees : Key → Type 0
  Agrees x = (m n : Mon) (i j : ℕ) (s t : Key) → LeadBy S.field (key_order S) (g i) s → LeadBy S.field (key_order S) (g j) t → times_key m s ≡ x → times_key n t ≡ x
      → (c : Scalar S.field) × (w : Vect S.field) × IsSumBelow S g x w × (plus S.field ((vectors S.field).◌·◌ c (shift S.field n (g j))) w ≡ shift S.field m (g i))

  -- a sum with no lead above x: at most one multiple with this lead, and what lies below
  pub record TopOf (x : Key) (v : Vect S.field) : Type 0 where
    pub coefficient : Scalar S.field
    pub monomial : Mon
    pub place : ℕ
    pub lead : Key
    pub is_lead : LeadBy S.field (key_order S) (g place) lead
    pub reaches : times_key monomial lead ≡ x
    pub below : Vect S.field
    pub is_below : IsSumBelow S g x below
    pub sum : plus S.field ((vectors S.field).◌·◌ coefficient (shift S.field monomial (g place))) below ≡ v

  normal : (x : Key) → Agrees x → (v : Vect S.field) → IsSumUpTo S g x v → IsSumBelow S g x v ⊎ TopOf x v
  unfolding zero_vector plus
  normal x agrees v a = subst (λ u. IsSumBelow S g x u ⊎ TopOf x u) a.is (go a.multiples a.leads)
    where
      Less_than : Key → Type 0
      Less_than y = o.compare y x ≡ Less

      one : (e : Summand S) → Vect k
      one e = (vectors k).◌·◌ e.0 (shift k e.1 (g e.2))

      nothing : (e : Summand S) → g e.2 ≡ zero_vector k → one e ≡ zero_vector k
      nothing e z = ap (λ w. (vectors k).◌·◌ e.0 (shift k e.1 w)) z ∙ ap ((vectors k).◌·◌ e.0) (shift_zero_vector k e.1) ∙ modules.act_zero (vectors k) e.0

      lower : (e : Summand S) (u : Vect k) → IsSumBelow S g x (one e) → IsSumBelow S g x u ⊎ TopOf x u → IsSumBelow S g x (plus k (one e) u) ⊎ TopOf x (plus k (one e) u)
      lower e u b (inl h) = inl (sum_plus S g (λ y. o.compare y x ≡ Less) (one e) u b h)
      lower e u b (inr h) = inr (record {
        coefficient = h.coefficient;
        monomial = h.monomial;
        place = h.place;
        lead = h.lead;
        is_lead = h.is_lead;
        reaches = h.reaches;
        below = plus k (one e) h.below;
        is_below = sum_plus S g (λ y. o.compare y x ≡ Less) (one e) h.below b h.is_below;
        sum = plus_left_comm k _ (one e) h.below ∙ ap (plus k (one e)) h.sum;
      })

      top : (e : Summand S) (s : Key) → LeadBy k o (g e.2) s → times_key e.1 s ≡ x → (u : Vect k) → IsSumBelow S g x u ⊎ TopOf x u → IsSumBelow S g x (plus k (one e) u) ⊎ TopOf x (plus k (one e) u)
      top e s lead is u (inl h) = inr (record { coefficient = e.0; monomial = e.1; place = e.2; lead = s; is_lead = lead; reaches = is; below = u; is_below = h; sum = refl })
      top e s lead is u (inr h) =
          let q = agrees e.1 h.monomial e.2 h.place s h.lead lead h.is_lead is h.reaches in
          let w = shift k h.monomial (g h.place) in
          inr (record {
            coefficient = (scalars k).◌+◌ ((scalars k).◌*◌ e.0 q.0) h.coefficient;
            monomial = h.monomial;
            place = h.place;
            lead = h.lead;
            is_lead = h.is_lead;
            reaches = h.reaches;
            below = plus k ((vectors k).◌·◌ e.0 q.1) h.below;
            is_below = sum_plus S g (λ y. o.compare y x ≡ Less) _ h.below (sum_act S g (λ y. o.compare y x ≡ Less) e.0 q.1 q.2) h.is_below;
            sum = ap (λ y. plus k y (plus k ((vectors k).◌·◌ e.0 q.1) h.below)) ((vectors k).add_act _ _ w ∙ ap (λ y. plus k y ((vectors k).◌·◌ h.coefficient w)) ((vectors k).mul_act e.0 q.0 w))
                ∙ plus_swap k _ _ _ _ ∙ ap₂ (plus k) (sym ((vectors k).act_add e.0 _ _) ∙ ap ((vectors k).◌·◌ e.0) q.3) h.sum;
          })

      go : (l : List (Summand S)) → EachLead S g (AtMost S x) l → IsSumBelow S g x (summands k g l) ⊎ TopOf x (summands k g l)
      go [] h = inl (sum_zero S g (λ y. o.compare y x ≡ Less))
      go (e ∷ l) h = at (has_lead (scalars k) (is_field k) key_same o (g e.2)) (go l (λ f s i. h f s (inr i)))
        where
          which : (s : Key) → LeadBy k o (g e.2) s → Trichotomy o (times_key e.1 s) x → IsSumBelow S g x (summands k g l) ⊎ TopOf x (summands k g l) → IsSumBelow S g x (summands k g (e ∷ l)) ⊎ TopOf x (summands k g (e ∷ l))
          which s lead (inl (inl b)) r = lower e _ (sum_one S g (λ y. o.compare y x ≡ Less) e.0 e.1 e.2 (λ t lt. subst (λ y. o.compare (times_key e.1 y) x ≡ Less) (lead_unique (scalars k) (is_field k) key_same o (g e.2) s t lead lt) b)) r
          which s lead (inl (inr b)) r = top e s lead b _ r
          which s lead (inr b) r = absurd (h e s (inl refl) lead b)

          at : HasLead (scalars k) (is_field k) key_same o (g e.2) → IsSumBelow S g x (summands k g l) ⊎ TopOf x (summands k g l) → IsSumBelow S g x (summands k g (e ∷ l)) ⊎ TopOf x (summands k g (e ∷ l))
          at (inl z) r = lower e _ (subst (IsSumBelow S g x) (sym (nothing e z)) (sum_zero S g (λ y. o.compare y x ≡ Less))) r
          at (inr t) r = which t.0 t.1 (trichotomy o (times_key e.1 t.0) x) r

  pub below_keys : (x : Key) (w : Vect S.field) → IsSumBelow S g x w → Supp S.field (λ s. (key_order S).compare s x ≡ Less) w
  below_keys x w a = sum_keys S g (λ s. o.compare s x ≡ Less) (λ s. o.compare s x ≡ Less) (λ s. less_dec S s x) down w a
    where
      down : (s t : Key) → o.compare s x ≡ Less → (t ≡ s) ⊎ (o.compare t s ≡ Less) → o.compare t x ≡ Less
      down s t h (inl e) = subst (λ y. o.compare y x ≡ Less) (sym e) h
      down s t h (inr l) = less_transitive o t s x l h

  module _ (positive : AllPositive S.weights) (degrees : ℕ → ℕ) (homogeneous : (i : ℕ) → IsHomogeneous S (degrees i) (g i)) (d : ℕ) (agrees : (x : Key) → degree S x ≡ d → Agrees x) where
    abbrev At : ℕ → Type 0
    At n = (x : Key) (v : Vect S.field) (s : Key) → degree S x ≡ d → rank S positive x < n → IsHomogeneous S d v → IsSumUpTo S g x v → LeadBy S.field (key_order S) v s → Found s

    found_step : (n : ℕ) → At n → At (suc n)
    unfolding zero_vector coef_at plus
    found_step n again x v s p r hv a lead = go (normal x (agrees x p) v a)
      where
        not_zero : v ≡ zero_vector k → ⊥
        not_zero z = lead.there (ap (λ w. coef_at k w s) z ∙ coef_at_zero k s)

        lower : IsSumBelow S g x v → Found s
        lower b = at (greatest_lead (λ y. (o.compare y x ≡ Less) × (degree S y ≡ d)) v (sum_of_degree S g degrees homogeneous (λ y. o.compare y x ≡ Less) d v hv b))
          where
            at : (v ≡ zero_vector k) ⊎ ((y : Key) × ((o.compare y x ≡ Less) × (degree S y ≡ d)) × IsSum S g (λ z. AtMost S y z × ((o.compare z x ≡ Less) × (degree S z ≡ d))) v) → Found s
            at (inl z) = absurd (not_zero z)
            at (inr q) =
                let less = rank_less S positive q.0 x (q.1.1 ∙ sym p) q.1.0 in
                again q.0 v s q.1.1 (omega arith) hv (sum_weaken S g (λ z. AtMost S q.0 z × ((o.compare z x ≡ Less) × (degree S z ≡ d))) (AtMost S q.0) (λ z h. h.0) v q.2) lead

        go : IsSumBelow S g x v ⊎ TopOf x v → Found s
        go (inl b) = lower b
        go (inr h) = at (scalar_same k h.coefficient (scalars k).zero)
          where
            at : Dec (h.coefficient ≡ (scalars k).zero) → Found s
            at (yes z) = lower (subst (IsSumBelow S g x) (sym (zero_plus k h.below) ∙ ap (λ w. plus k w h.below) (sym ((vectors k).zero_act _) ∙ ap (λ c. (vectors k).◌·◌ c (shift k h.monomial (g h.place))) (sym z)) ∙ h.sum) h.is_below)
            at (no n) =
                let top = lead_act k o h.coefficient n (shift k h.monomial (g h.place)) x (subst (LeadBy k o (shift k h.monomial (g h.place))) h.reaches (lead_shift S h.monomial (g h.place) h.lead h.is_lead)) in
                let whole = subst (λ w. LeadBy k o w x) h.sum (lead_plus k o _ h.below x top (below_keys x h.below h.is_below)) in
                (h.place, h.lead, h.is_lead, (h.monomial, h.reaches ∙ lead_unique (scalars k) (is_field k) key_same o v x s whole lead))

    found_below : (n : ℕ) → At n
    found_below zero x v s p r hv a lead = absurd (omega arith)
    found_below (suc n) x v s p r hv a lead = found_step n (found_below n) x v s p r hv a lead

    -- the lead of an element of this degree is a multiple of the lead of a member
    pub criterion_in_degree : (v : Vect S.field) (s : Key) → IsHomogeneous S d v → InModule S.field g v → LeadBy S.field (key_order S) v s → Found s
    unfolding zero_vector coef_at
    criterion_in_degree v s hv inside lead = go (greatest_lead (λ y. Unit {0} × (degree S y ≡ d)) v (sum_of_degree S g degrees homogeneous (λ y. Unit {0}) d v hv sum))
      where
        l : (l : List (Summand S)) × (summands k g l ≡ v)
        l = module_summands k o g v inside

        sum : IsSum S g (λ y. Unit {0}) v
        sum = record { multiples = l.0; leads = λ e t i c. tt; is = l.1 }

        go : (v ≡ zero_vector k) ⊎ ((y : Key) × (Unit {0} × (degree S y ≡ d)) × IsSum S g (λ z. AtMost S y z × (Unit {0} × (degree S z ≡ d))) v) → Found s
        go (inl z) = absurd (lead.there (ap (λ w. coef_at k w s) z ∙ coef_at_zero k s))
        go (inr q) = found_below (suc (rank S positive q.0)) q.0 v s q.1.1 (omega arith) hv (sum_weaken S g (λ z. AtMost S q.0 z × (Unit {0} × (degree S z ≡ d))) (AtMost S q.0) (λ z h. h.0) v q.2) lead
