-- Division: what a step keeps, that there is a remainder, and what a remainder says of the module.
use Rattle.std.proofs.Common.{◌≡◌, ◌⊎◌, inl, inr, ℕ, zero, suc, ◌+◌, ◌<◌, ◌≤◌, List, [], ◌∷◌, sym, ap, ◌∙◌, refl, subst, arith}
use Rattle.std.specs.declared.cmp.Ordering.{Ordering}
use Rattle.std.specs.declared.cmp.Ordering.TheVariants.{Less, Equal, Greater}
use Rattle.alg_core.specs.RingLaws as rings
use Rattle.alg_core.specs.ModuleLaws as modules
use Rattle.alg_core.specs.Fields.{FieldOn, Scalar, scalars, is_field, mul_not_zero}
use Rattle.alg_core.specs.CanonicalLists.{indicator_yes, indicator_no}
use Rattle.alg_core.specs.Monomials.{Mon}
use Rattle.alg_core.specs.Keys.{Key, key_same, times_key, KeyDivides, key_divides_dec}
use Rattle.alg_core.specs.KeyOrders.{OrderOn, Trichotomy, trichotomy, less_transitive, less_irreflexive}
use Rattle.alg_core.specs.Leads.{has_lead, HasLead, lead_unique}
use Rattle.alg_core.specs.Spaces.{SpaceOver}
use Rattle.alg_core.specs.SpaceOrder.{key_order}
use Rattle.alg_core.specs.SpaceGrading.{AllPositive, weight, degree, degree_times_key, rank, rank_less}
use Rattle.alg_core.specs.Vectors.{Vect, vectors, coef_at, plus, zero_vector, shift}
use Rattle.alg_core.proofs.VectorLaws.{plus_assoc, plus_comm, plus_zero, zero_plus, coef_at_zero, coef_at_plus}
use Rattle.poly_module.specs.Signs.{minus}
use Rattle.poly_module.specs.Polynomials.{single_vector}
use Rattle.poly_module.specs.Parts.{Supp, supp_zero, supp_plus, supp_act, supp_single, coef_at_single}
use Rattle.poly_module.specs.Degrees.{IsHomogeneous}
use Rattle.poly_module.specs.Forms.{homogeneous_shift}
use Rattle.poly_module.specs.Modules.{LeadBy, InModule, listed}
use Rattle.poly_module.proofs.EchelonLists.{coef_at_act}
use Rattle.poly_module.proofs.LeadLaws.{coef_shift, lead_act, lead_shift, lead_greatest}
use Rattle.poly_module.proofs.SpaceVectorLaws.{minus_plus, minus_unique, supp_minus}
use Rattle.poly_module.proofs.ModuleElements.{module_zero, module_plus, module_act}
use Rattle.module_groebner.specs.Remainders.{IsSumUpTo, IsRemainder, KeepsDegrees}
use Rattle.module_groebner.proofs.Sums.{sum_zero, sum_plus, sum_one, sum_keys, sum_in_module}

module _ {E : Type 0} (S : SpaceOver E) where
  abbrev k : FieldOn E
  k = S.field

  abbrev o : OrderOn Key
  o = key_order S

  -- at most t
  abbrev pub AtMost : Key → Key → Type 0
  AtMost t s = ¬ ((key_order S).compare t s ≡ Less)

  pub less_dec : (s t : Key) → Dec ((key_order S).compare s t ≡ Less)
  less_dec s t = go (o.compare s t)
    where
      go : (r : Ordering) → Dec (r ≡ Less)
      go Less = yes refl
      go Equal = no (λ e. grind arith)
      go Greater = no (λ e. grind arith)

  pub at_most_dec : (t s : Key) → Dec (AtMost t s)
  at_most_dec t s = go (less_dec t s)
    where
      go : Dec (o.compare t s ≡ Less) → Dec (AtMost t s)
      go (yes p) = no (λ n. n p)
      go (no n) = yes n

  -- what is at most a key that is at most t
  pub at_most_down : (t s x : Key) → AtMost t s → (x ≡ s) ⊎ ((key_order S).compare x s ≡ Less) → AtMost t x
  at_most_down t s x n (inl e) h = n (subst (λ y. o.compare t y ≡ Less) e h)
  at_most_down t s x n (inr l) h = n (less_transitive o t x s h l)

  -- the keys of a vector with the lead t
  pub lead_keys : (v : Vect S.field) (t : Key) → LeadBy S.field (key_order S) v t → Supp S.field (AtMost t) v
  lead_keys v t l s n h = go (lead_greatest k o v t s l n)
    where
      go : (s ≡ t) ⊎ (o.compare s t ≡ Less) → ⊥
      go (inl e) = less_irreflexive o t s (sym e) h
      go (inr q) = less_irreflexive o t t refl (less_transitive o t s t h q)

  -- where the lead terms of a difference cancel its lead is smaller
  pub lead_falls : (v q w : Vect S.field) (t r : Key) → plus S.field w q ≡ v → LeadBy S.field (key_order S) v t → LeadBy S.field (key_order S) q t
      → coef_at S.field q t ≡ coef_at S.field v t → LeadBy S.field (key_order S) w r → (key_order S).compare r t ≡ Less
  unfolding coef_at
  lead_falls v q w t r e lv lq same l = go (trichotomy o r t)
    where
      sums : (s : Key) → (scalars k).◌+◌ (coef_at k w s) (coef_at k q s) ≡ coef_at k v s
      sums s = sym (coef_at_plus k w q s) ∙ ap (λ u. coef_at k u s) e

      go : Trichotomy o r t → o.compare r t ≡ Less
      go (inl (inl h)) = h
      go (inl (inr h)) = absurd (l.there (ap (coef_at k w) h ∙ rings.add_cancel (scalars k) (coef_at k q t) _ _ ((scalars k).add_comm _ _ ∙ sums t ∙ sym same ∙ sym ((scalars k).add_zero _))))
      go (inr h) = absurd (l.there (sym ((scalars k).add_zero _) ∙ ap ((scalars k).◌+◌ (coef_at k w r)) (sym (lq.above r h)) ∙ sums r ∙ lv.above r h))

  module _ (g : ℕ → Vect S.field) where
    abbrev pub Irreducible : Key → Type 0
    Irreducible t = (i : ℕ) (s : Key) → LeadBy S.field (key_order S) (g i) s → ¬ KeyDivides s t

    -- how far a division of v is: rest is still to divide, done is irreducible
    pub record Division (v rest done : Vect S.field) : Type 0 where
      pub taken : Vect S.field
      pub sum : plus S.field (plus S.field rest done) taken ≡ v
      pub leads : (t : Key) → LeadBy S.field (key_order S) v t → IsSumUpTo S g t taken
      pub low : (t : Key) → LeadBy S.field (key_order S) v t → Supp S.field (AtMost t) rest
      pub nothing : v ≡ zero_vector S.field → (rest ≡ zero_vector S.field) × (done ≡ zero_vector S.field)
      pub irreducible : Supp S.field Irreducible done
      pub rest_degrees : KeepsDegrees S v rest
      pub done_degrees : KeepsDegrees S v done

    pub division_start : (v : Vect S.field) → Division v v (zero_vector S.field)
    division_start v = record {
      taken = zero_vector k;
      sum = plus_zero k _ ∙ plus_zero k v;
      leads = λ t l. sum_zero S g (AtMost t);
      low = λ t l. lead_keys v t l;
      nothing = λ z. (z, refl);
      irreducible = supp_zero k Irreducible;
      rest_degrees = record { homogeneous = λ d h. h; bound = λ d h. h };
      done_degrees = record { homogeneous = λ d h. supp_zero k (λ t. degree S t ≡ d); bound = λ d h. supp_zero k (λ t. degree S t ≤ d) };
    }

    -- a multiple of a member is taken away, whose lead is a key of the rest
    pub division_reduce : (v rest done left : Vect S.field) → Division v rest done → (c : Scalar S.field) (m : Mon) (i : ℕ) (s : Key) (d : ℕ) → IsHomogeneous S d (g i)
        → LeadBy S.field (key_order S) (g i) s → ¬ (coef_at S.field rest (times_key m s) ≡ (scalars S.field).zero)
        → plus S.field left ((vectors S.field).◌·◌ c (shift S.field m (g i))) ≡ rest → Division v left done
    unfolding coef_at
    division_reduce v rest done left h c m i s d hom lead key e = record {
      taken = plus k q h.taken;
      sum = sums left done q h.taken ∙ ap (λ u. plus k (plus k u done) h.taken) e ∙ h.sum;
      leads = λ t l. sum_plus S g (AtMost t) q h.taken (sum_one S g (AtMost t) c m i (λ r lr. subst (λ x. AtMost t (times_key m x)) (same r lr) (h.low t l (times_key m s) key))) (h.leads t l);
      low = λ t l. lower (AtMost t) (h.low t l) (λ x nz. at_most_down t (times_key m s) x (h.low t l (times_key m s) key) (lead_greatest k o _ _ x (lead_shift S m (g i) s lead) nz));
      nothing = λ z. absurd (key (ap (λ u. coef_at k u (times_key m s)) (h.nothing z).0 ∙ coef_at_zero k _));
      irreducible = h.irreducible;
      rest_degrees = record {
        homogeneous = λ n hv. let r = h.rest_degrees.homogeneous n hv in lower (λ x. degree S x ≡ n) r (λ x nz. same_degree x nz ∙ r (times_key m s) key);
        bound = λ n hv. let r = h.rest_degrees.bound n hv in lower (λ x. degree S x ≤ n) r (λ x nz. let p = r (times_key m s) key in let p2 = same_degree x nz in omega arith);
      };
      done_degrees = h.done_degrees;
    }
      where
        q : Vect S.field
        q = (vectors S.field).◌·◌ c (shift S.field m (g i))

        sums : (a b x y : Vect S.field) → plus k (plus k a b) (plus k x y) ≡ plus k (plus k (plus k a x) b) y
        sums a b x y = sym (plus_assoc k (plus k a b) x y) ∙ ap (λ u. plus k u y) (plus_assoc k a b x ∙ ap (plus k a) (plus_comm k b x) ∙ sym (plus_assoc k a x b))

        same : (r : Key) → LeadBy k o (g i) r → s ≡ r
        same r lr = lead_unique (scalars k) (is_field k) key_same o (g i) s r lead lr

        same_degree : (x : Key) → ¬ (coef_at k (shift k m (g i)) x ≡ (scalars k).zero) → degree S x ≡ degree S (times_key m s)
        same_degree x nz = homogeneous_shift S m d (g i) hom x nz ∙ ap (λ n. weight S.weights 0 m.0 + n) (sym (hom s lead.there)) ∙ sym (degree_times_key S m s)

        lower : (Q : Key → Type 0) → Supp k Q rest → Supp k Q (shift k m (g i)) → Supp k Q left
        lower Q hr hs = subst (Supp k Q) (sym (minus_unique k left rest q e)) (supp_minus k Q rest q hr (supp_act k Q c _ hs))

    -- an irreducible term goes from the rest to what is done
    pub division_move : (v rest done left p : Vect S.field) → Division v rest done → (t : Key) → Irreducible t → ¬ (coef_at S.field rest t ≡ (scalars S.field).zero)
        → Supp S.field (λ s. s ≡ t) p → plus S.field left p ≡ rest → Division v left (plus S.field done p)
    unfolding coef_at
    division_move v rest done left p h t irr key at e = record {
      taken = h.taken;
      sum = ap (λ u. plus k u h.taken) (ap (plus k left) (plus_comm k done p) ∙ sym (plus_assoc k left p done) ∙ ap (λ u. plus k u done) e) ∙ h.sum;
      leads = h.leads;
      low = λ r l. lower (AtMost r) (h.low r l);
      nothing = λ z. absurd (key (ap (λ u. coef_at k u t) (h.nothing z).0 ∙ coef_at_zero k t));
      irreducible = supp_plus k Irreducible done p h.irreducible (λ s nz. subst Irreducible (sym (at s nz)) irr);
      rest_degrees = record {
        homogeneous = λ n hv. lower (λ x. degree S x ≡ n) (h.rest_degrees.homogeneous n hv);
        bound = λ n hv. lower (λ x. degree S x ≤ n) (h.rest_degrees.bound n hv);
      };
      done_degrees = record {
        homogeneous = λ n hv. supp_plus k (λ x. degree S x ≡ n) done p (h.done_degrees.homogeneous n hv) (only (λ x. degree S x ≡ n) (h.rest_degrees.homogeneous n hv));
        bound = λ n hv. supp_plus k (λ x. degree S x ≤ n) done p (h.done_degrees.bound n hv) (only (λ x. degree S x ≤ n) (h.rest_degrees.bound n hv));
      };
    }
      where
        only : (Q : Key → Type 0) → Supp k Q rest → Supp k Q p
        only Q hr s nz = subst Q (sym (at s nz)) (hr t key)

        lower : (Q : Key → Type 0) → Supp k Q rest → Supp k Q left
        lower Q hr = subst (Supp k Q) (sym (minus_unique k left rest p e)) (supp_minus k Q rest p hr (only Q hr))

    -- where nothing is left to divide what is done is a remainder
    pub division_end : (v done : Vect S.field) → Division v (zero_vector S.field) done → IsRemainder S g v done
    division_end v done h = record {
      irreducible = λ i s t lead nz. h.irreducible t nz i s lead;
      sum = λ t l. (h.taken, h.leads t l, ap (λ u. plus k u h.taken) (sym (zero_plus k done)) ∙ h.sum);
      zero = λ z. (h.nothing z).1;
    }

    -- a remainder and an element of the module
    pub remainder_difference : (v r : Vect S.field) → IsRemainder S g v r → (w : Vect S.field) × InModule S.field g w × (plus S.field r w ≡ v)
    unfolding zero_vector
    remainder_difference v r h = go (has_lead (scalars k) (is_field k) key_same o v)
      where
        go : HasLead (scalars k) (is_field k) key_same o v → (w : Vect S.field) × InModule S.field g w × (plus S.field r w ≡ v)
        go (inl z) = (zero_vector k, module_zero k g, plus_zero k r ∙ h.zero z ∙ sym z)
        go (inr l) = let w = h.sum l.0 l.1 in (w.0, sum_in_module S g (AtMost l.0) w.0 w.1, w.2)

    pub module_difference : (u v w : Vect S.field) → plus S.field u w ≡ v → InModule S.field g v → InModule S.field g w → InModule S.field g u
    unfolding minus
    module_difference u v w e hv hw = subst (InModule k g) (sym (minus_unique k u v w e)) (module_plus k g v _ hv (subst (InModule k g) (sym (modules.minus_is (vectors k) w)) (module_act k g _ w hw)))

    -- the remainder of an element is one, and an element is what has a remainder that is one
    pub remainder_inside : (v r : Vect S.field) → IsRemainder S g v r → InModule S.field g v → InModule S.field g r
    remainder_inside v r h a = let w = remainder_difference v r h in module_difference r v w.0 w.2 a w.1

    pub divided_inside : (v r : Vect S.field) → IsRemainder S g v r → InModule S.field g r → InModule S.field g v
    divided_inside v r h a = let w = remainder_difference v r h in subst (InModule S.field g) w.2 (module_plus S.field g r w.0 a w.1)

    -- the keys of a remainder are at most the lead of what was divided
    pub remainder_low : (v r : Vect S.field) (t : Key) → IsRemainder S g v r → LeadBy S.field (key_order S) v t → Supp S.field (AtMost t) r
    remainder_low v r t h l =
        let w = h.sum t l in
        subst (Supp k (AtMost t)) (sym (minus_unique k r v w.0 w.2)) (supp_minus k (AtMost t) v w.0 (lead_keys v t l)
        (sum_keys S g (AtMost t) (AtMost t) (at_most_dec t) (λ s x n c. at_most_down t s x n c) w.0 w.1))

  -- whether the lead of a member of a list divides a key
  abbrev pub Divided : List (Vect S.field) → Key → Type 0
  Divided vs t = (i : ℕ) × (s : Key) × LeadBy S.field (key_order S) (listed S.field vs i) s × KeyDivides s t

  nothing_leads : (t : Key) → ¬ LeadBy S.field (key_order S) (zero_vector S.field) t
  unfolding coef_at
  nothing_leads t l = l.there (coef_at_zero k t)

  pub divided_dec : (vs : List (Vect S.field)) (t : Key) → Dec (Divided vs t)
  unfolding zero_vector
  divided_dec [] t = no (λ d. nothing_leads d.1 d.2)
  divided_dec (v ∷ vs) t = go (has_lead (scalars k) (is_field k) key_same o v) (divided_dec vs t)
    where
      later : Divided vs t → Divided (v ∷ vs) t
      later d = (suc d.0, d.1, d.2, d.3)

      other : ((s : Key) → LeadBy k o v s → ¬ KeyDivides s t) → ¬ Divided vs t → (i : ℕ) (s : Key) → LeadBy k o (listed k (v ∷ vs) i) s → ¬ KeyDivides s t
      other first rest zero s l d = first s l d
      other first rest (suc i) s l d = rest (i, s, l, d)

      at : (s : Key) → LeadBy k o v s → Dec (KeyDivides s t) → Dec (Divided vs t) → Dec (Divided (v ∷ vs) t)
      at s l (yes d) q = yes (0, s, l, d)
      at s l (no n) (yes d) = yes (later d)
      at s l (no n) (no q) = no (λ d. other (λ r lr e. n (subst (λ x. KeyDivides x t) (lead_unique (scalars k) (is_field k) key_same o v r s lr l) e)) q d.0 d.1 d.2 d.3)

      go : HasLead (scalars k) (is_field k) key_same o v → Dec (Divided vs t) → Dec (Divided (v ∷ vs) t)
      go (inl z) (yes d) = yes (later d)
      go (inl z) (no q) = no (λ d. other (λ r lr e. nothing_leads r (subst (λ u. LeadBy k o u r) z lr)) q d.0 d.1 d.2 d.3)
      go (inr l) q = at l.0 l.1 (key_divides_dec l.0 t) q

  module _ (positive : AllPositive S.weights) (vs : List (Vect S.field)) (homogeneous : (i : ℕ) → (d : ℕ) × IsHomogeneous S d (listed S.field vs i)) where
    abbrev g : ℕ → Vect S.field
    g = listed S.field vs

    abbrev Remainder : Vect S.field → Type 0
    Remainder v = (r : Vect S.field) × IsRemainder S g v r × KeepsDegrees S v r

    -- the multiple of a vector by a scalar and a monomial that has a given lead coefficient
    unfoldable pub fitted : Scalar S.field → Vect S.field → Key → Mon → Vect S.field
    fitted c w s m = (vectors S.field).◌·◌ ((scalars S.field).◌*◌ c ((is_field S.field).inverse (coef_at S.field w s))) (shift S.field m w)

    fitted_coef : (c : Scalar S.field) (w : Vect S.field) (s : Key) (m : Mon) → LeadBy S.field (key_order S) w s → coef_at S.field (fitted c w s m) (times_key m s) ≡ c
    unfolding fitted coef_at
    fitted_coef c w s m l = coef_at_act k _ (shift k m w) (times_key m s) ∙ ap ((scalars k).◌*◌ _) (coef_shift k m w s)
        ∙ (scalars k).mul_assoc c _ _ ∙ ap ((scalars k).◌*◌ c) ((scalars k).mul_comm _ _ ∙ (is_field k).mul_inverse _ l.there) ∙ (scalars k).mul_one c

    inverse_not_zero : (c : Scalar S.field) → ¬ (c ≡ (scalars S.field).zero) → ¬ ((is_field S.field).inverse c ≡ (scalars S.field).zero)
    inverse_not_zero c n z = (is_field k).one_not_zero (sym ((is_field k).mul_inverse c n) ∙ ap ((scalars k).◌*◌ c) z ∙ rings.mul_zero (scalars k) c)

    fitted_lead : (c : Scalar S.field) → ¬ (c ≡ (scalars S.field).zero) → (w : Vect S.field) (s : Key) (m : Mon) → LeadBy S.field (key_order S) w s → LeadBy S.field (key_order S) (fitted c w s m) (times_key m s)
    unfolding fitted coef_at
    fitted_lead c n w s m l = lead_act k o _ (mul_not_zero (scalars k) (is_field k) c _ n (inverse_not_zero _ l.there)) (shift k m w) (times_key m s) (lead_shift S m w s l)

    -- a single key
    pub single_lead : (t : Key) → LeadBy S.field (key_order S) (single_vector S.field t) t
    unfolding coef_at
    single_lead t = record {
      there = λ z. (is_field k).one_not_zero (sym (indicator_yes (scalars k) (key_same t t) refl) ∙ sym (coef_at_single k t t) ∙ z);
      above = λ s h. coef_at_single k t s ∙ indicator_no (scalars k) (key_same t s) (λ e. less_irreflexive o t s e h);
    }

    module _ (v : Vect S.field) (d : ℕ) (hv : IsHomogeneous S d v) where
      abbrev Goal : ℕ → Type 0
      Goal n = (rest done : Vect S.field) → Division g v rest done → ((t : Key) → LeadBy S.field (key_order S) rest t → rank S positive t < n) → Remainder v

      -- a step of the division of a homogeneous vector
      divided_step : (n : ℕ) → Goal n → Goal (suc n)
      unfolding fitted zero_vector coef_at
      divided_step n again rest done h low = go (has_lead (scalars k) (is_field k) key_same o rest)
        where
          lower : (t r : Key) (left more : Vect S.field) → LeadBy k o rest t → Division g v left more → LeadBy k o left r → o.compare r t ≡ Less → rank S positive r < n
          lower t r left more lead next lr less =
              let a = h.rest_degrees.homogeneous d hv t lead.there in
              let b = next.rest_degrees.homogeneous d hv r lr.there in
              let x = low t lead in
              let y = rank_less S positive r t (b ∙ sym a) less in
              omega arith

          reduced : (t : Key) → LeadBy k o rest t → (i : ℕ) (s : Key) → LeadBy k o (g i) s → (m : Mon) → times_key m s ≡ t → Remainder v
          reduced t lead i s ls m e =
              let c = coef_at k rest t in
              let q = fitted c (g i) s m in
              let next = division_reduce g v rest done (minus k rest q) h ((scalars k).◌*◌ c ((is_field k).inverse (coef_at k (g i) s))) m i s (homogeneous i).0 (homogeneous i).1 ls
              (λ z. lead.there (ap (coef_at k rest) (sym e) ∙ z)) (minus_plus k rest q) in
              again (minus k rest q) done next (λ r lr. lower t r _ _ lead next lr (lead_falls rest q (minus k rest q) t r (minus_plus k rest q) lead
              (subst (LeadBy k o q) e (fitted_lead c lead.there (g i) s m ls)) (ap (coef_at k q) (sym e) ∙ fitted_coef c (g i) s m ls) lr))

          moved : (t : Key) → LeadBy k o rest t → Irreducible g t → Remainder v
          moved t lead irr =
              let c = coef_at k rest t in
              let p = (vectors k).◌·◌ c (single_vector k t) in
              let next = division_move g v rest done (minus k rest p) p h t irr lead.there (supp_act k (λ s. s ≡ t) c _ (supp_single k (λ s. s ≡ t) t refl)) (minus_plus k rest p) in
              again (minus k rest p) (plus k done p) next (λ r lr. lower t r _ _ lead next lr (lead_falls rest p (minus k rest p) t r (minus_plus k rest p) lead
              (lead_act k o c lead.there (single_vector k t) t (single_lead t)) (coef_at_act k c (single_vector k t) t ∙ ap ((scalars k).◌*◌ c) (coef_at_single k t t ∙ indicator_yes (scalars k) (key_same t t) refl) ∙ (scalars k).mul_one c) lr))

          either : (t : Key) → LeadBy k o rest t → Dec (Divided vs t) → Remainder v
          either t lead (yes x) = reduced t lead x.0 x.1 x.2 x.3.0 x.3.1
          either t lead (no x) = moved t lead (λ i s l e. x (i, s, l, e))

          go : HasLead (scalars k) (is_field k) key_same o rest → Remainder v
          go (inl z) = let e : Division g v (zero_vector k) done = subst (λ u. Division g v u done) z h in (done, division_end g v done e, h.done_degrees)
          go (inr l) = either l.0 l.1 (divided_dec vs l.0)

      divided : (n : ℕ) → Goal n
      unfolding zero_vector
      divided zero rest done h low = go (has_lead (scalars k) (is_field k) key_same o rest)
        where
          go : HasLead (scalars k) (is_field k) key_same o rest → Remainder v
          go (inl z) = let e : Division g v (zero_vector k) done = subst (λ u. Division g v u done) z h in (done, division_end g v done e, h.done_degrees)
          go (inr l) = absurd (let x = low l.0 l.1 in omega arith)
      divided (suc n) rest done h low = divided_step n (divided n) rest done h low

      -- each homogeneous vector has a remainder
      pub remainder_exists : Remainder v
      unfolding zero_vector
      remainder_exists = go (has_lead (scalars k) (is_field k) key_same o v)
        where
          go : HasLead (scalars k) (is_field k) key_same o v → Remainder v
          go (inl z) = divided 0 v (zero_vector k) (division_start g v) (λ t l. absurd (nothing_leads t (subst (λ u. LeadBy k o u t) z l)))
          go (inr r) = divided (suc (rank S positive r.0)) v (zero_vector k) (division_start g v)
              (λ t l. let e = ap (rank S positive) (lead_unique (scalars k) (is_field k) key_same o v t r.0 l r.1) in omega arith)
