-- How a completion ends: below the least degree that is still to treat, the leads of all elements are found; so a remainder of a
-- degree over the cap is an element above the cap of the least degree, and where nothing is left the members are a basis.
use Rattle.std.proofs.Common.{◌≡◌, ◌⊎◌, inl, inr, ℕ, zero, suc, ◌<◌, ◌≤◌, List, [], ◌∷◌, ◌++◌, length, get_or, sym, ap, ap₂, ◌∙◌, refl, subst, arith}
use Rattle.std.specs.Prelude.{Contains}
use Rattle.std.specs.declared.cmp.Ordering.TheVariants.{Less}
use native.Mathlib.Decide.{ℕ_discrete, dec_le}
use Rattle.alg_core.specs.Fields.{FieldOn, scalars, is_field}
use Rattle.alg_core.specs.Monomials.{Mon}
use Rattle.alg_core.specs.Keys.{Key, TermPlace, key, key_same, times_key}
use Rattle.alg_core.specs.CommonMultiples.{common_multiple}
use Rattle.alg_core.specs.KeyLists.{place_degree}
use Rattle.alg_core.specs.KeyOrders.{OrderOn}
use Rattle.alg_core.specs.Leads.{has_lead, HasLead, lead_unique}
use Rattle.alg_core.specs.Lists.{In, in_left, in_right, map_in}
use Rattle.alg_core.specs.Spaces.{SpaceOver, Fits, IsPlace}
use Rattle.alg_core.specs.SpaceOrder.{key_order}
use Rattle.alg_core.specs.SpaceGrading.{AllPositive, degree, degree_times_key}
use Rattle.alg_core.specs.Vectors.{Entry, Vect, vec, vectors, coef_at, zero_vector, shift}
use Rattle.alg_core.proofs.Members.{contains_in, from_map, in_cases}
use Rattle.alg_core.proofs.FittingLists.{lead_first}
use Rattle.alg_core.proofs.KeyLists.{degree_place}
use Rattle.alg_core.proofs.KeyMultiples.{place_lcm}
use Rattle.alg_core.proofs.VectorLaws.{vec_nothing, coef_at_zero, shift_zero_vector}
use Rattle.alg_core.specs.ModuleLaws as modules
use Rattle.poly_module.specs.Parts.{supp_zero}
use Rattle.poly_module.specs.Degrees.{IsHomogeneous, part, graded_part_inside, graded_part_outside, graded_part_graded}
use Rattle.poly_module.specs.Modules.{LeadBy, InModule, listed, summands}
use Rattle.poly_module.specs.Caps.{IsAboveCap}
use Rattle.poly_module.proofs.Reduced.{divides_trans}
use Rattle.poly_module.proofs.ModuleElements.{module_member, module_part, module_summands}
use Rattle.module_groebner.specs.HomogeneousLists.{degree_limit, IsHomogeneousUpTo}
use Rattle.module_groebner.specs.Remainders.{EachLead, IsSum, IsRemainder}
use Rattle.module_groebner.specs.SVectors.{IsTreated}
use Rattle.module_groebner.specs.Progress.{Progress, generator_degree, pair_degree, IsLeast}
use Rattle.module_groebner.specs.Completions.{vects, member_place, IsPair, IsCurrentVector, members, generated, StandsOver}
use Rattle.module_groebner.proofs.Sums.{Summand, sum_zero, sum_plus, sum_one, sum_in_module, sum_of_degree}
use Rattle.module_groebner.proofs.Remainders.{remainder_difference, module_difference}
use Rattle.module_groebner.proofs.SVectors.{s_homogeneous, s_inside}
use Rattle.module_groebner.proofs.DegreeCriterion.{Found}
use Rattle.module_groebner.proofs.PairCriterion.{Treats, found_in_degree}
use Rattle.module_groebner.proofs.Families.{all_in, in_get, vects_at, entries_lead, length_map, listed_front, listed_past, member_inside, inside_by_members, homogeneous_each, homogeneous_family}

module _ {E : Type 0} (S : SpaceOver E) where
  abbrev k : FieldOn E
  k = S.field

  abbrev o : OrderOn Key
  o = key_order S

  -- the part of the degree of the lead has the lead
  pub part_lead : (v : Vect S.field) (s : Key) → LeadBy S.field (key_order S) v s → LeadBy S.field (key_order S) (part S (degree S s) v) s
  unfolding coef_at
  part_lead v s l = record {
    there = λ z. l.there (sym (graded_part_inside k (degree S) (degree S s) v s refl) ∙ z);
    above = λ t h. go t h (ℕ_discrete (degree S t) (degree S s));
  }
    where
      go : (t : Key) → o.compare s t ≡ Less → Dec (degree S t ≡ degree S s) → coef_at k (part S (degree S s) v) t ≡ (scalars k).zero
      go t h (yes e) = graded_part_inside k (degree S) (degree S s) v t e ∙ l.above t h
      go t h (no n) = graded_part_outside k (degree S) (degree S s) v t n

  pub lead_not_zero : (v : Vect S.field) (s : Key) → LeadBy S.field (key_order S) v s → ¬ (v ≡ zero_vector S.field)
  unfolding coef_at
  lead_not_zero v s l z = l.there (ap (λ w. coef_at k w s) z ∙ coef_at_zero k s)

  pub lead_there : (v : Vect S.field) (s : Key) → LeadBy S.field (key_order S) v s → ¬ (coef_at S.field v s ≡ (scalars S.field).zero)
  unfolding coef_at
  lead_there v s l = l.there

  -- of a sum only the multiples count whose leads may be there
  pub sum_fewer : (g h : ℕ → Vect S.field) (P : Key → Type 0) → ((i : ℕ) (m : Mon) → ((j : ℕ) × (h j ≡ g i)) ⊎ ((s : Key) → LeadBy S.field (key_order S) (g i) s → ¬ P (times_key m s)))
      → (v : Vect S.field) → IsSum S g P v → IsSum S h P v
  unfolding zero_vector
  sum_fewer g h P fewer v a = subst (IsSum S h P) a.is (go a.multiples a.leads)
    where
      one : (e : Summand S) → ((s : Key) → LeadBy k o (g e.2) s → P (times_key e.1 s)) → HasLead (scalars k) (is_field k) key_same o (g e.2)
          → ((j : ℕ) × (h j ≡ g e.2)) ⊎ ((s : Key) → LeadBy k o (g e.2) s → ¬ P (times_key e.1 s)) → IsSum S h P ((vectors k).◌·◌ e.0 (shift k e.1 (g e.2)))
      one e lead l (inl q) = subst (λ w. IsSum S h P ((vectors k).◌·◌ e.0 (shift k e.1 w))) q.1 (sum_one S h P e.0 e.1 q.0 (λ s r. lead s (subst (λ w. LeadBy k o w s) q.1 r)))
      one e lead (inl z) (inr n) = subst (IsSum S h P) (sym (ap (λ w. (vectors k).◌·◌ e.0 (shift k e.1 w)) z ∙ ap ((vectors k).◌·◌ e.0) (shift_zero_vector k e.1) ∙ modules.act_zero (vectors k) e.0)) (sum_zero S h P)
      one e lead (inr r) (inr n) = absurd (n r.0 r.1 (lead r.0 r.1))

      go : (l : List (Summand S)) → EachLead S g P l → IsSum S h P (summands k g l)
      go [] leads = sum_zero S h P
      go (e ∷ l) leads = sum_plus S h P _ _ (one e (λ s. leads e s (inl refl)) (has_lead (scalars k) (is_field k) key_same o (g e.2)) (fewer e.2 e.1)) (go l (λ f s i. leads f s (inr i)))

  listed_cases : (vs ws : List (Vect S.field)) (i : ℕ) → (i < length vs) ⊎ (In (listed S.field (vs ++ ws) i) ws ⊎ (listed S.field (vs ++ ws) i ≡ zero_vector S.field))
  listed_cases [] [] i = inr (inr refl)
  listed_cases [] (w ∷ ws) zero = inr (inl (inl refl))
  listed_cases [] (w ∷ ws) (suc i) = inr (next (listed_cases [] ws i))
    where
      next : (i < 0) ⊎ (In (listed S.field ws i) ws ⊎ (listed S.field ws i ≡ zero_vector S.field)) → In (listed S.field ws i) (w ∷ ws) ⊎ (listed S.field ws i ≡ zero_vector S.field)
      next (inl h) = absurd (omega arith)
      next (inr (inl j)) = inl (inr j)
      next (inr (inr z)) = inr z
  listed_cases (v ∷ vs) ws zero = inl (omega arith)
  listed_cases (v ∷ vs) ws (suc i) = next (listed_cases vs ws i)
    where
      next : (i < length vs) ⊎ (In (listed S.field (vs ++ ws) i) ws ⊎ (listed S.field (vs ++ ws) i ≡ zero_vector S.field)) → (suc i < suc (length vs)) ⊎ (In (listed S.field (vs ++ ws) i) ws ⊎ (listed S.field (vs ++ ws) i ≡ zero_vector S.field))
      next (inl h) = inl (omega arith)
      next (inr q) = inr q

  module _ (positive : AllPositive S.weights) (c : Progress E) (stands : StandsOver S c) where
    abbrev vs : List (Vect S.field)
    vs = vects S.field c.members

    abbrev ws : List (Vect S.field)
    ws = vects S.field c.generators

    -- a member has its lead at its first place
    pub member_lead : (i : ℕ) → i < length c.members → LeadBy S.field (key_order S) (members S c i) (key (member_place c i)) × IsPlace S (member_place c i)
    member_lead i h = subst (λ w. LeadBy k o w (key (member_place c i)) × IsPlace S (member_place c i)) (sym (vects_at k c.members i))
        (entries_lead S (get_or c.members i []) (all_in (Fits S) c.members stands.members_fit _ (in_get [] c.members i h))
        (all_in (λ w. ¬ (w ≡ zero_vector k)) vs stands.nonzero _ (map_in (vec k) _ c.members (in_get [] c.members i h))))

    -- the degree of a place is that of its key
    place_is : (p : TermPlace) → degree S (key p) ≡ place_degree c.weights c.shifts p
    place_is p = degree_place S p ∙ ap₂ (λ a b. place_degree a b p) (sym stands.weights) (sym stands.shifts)

    -- that of a pair is that of the common multiple of the leads
    pub pair_degree_is : (p : ℕ × ℕ) → IsPair c p → (s t : Key) → LeadBy S.field (key_order S) (members S c p.0) s → LeadBy S.field (key_order S) (members S c p.1) t → degree S (common_multiple s t) ≡ pair_degree c p
    unfolding pair_degree
    pair_degree_is p h s t ls lt =
        let a = member_lead p.0 (let x = h.within in let y = h.rising in omega arith) in
        let b = member_lead p.1 h.within in
        let es : s ≡ key (member_place c p.0) = lead_unique (scalars k) (is_field k) key_same o (members S c p.0) s (key (member_place c p.0)) ls a.0 in
        let et : t ≡ key (member_place c p.1) = lead_unique (scalars k) (is_field k) key_same o (members S c p.1) t (key (member_place c p.1)) lt b.0 in
        ap (degree S) (ap₂ common_multiple es et ∙ sym (place_lcm (member_place c p.0) (member_place c p.1) (a.1.wide ∙ sym b.1.wide))) ∙ place_is _

    -- all members and generators are homogeneous
    all_homogeneous : (i : ℕ) → (d : ℕ) × IsHomogeneous S d (generated S c i)
    all_homogeneous = homogeneous_each S (vs ++ ws) (λ w i. go w (in_cases w vs ws i))
      where
        go : (w : Vect k) → In w vs ⊎ In w ws → (d : ℕ) × IsHomogeneous S d w
        go w (inl i) = let r = all_in (IsHomogeneousUpTo S c.cap) vs stands.members_homogeneous w i in (r.0, r.2)
        go w (inr i) = let r = all_in (IsHomogeneousUpTo S degree_limit) ws stands.generators_homogeneous w i in (r.0, r.2)

    pub members_upto : (i : ℕ) → IsHomogeneousUpTo S c.cap (members S c i)
    members_upto = homogeneous_family S c.cap vs (all_in (IsHomogeneousUpTo S c.cap) vs stands.members_homogeneous)

    pub member_generated : (i : ℕ) → InModule S.field (generated S c) (members S c i)
    member_generated i = inside_by_members k vs (generated S c) (λ w j. member_inside k (vs ++ ws) w (in_left w vs ws j)) (members S c i) (module_member k (members S c) i)

    pub generated_part : (e : ℕ) (v : Vect S.field) → InModule S.field (generated S c) v → InModule S.field (generated S c) (part S e v)
    generated_part = module_part S (generated S c) (λ i. (all_homogeneous i).0) (λ i. (all_homogeneous i).1)

    within : (i : ℕ) (s : Key) → LeadBy S.field (key_order S) (members S c i) s → i < length c.members
    within i s l = go (dec_le (suc i) (length c.members))
      where
        go : Dec (i < length c.members) → i < length c.members
        go (yes p) = p
        go (no n) = absurd (lead_not_zero (members S c i) s l (listed_past k vs i (let e = length_map (vec k) c.members in omega arith)))

    module _ (m : ℕ) (least : IsLeast c m) where
      -- pairs of smaller degrees are treated
      treats : (e : ℕ) → e < m → Treats S (members S c) e
      unfolding key
      treats e h i j less s t li lj same low = go (stands.treated (i, j) pair)
        where
          hj : j < length c.members
          hj = within j t lj

          hi : i < length c.members
          hi = within i s li

          pair : IsPair c (i, j)
          pair = record {
            rising = less;
            within = hj;
            position = ap (λ q. q.0) (lead_unique (scalars k) (is_field k) key_same o (members S c i) (key (member_place c i)) s (member_lead i hi).0 li) ∙ same
                ∙ ap (λ q. q.0) (lead_unique (scalars k) (is_field k) key_same o (members S c j) t (key (member_place c j)) lj (member_lead j hj).0);
          }

          go : Contains c.pairs (i, j) ⊎ IsTreated S (members S c) i j → IsTreated S (members S c) i j
          go (inl q) = absurd (let a = all_in (λ p. m ≤ pair_degree c p) c.pairs least.pairs (i, j) (contains_in (i, j) c.pairs q) in let b = pair_degree_is (i, j) pair s t li lj in omega arith)
          go (inr q) = q

      -- a generator still to treat has no smaller degree
      late : (es : List (Entry E)) → In es c.generators → (s : Key) → LeadBy S.field (key_order S) (vec S.field es) s → m ≤ degree S s
      late [] i s l = absurd (lead_not_zero (vec k []) s l (vec_nothing k))
      late (e ∷ es) i s l =
          let a = all_in (λ x. m ≤ generator_degree c x) c.generators least.generators (e ∷ es) i in
          let f = all_in (Fits S) c.generators stands.generators_fit (e ∷ es) i in
          let b : s ≡ key e.0 = lead_unique (scalars k) (is_field k) key_same o (vec k (e ∷ es)) s (key e.0) l (lead_first S e es f) in
          let d = place_is e.0 in
          subst (λ t. m ≤ degree S t) (sym b) (omega arith)

      -- elements of smaller degree lie in the module of the members
      pub early : (e : ℕ) → e < m → (v : Vect S.field) → IsHomogeneous S e v → InModule S.field (generated S c) v → InModule S.field (members S c) v
      early e h v hv inside = sum_in_module S (members S c) (λ s. Unit {0} × (degree S s ≡ e)) v
          (sum_fewer (generated S c) (members S c) (λ s. Unit {0} × (degree S s ≡ e)) fewer v
          (sum_of_degree S (generated S c) (λ i. (all_homogeneous i).0) (λ i. (all_homogeneous i).1) (λ s. Unit {0}) e v hv record { multiples = l.0; leads = λ x t i r. tt; is = l.1 }))
        where
          l : (l : List (Summand S)) × (summands k (generated S c) l ≡ v)
          l = module_summands k o (generated S c) v inside

          fewer : (i : ℕ) (n : Mon) → ((j : ℕ) × (members S c j ≡ generated S c i)) ⊎ ((s : Key) → LeadBy k o (generated S c i) s → ¬ (Unit {0} × (degree S (times_key n s) ≡ e)))
          fewer i n = go (listed_cases vs ws i)
            where
              go : (i < length vs) ⊎ (In (generated S c i) ws ⊎ (generated S c i ≡ zero_vector k)) → ((j : ℕ) × (members S c j ≡ generated S c i)) ⊎ ((s : Key) → LeadBy k o (generated S c i) s → ¬ (Unit {0} × (degree S (times_key n s) ≡ e)))
              go (inl p) = inl (i, sym (listed_front k vs ws i p))
              go (inr (inl q)) = inr (λ s ls d.
                  let x = from_map (vec k) (generated S c i) c.generators q in
                  let a = late x.0 x.1 s (subst (λ w. LeadBy k o w s) (sym x.2) ls) in
                  let b = degree_times_key S n s in
                  let f = d.1 in
                  omega arith)
              go (inr (inr z)) = inr (λ s ls d. lead_not_zero (generated S c i) s ls z)

      -- their leads are multiples of leads of members
      pub low_degrees_done : (v : Vect S.field) (s : Key) → InModule S.field (generated S c) v → LeadBy S.field (key_order S) v s → degree S s < m → Found S (members S c) s
      low_degrees_done v s inside lead low = found_in_degree S (members S c) positive (λ i. (members_upto i).0) (λ i. (members_upto i).2) (degree S s) (treats (degree S s) low)
          (part S (degree S s) v) s (graded_part_graded k (degree S) (degree S s) v) (early (degree S s) low _ (graded_part_graded k (degree S) (degree S s) v) (generated_part (degree S s) v inside)) (part_lead v s lead)

      -- so no element above the cap has a smaller degree
      pub least_above : (v : Vect S.field) (t : Key) → IsAboveCap S (InModule S.field (generated S c)) c.cap v t → m ≤ degree S t
      unfolding coef_at
      least_above v t a = go (dec_le m (degree S t))
        where
          go : Dec (m ≤ degree S t) → m ≤ degree S t
          go (yes p) = p
          go (no n) = absurd (let f = low_degrees_done v t a.inside a.lead (omega arith) in let u = members_upto f.0 in
              a.new (members S c f.0) f.1 (member_generated f.0) (λ x nz. let d = u.2 x nz in let b = u.1 in omega arith) f.2 f.3)

      -- and a remainder of this degree, where that is over the cap, is an element above it
      pub above_cap : (v r : Vect S.field) (t : Key) → InModule S.field (generated S c) v → IsRemainder S (members S c) v r → IsHomogeneous S m r → LeadBy S.field (key_order S) r t → c.cap < m
          → IsAboveCap S (InModule S.field (generated S c)) c.cap r t
      unfolding coef_at
      above_cap v r t inside rem hr lead over = record {
        inside = let w = remainder_difference S (members S c) v r rem in module_difference S (generated S c) r v w.0 w.2 inside
            (inside_by_members k vs (generated S c) (λ x i. member_inside k (vs ++ ws) x (in_left x vs ws i)) w.0 w.1);
        lead = lead;
        homogeneous = subst (λ n. IsHomogeneous S n r) (sym at) hr;
        over = subst (λ n. c.cap < n) (sym at) over;
        new = λ w s iw up ls d. let low = up s ls.there in let f = low_degrees_done w s iw ls (omega arith) in rem.irreducible f.0 f.1 t f.2 lead.there (divides_trans S (members S c) f.1 s t f.3 d);
      }
        where
          at : degree S t ≡ m
          at = hr t lead.there

    -- the current vector has the least degree that is still to treat
    pub current_vector : (v : Vect S.field) → IsCurrentVector S c v → (m : ℕ) × IsLeast c m × IsHomogeneous S m v × InModule S.field (generated S c) v
    current_vector v (inl g) = (
      generator_degree c g.0,
      g.1.least,
      subst (IsHomogeneous S (generator_degree c g.0)) g.2 (homogeneous g.0 i),
      subst (InModule k (generated S c)) g.2
          (member_inside k (vs ++ ws) (vec k g.0) (in_right (vec k g.0) vs ws (map_in (vec k) g.0 c.generators i))),
    )
      where
        i : In g.0 c.generators
        i = contains_in g.0 c.generators g.1.there

        homogeneous : (es : List (Entry E)) → In es c.generators → IsHomogeneous S (generator_degree c es) (vec k es)
        homogeneous [] i = subst (IsHomogeneous S 0) (sym (vec_nothing k)) (supp_zero k (λ t. degree S t ≡ 0))
        homogeneous (e ∷ es) i =
            let h = all_in (IsHomogeneousUpTo S degree_limit) ws stands.generators_homogeneous (vec k (e ∷ es)) (map_in (vec k) (e ∷ es) c.generators i) in
            let f = all_in (Fits S) c.generators stands.generators_fit (e ∷ es) i in
            subst (λ n. IsHomogeneous S n (vec k (e ∷ es))) (sym (lead_degree e es f h.0 h.2) ∙ place_is e.0) h.2
          where
            lead_degree : (e : Entry E) (es : List (Entry E)) → Fits S (e ∷ es) → (n : ℕ) → IsHomogeneous S n (vec k (e ∷ es)) → degree S (key e.0) ≡ n
            lead_degree e es f n h = h (key e.0) (lead_there (vec k (e ∷ es)) (key e.0) (lead_first S e es f))
    current_vector v (inr p) = (
      pair_degree c p.0,
      p.1.least,
      subst (λ n. IsHomogeneous S n v) (pair_degree_is p.0 pair p.2.left p.2.right p.2.is_left.lead p.2.is_right.lead)
          (s_homogeneous S (members S c p.0.0) (members S c p.0.1) v p.2 (members_upto p.0.0).0 (members_upto p.0.1).0 (members_upto p.0.0).2 (members_upto p.0.1).2),
      s_inside S (members S c p.0.0) (members S c p.0.1) v p.2 (generated S c) (member_generated p.0.0) (member_generated p.0.1),
    )
      where
        pair : IsPair c p.0
        pair = all_in (IsPair c) c.pairs stands.pairs p.0 (contains_in p.0 c.pairs p.1.there)
