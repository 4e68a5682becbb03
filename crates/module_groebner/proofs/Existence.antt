-- A module of homogeneous vectors has a reduced basis, or an element above the cap: Buchberger's algorithm degree by degree.
use Rattle.std.proofs.Common.{◌≡◌, ◌⊎◌, inl, inr, ℕ, zero, suc, ◌+◌, ◌*◌, ◌<◌, ◌≤◌, List, [], ◌∷◌, ◌++◌, map, length, sym, ap, ap₂, ◌∙◌, refl, subst, arith, append_assoc, append-nil, length-append}
use Rattle.std.specs.declared.cmp.Ordering.TheVariants.{Less}
use native.Mathlib.Decide.{ℕ_discrete, dec_le}
use Rattle.alg_core.specs.Fields.{FieldOn, scalars, is_field}
use Rattle.alg_core.specs.Monomials.{Mon, monomials, mon_ext, exponent, exponent_one}
use Rattle.alg_core.specs.Keys.{Key, key_same, times_key, times_key_one, KeyDivides}
use Rattle.alg_core.specs.CommonMultiples.{common_multiple}
use Rattle.alg_core.specs.KeyOrders.{OrderOn}
use Rattle.alg_core.specs.Leads.{has_lead, HasLead, lead_unique}
use Rattle.alg_core.specs.Lists.{In, in_left, in_right, map_in, pairs, in_pairs, numbers_below, in_numbers_below}
use Rattle.alg_core.specs.Spaces.{SpaceOver}
use Rattle.alg_core.specs.SpaceOrder.{key_order}
use Rattle.alg_core.specs.SpaceGrading.{AllPositive, weight, degree, degree_times_key}
use Rattle.alg_core.specs.Vectors.{Vect, vectors, plus, zero_vector, shift}
use Rattle.alg_core.proofs.Members.{in_cases, from_map, from_pairs}
use Rattle.alg_core.proofs.KeyMultiples.{key_lcm_left, key_lcm_right}
use Rattle.alg_core.proofs.VectorLaws.{zero_plus}
use Rattle.poly_module.specs.Polynomials.{product}
use Rattle.poly_module.specs.Products.{shift_product, one_product, one_vector_single}
use Rattle.poly_module.specs.Degrees.{IsHomogeneous, part, graded_part_graded, graded_part_all}
use Rattle.poly_module.specs.Modules.{LeadBy, InModule, IsGroebnerBasis, listed, summands}
use Rattle.poly_module.specs.ReducedLists.{IsReducedBasisOf}
use Rattle.poly_module.proofs.ModuleElements.{module_zero, module_plus, module_act, module_shift, module_summands}
use Rattle.poly_module.proofs.Reduced.{divides_trans, listed_has}
use Rattle.module_groebner.specs.Remainders.{EachLead, IsSum, IsSumBelow, IsSumUpTo, IsRemainder, KeepsDegrees}
use Rattle.module_groebner.specs.SVectors.{IsSVector, IsTreated}
use Rattle.module_groebner.specs.BasisBounds.{NothingAbove, SomeAbove}
use Rattle.poly_module.specs.Parts.{supp_zero}
use Rattle.module_groebner.proofs.Sums.{Summand, Grows, sum_zero, sum_plus, sum_one, sum_of_degree, sum_grows, sum_in_module, up_to_below}
use Rattle.module_groebner.proofs.Remainders.{AtMost, remainder_exists, remainder_difference, remainder_low}
use Rattle.module_groebner.proofs.SVectors.{s_exists, s_unique, s_left, s_right, s_homogeneous, s_inside, s_below, treated_grows}
use Rattle.module_groebner.proofs.DegreeCriterion.{Found}
use Rattle.module_groebner.proofs.PairCriterion.{found_in_degree}
use Rattle.module_groebner.proofs.Families.{listed_front, listed_past, listed_at, listed_in, member_inside, inside_by_members, grows_append, homogeneous_each}
use Rattle.module_groebner.proofs.ReducedBases.{IsGradedModule, module_graded, set_difference, generated_within}
use Rattle.module_groebner.proofs.CompletionEnds.{part_lead, lead_there, lead_not_zero}
use Rattle.module_groebner.proofs.BasisLaws.{treated_basis}
use Rattle.module_groebner.proofs.ReducedLists.{Row}
use Rattle.module_groebner.proofs.ReducedExistence.{reduced_exists}

module _ {E : Type 0} (S : SpaceOver E) (positive : AllPositive S.weights) where
  abbrev k : FieldOn E
  k = S.field

  abbrev o : OrderOn Key
  o = key_order S

  -- the S-vector of two vectors with leads at one position, else 0
  abbrev SDecided : Vect S.field → Vect S.field → Type 0
  SDecided u w = (v : Vect S.field) × (IsSVector S u w v ⊎ ((v ≡ zero_vector S.field) × ((x : Vect S.field) → ¬ IsSVector S u w x)))

  s_decided : (u w : Vect S.field) → SDecided u w
  unfolding zero_vector
  s_decided u w = go (has_lead (scalars k) (is_field k) key_same o u) (has_lead (scalars k) (is_field k) key_same o w)
    where
      at : (s t : Key) → LeadBy k o u s → LeadBy k o w t → Dec (s.0 ≡ t.0) → SDecided u w
      at s t ls lt (yes p) = let v = s_exists S u w s t ls lt p in (v.0, inl v.1)
      at s t ls lt (no n) = (zero_vector k, inr (refl, λ x q. n (ap (λ r. r.0) (sym (s_left S u w x q s ls)) ∙ q.position ∙ ap (λ r. r.0) (s_right S u w x q t lt))))

      go : HasLead (scalars k) (is_field k) key_same o u → HasLead (scalars k) (is_field k) key_same o w → SDecided u w
      go (inl z) b = (zero_vector k, inr (refl, λ x q. lead_not_zero S u q.left q.is_left.lead z))
      go (inr s) (inl z) = (zero_vector k, inr (refl, λ x q. lead_not_zero S w q.right q.is_right.lead z))
      go (inr s) (inr t) = at s.0 t.0 s.1 t.1 (ℕ_discrete s.0.0 t.0.0)

  s_found : (u w v : Vect S.field) → IsSVector S u w v → (s_decided u w).0 ≡ v
  s_found u w v q = go (s_decided u w)
    where
      go : (d : SDecided u w) → d.0 ≡ v
      go d = at d.1
        where
          at : IsSVector S u w d.0 ⊎ ((d.0 ≡ zero_vector S.field) × ((x : Vect S.field) → ¬ IsSVector S u w x)) → d.0 ≡ v
          at (inl p) = s_unique S u w d.0 v p q
          at (inr n) = absurd (n.1 v q)

  -- a monomial of the weight 0 is 1
  no_exponents : (ws : List ℕ) (i : ℕ) (a : List ℕ) → AllPositive ws → weight ws i a ≡ 0 → (j : ℕ) → exponent a j ≡ 0
  unfolding weight
  no_exponents ws i [] h e j = refl
  no_exponents [] i (x ∷ a) h e zero = nothing (suc i) x (weight [] (suc i) a) (omega arith) e
    where
      nothing : (c x r : ℕ) → 0 < c → c * x + r ≡ 0 → x ≡ 0
      nothing zero x r h e = absurd (omega arith)
      nothing (suc c) x r h e = omega arith
  no_exponents [] i (x ∷ a) h e (suc j) = no_exponents [] (suc i) a tt (omega arith) j
  no_exponents (w ∷ ws) i (x ∷ a) h e zero = nothing w x (weight ws (suc i) a) h.0 e
    where
      nothing : (c x r : ℕ) → 0 < c → c * x + r ≡ 0 → x ≡ 0
      nothing zero x r h e = absurd (omega arith)
      nothing (suc c) x r h e = omega arith
  no_exponents (w ∷ ws) i (x ∷ a) h e (suc j) = no_exponents ws (suc i) a h.1 (omega arith) j

  -- a multiple of the same degree is the same
  pub same_degree : (t l : Key) → KeyDivides t l → degree S l ≤ degree S t → t ≡ l
  same_degree t l d low =
      let e = degree_times_key S d.0 t in
      let f : degree S (times_key d.0 t) ≡ degree S l = ap (degree S) d.1 in
      let one : d.0 ≡ monomials.one = mon_ext d.0 monomials.one (λ j. no_exponents S.weights 0 d.0.0 positive (omega arith) j ∙ sym (exponent_one j)) in
      sym (times_key_one t) ∙ ap (λ m. times_key m t) (sym one) ∙ d.1

  -- a member is a sum of multiples with its lead
  sum_member : (g : ℕ → Vect S.field) (P : Key → Type 0) (i : ℕ) → ((s : Key) → LeadBy S.field (key_order S) (g i) s → P s) → IsSum S g P (g i)
  sum_member g P i h = subst (IsSum S g P) ((vectors k).one_act _ ∙ shift_product k monomials.one (g i) ∙ ap (λ u. product k u (g i)) (sym (one_vector_single k)) ∙ one_product k (g i))
      (sum_one S g P (scalars k).one monomials.one i (λ s l. subst P (sym (times_key_one s)) (h s l)))

  -- a sum lies in the module where the members do whose leads may be there
  module_fewer : (g h : ℕ → Vect S.field) (P : Key → Type 0) → ((i : ℕ) → InModule S.field h (g i) ⊎ ((m : Mon) (s : Key) → LeadBy S.field (key_order S) (g i) s → ¬ P (times_key m s)))
      → (v : Vect S.field) → IsSum S g P v → InModule S.field h v
  unfolding zero_vector
  module_fewer g h P fewer v a = subst (InModule k h) a.is (go a.multiples a.leads)
    where
      one : (e : Summand S) → ((s : Key) → LeadBy k o (g e.2) s → P (times_key e.1 s)) → HasLead (scalars k) (is_field k) key_same o (g e.2)
          → InModule k h (g e.2) ⊎ ((m : Mon) (s : Key) → LeadBy k o (g e.2) s → ¬ P (times_key m s)) → InModule k h ((vectors k).◌·◌ e.0 (shift k e.1 (g e.2)))
      one e lead l (inl q) = module_act k h e.0 _ (module_shift k h e.1 (g e.2) q)
      one e lead (inl z) (inr n) = module_act k h e.0 _ (module_shift k h e.1 (g e.2) (subst (InModule k h) (sym z) (module_zero k h)))
      one e lead (inr r) (inr n) = absurd (n e.1 r.0 r.1 (lead r.0 r.1))

      go : (l : List (Summand S)) → EachLead S g P l → InModule k h (summands k g l)
      go [] leads = module_zero k h
      go (e ∷ l) leads = module_plus k h _ _ (one e (λ s. leads e s (inl refl)) (has_lead (scalars k) (is_field k) key_same o (g e.2)) (fewer e.2)) (go l (λ f s i. leads f s (inr i)))

  -- a vector is settled where it is a sum of multiples of members with no lead above its own
  abbrev Settled : List (Vect S.field) → Vect S.field → Type 0
  Settled G v = (t : Key) → LeadBy S.field (key_order S) v t → IsSumUpTo S (listed S.field G) t v

  settled_grows : (G H : List (Vect S.field)) → Grows S (listed S.field G) (listed S.field H) → (v : Vect S.field) → Settled G v → Settled H v
  settled_grows G H grows v h t l = sum_grows S (listed k G) (listed k H) grows (AtMost S t) v (h t l)

  settled_inside : (G : List (Vect S.field)) (v : Vect S.field) → Settled G v → InModule S.field (listed S.field G) v
  unfolding zero_vector
  settled_inside G v h = go (has_lead (scalars k) (is_field k) key_same o v)
    where
      go : HasLead (scalars k) (is_field k) key_same o v → InModule k (listed k G) v
      go (inl z) = subst (InModule k (listed k G)) (sym z) (module_zero k (listed k G))
      go (inr l) = sum_in_module S (listed k G) (AtMost S l.0) v (h l.0 l.1)

  -- a settled S-vector treats its pair
  settled_treated : (G : List (Vect S.field)) (i j : ℕ) (v : Vect S.field) → IsSVector S (listed S.field G i) (listed S.field G j) v → Settled G v → IsTreated S (listed S.field G) i j
  unfolding zero_vector
  settled_treated G i j v q h s t ls lt same = (v, q, subst (λ l. IsSumBelow S (listed k G) l v) (ap₂ common_multiple (s_left S _ _ v q s ls) (s_right S _ _ v q t lt)) (go (has_lead (scalars k) (is_field k) key_same o v)))
    where
      go : HasLead (scalars k) (is_field k) key_same o v → IsSumBelow S (listed k G) (common_multiple q.left q.right) v
      go (inl z) = subst (IsSumBelow S (listed k G) (common_multiple q.left q.right)) (sym z) (sum_zero S (listed k G) (λ x. o.compare x (common_multiple q.left q.right) ≡ Less))
      go (inr l) = up_to_below S (listed k G) l.0 (common_multiple q.left q.right) v (s_below S _ _ v q l.0 l.1) (h l.0 l.1)

  module _ (gens : List (Vect S.field)) (given : (w : Vect S.field) → In w gens → (d : ℕ) × IsHomogeneous S d w) where
    abbrev U : Vect S.field → Type 0
    U = InModule S.field (listed S.field gens)

    hom : (i : ℕ) → (d : ℕ) × IsHomogeneous S d (listed S.field gens i)
    hom = homogeneous_each S gens given

    graded : IsGradedModule S U
    graded = module_graded S (listed k gens) hom

    module _ (e : ℕ) where
      -- the items of the degree e were divided one after the other, and what was left was appended
      record Round (G items H : List (Vect S.field)) : Type 0 where
        new : List (Vect S.field)
        is : H ≡ G ++ new
        each : (w : Vect S.field) → In w new → U w × IsHomogeneous S e w × ((t : Key) × LeadBy S.field (key_order S) w t)
        apart : (i j : ℕ) → i < j → length G ≤ j → (s t : Key) → LeadBy S.field (key_order S) (listed S.field H i) s → LeadBy S.field (key_order S) (listed S.field H j) t → (¬ KeyDivides s t) × (degree S t ≡ e)
        settled : (v : Vect S.field) → In v items → Settled H v

      round_grows : (G items H : List (Vect S.field)) → Round G items H → Grows S (listed S.field G) (listed S.field H)
      round_grows G items H r = subst (λ L. Grows S (listed k G) (listed k L)) (sym r.is) (grows_append S G r.new)

      appended : (G : List (Vect S.field)) (r : Vect S.field) → Grows S (listed S.field G) (listed S.field (G ++ (r ∷ [])))
      appended G r = grows_append S G (r ∷ [])

      -- the remainder settles what was divided
      settles : (G : List (Vect S.field)) (v r : Vect S.field) → IsRemainder S (listed S.field G) v r → Settled (G ++ (r ∷ [])) v
      settles G v r rem t l =
          let w = rem.sum t l in
          subst (IsSumUpTo S (listed k (G ++ (r ∷ []))) t) w.2 (sum_plus S (listed k (G ++ (r ∷ []))) (AtMost S t) r w.0
          (subst (IsSumUpTo S (listed k (G ++ (r ∷ []))) t) (listed_at k G r []) (sum_member (listed k (G ++ (r ∷ []))) (AtMost S t) (length G)
          (λ s ls. remainder_low S (listed k G) v r t rem l s (lead_there S r s (subst (λ u. LeadBy k o u s) (listed_at k G r []) ls)))))
          (sum_grows S (listed k G) (listed k (G ++ (r ∷ []))) (appended G r) (AtMost S t) w.0 w.1))

      settles_zero : (G : List (Vect S.field)) (v r : Vect S.field) → IsRemainder S (listed S.field G) v r → r ≡ zero_vector S.field → Settled G v
      settles_zero G v r rem z t l = let w = rem.sum t l in subst (IsSumUpTo S (listed k G) t) (sym (zero_plus k w.0) ∙ ap (λ u. plus k u w.0) (sym z) ∙ w.2) w.1

      round : (items G : List (Vect S.field)) → ((v : Vect S.field) → In v items → U v × IsHomogeneous S e v) → ((w : Vect S.field) → In w G → U w × ((d : ℕ) × IsHomogeneous S d w)) → (H : List (Vect S.field)) × Round G items H
      unfolding zero_vector
      round [] G are base = (G, record { new = []; is = sym (append-nil G); each = λ w i. absurd i; apart = λ i j less far s t ls lt. absurd (lead_not_zero S (listed k G j) t lt (listed_past k G j far)); settled = λ v i. absurd i })
      round (v ∷ items) G are base = go (has_lead (scalars k) (is_field k) key_same o rem.0) (round items G (λ w i. are w (inr i)) base) (λ n. round items (G ++ (rem.0 ∷ [])) (λ w i. are w (inr i)) n)
        where
          rem : (r : Vect k) × IsRemainder S (listed k G) v r × KeepsDegrees S v r
          rem = remainder_exists S positive G (homogeneous_each S G (λ w i. (base w i).1)) v e (are v (inl refl)).1

          inside : U rem.0
          inside = let w = remainder_difference S (listed k G) v rem.0 rem.1 in
              set_difference S U graded rem.0 v w.0 w.2 (are v (inl refl)).0 (generated_within S U graded (listed k G) (listed_has k U graded.subspace.zero G (λ x i. (base x i).0)) w.0 w.1)

          homog : IsHomogeneous S e rem.0
          homog = rem.2.homogeneous e (are v (inl refl)).1

          base_more : (w : Vect k) → In w (G ++ (rem.0 ∷ [])) → U w × ((d : ℕ) × IsHomogeneous S d w)
          base_more w i = at (in_cases w G (rem.0 ∷ []) i)
            where
              at : In w G ⊎ In w (rem.0 ∷ []) → U w × ((d : ℕ) × IsHomogeneous S d w)
              at (inl j) = base w j
              at (inr (inl p)) = subst (λ u. U u × ((d : ℕ) × IsHomogeneous S d u)) p (inside, (e, homog))
              at (inr (inr j)) = absurd j

          go : HasLead (scalars k) (is_field k) key_same o rem.0 → ((H : List (Vect k)) × Round G items H)
              → (((w : Vect k) → In w (G ++ (rem.0 ∷ [])) → U w × ((d : ℕ) × IsHomogeneous S d w)) → (H : List (Vect k)) × Round (G ++ (rem.0 ∷ [])) items H) → (H : List (Vect k)) × Round G (v ∷ items) H
          go (inl z) q more = (q.0, record { new = q.1.new; is = q.1.is; each = q.1.each; apart = q.1.apart; settled = settled })
            where
              settled : (w : Vect k) → In w (v ∷ items) → Settled q.0 w
              settled w (inl p) = subst (Settled q.0) p (settled_grows G q.0 (round_grows G items q.0 q.1) v (settles_zero G v rem.0 rem.1 z))
              settled w (inr i) = q.1.settled w i
          go (inr l) q more = (H, record { new = rem.0 ∷ r.new; is = is; each = each; apart = apart; settled = settled })
            where
              both : (H : List (Vect k)) × Round (G ++ (rem.0 ∷ [])) items H
              both = more base_more

              H : List (Vect k)
              H = both.0

              r : Round (G ++ (rem.0 ∷ [])) items both.0
              r = both.1

              is : both.0 ≡ G ++ (rem.0 ∷ both.1.new)
              is = both.1.is ∙ append_assoc G (rem.0 ∷ []) both.1.new

              each : (w : Vect k) → In w (rem.0 ∷ both.1.new) → U w × IsHomogeneous S e w × ((t : Key) × LeadBy k o w t)
              each w (inl p) = subst (λ u. U u × IsHomogeneous S e u × ((t : Key) × LeadBy k o u t)) p (inside, homog, l)
              each w (inr i) = both.1.each w i

              apart : (i j : ℕ) → i < j → length G ≤ j → (s t : Key) → LeadBy k o (listed k both.0 i) s → LeadBy k o (listed k both.0 j) t → (¬ KeyDivides s t) × (degree S t ≡ e)
              apart i j less far s t ls lt = at (dec_le (suc (length G)) j)
                where
                  long : length (G ++ (rem.0 ∷ [])) ≡ length G + 1
                  long = length-append G (rem.0 ∷ [])

                  at : Dec (suc (length G) ≤ j) → (¬ KeyDivides s t) × (degree S t ≡ e)
                  at (yes p) = both.1.apart i j less (let a = long in omega arith) s t ls lt
                  at (no n) =
                      let here : j ≡ length G = omega arith in
                      let ej : listed k both.0 j ≡ rem.0 = ap₂ (λ L m. listed k L m) is here ∙ listed_at k G rem.0 both.1.new in
                      let ei : listed k both.0 i ≡ listed k G i = ap (λ L. listed k L i) is ∙ listed_front k G (rem.0 ∷ both.1.new) i (omega arith) in
                      let there = lead_there S rem.0 t (subst (λ u. LeadBy k o u t) ej lt) in
                      (rem.1.irreducible i s t (subst (λ u. LeadBy k o u s) ei ls) there, homog t there)

              settled : (w : Vect k) → In w (v ∷ items) → Settled both.0 w
              settled w (inl p) = subst (Settled both.0) p (settled_grows (G ++ (rem.0 ∷ [])) both.0 (round_grows (G ++ (rem.0 ∷ [])) items both.0 both.1) v (settles G v rem.0 rem.1))
              settled w (inr i) = both.1.settled w i

    -- the list is complete below the degree e
    record IsComplete (e : ℕ) (G : List (Vect S.field)) : Type 0 where
      inside : (w : Vect S.field) → In w G → U w
      homogeneous : (w : Vect S.field) → In w G → (d : ℕ) × (d < e) × IsHomogeneous S d w
      leads : (w : Vect S.field) → In w G → (t : Key) × LeadBy S.field (key_order S) w t
      generators : (w : Vect S.field) → In w gens → (d : ℕ) → d < e → InModule S.field (listed S.field G) (part S d w)
      treated : (i j : ℕ) → i < j → (s t : Key) → LeadBy S.field (key_order S) (listed S.field G i) s → LeadBy S.field (key_order S) (listed S.field G j) t → s.0 ≡ t.0 → degree S (common_multiple s t) < e
          → IsTreated S (listed S.field G) i j

    -- leads of smaller degrees are found
    complete_found : (e : ℕ) (G : List (Vect S.field)) → IsComplete e G → (v : Vect S.field) (t : Key) → U v → LeadBy S.field (key_order S) v t → degree S t < e → Found S (listed S.field G) t
    complete_found e G c v t uv lead low = found_in_degree S (listed k G) positive (λ i. (family i).0) (λ i. (family i).1) (degree S t)
        (λ i j less p q lp lq same deg. c.treated i j less p q lp lq same (omega arith)) w t (graded_part_graded k (degree S) (degree S t) v) inside (part_lead S v t lead)
      where
        family : (i : ℕ) → (d : ℕ) × IsHomogeneous S d (listed k G i)
        family = homogeneous_each S G (λ x i. let h = c.homogeneous x i in (h.0, h.2))

        w : Vect k
        w = part S (degree S t) v

        l : (l : List (Summand S)) × (summands k (listed k gens) l ≡ w)
        l = module_summands k o (listed k gens) w (graded.part (degree S t) v uv)

        sum : IsSum S (listed k gens) (λ x. Unit {0} × (degree S x ≡ degree S t)) w
        sum = sum_of_degree S (listed k gens) (λ i. (hom i).0) (λ i. (hom i).1) (λ x. Unit {0}) (degree S t) w (graded_part_graded k (degree S) (degree S t) v) record { multiples = l.0; leads = λ x s i r. tt; is = l.1 }

        fewer : (i : ℕ) → InModule k (listed k G) (listed k gens i) ⊎ ((m : Mon) (s : Key) → LeadBy k o (listed k gens i) s → ¬ (Unit {0} × (degree S (times_key m s) ≡ degree S t)))
        fewer i = go (dec_le (suc i) (length gens)) (dec_le (suc (hom i).0) e)
          where
            go : Dec (i < length gens) → Dec ((hom i).0 < e) → InModule k (listed k G) (listed k gens i) ⊎ ((m : Mon) (s : Key) → LeadBy k o (listed k gens i) s → ¬ (Unit {0} × (degree S (times_key m s) ≡ degree S t)))
            go (yes p) (yes q) = inl (subst (InModule k (listed k G)) (graded_part_all k (degree S) (hom i).0 (listed k gens i) (hom i).1) (c.generators (listed k gens i) (listed_in k gens i p) (hom i).0 q))
            go (no p) q = inl (subst (InModule k (listed k G)) (sym (listed_past k gens i (omega arith))) (module_zero k (listed k G)))
            go (yes p) (no q) = inr (λ m s ls d.
                let a : degree S s ≡ (hom i).0 = (hom i).1 s (lead_there S (listed k gens i) s ls) in
                let b = degree_times_key S m s in
                let f = d.1 in
                omega arith)

        inside : InModule k (listed k G) w
        inside = module_fewer (listed k gens) (listed k G) (λ x. Unit {0} × (degree S x ≡ degree S t)) fewer w sum

    -- the items of a degree: the parts of the generators and of the S-vectors
    pair_item : (G : List (Vect S.field)) (e : ℕ) → ℕ → ℕ → Vect S.field
    pair_item G e i j = part S e (s_decided (listed k G i) (listed k G j)).0

    items_of : (e : ℕ) (G : List (Vect S.field)) → List (Vect S.field)
    items_of e G = map (part S e) gens ++ pairs (pair_item G e) (numbers_below (length G)) (numbers_below (length G))

    items_are : (e : ℕ) (G : List (Vect S.field)) → ((w : Vect S.field) → In w G → U w) → (v : Vect S.field) → In v (items_of e G) → U v × IsHomogeneous S e v
    unfolding items_of pair_item
    items_are e G inside v i = go (in_cases v (map (part S e) gens) _ i)
      where
        place : (i : ℕ) → U (listed k G i)
        place = listed_has k U graded.subspace.zero G inside

        s_inside_of : (i j : ℕ) → (d : SDecided (listed k G i) (listed k G j)) → U d.0
        s_inside_of i j d = at d.1
          where
            at : IsSVector S (listed k G i) (listed k G j) d.0 ⊎ ((d.0 ≡ zero_vector k) × ((x : Vect k) → ¬ IsSVector S (listed k G i) (listed k G j) x)) → U d.0
            at (inl s) = s_inside S (listed k G i) (listed k G j) d.0 s (listed k gens) (place i) (place j)
            at (inr z) = subst U (sym z.0) graded.subspace.zero

        go : In v (map (part S e) gens) ⊎ In v (pairs (pair_item G e) (numbers_below (length G)) (numbers_below (length G))) → U v × IsHomogeneous S e v
        go (inl j) = let w = from_map (part S e) v gens j in
            subst (λ u. U u × IsHomogeneous S e u) w.2 (graded.part e w.0 (member_inside k gens w.0 w.1), graded_part_graded k (degree S) e w.0)
        go (inr j) = let p = from_pairs (pair_item G e) v (numbers_below (length G)) (numbers_below (length G)) j in
            subst (λ u. U u × IsHomogeneous S e u) p.4 (graded.part e _ (s_inside_of p.0 p.1 (s_decided (listed k G p.0) (listed k G p.1))), graded_part_graded k (degree S) e _)

    -- one degree more
    complete_more : (e : ℕ) (G : List (Vect S.field)) → IsComplete e G → (H : List (Vect S.field)) × IsComplete (suc e) H
    unfolding items_of pair_item
    complete_more e G c = (r.0, record { inside = inside; homogeneous = homogeneous; leads = leads; generators = generators; treated = treated })
      where
        r : (H : List (Vect k)) × Round e G (items_of e G) H
        r = round e (items_of e G) G (items_are e G c.inside) (λ w i. (c.inside w i, (let h = c.homogeneous w i in (h.0, h.2))))

        H : List (Vect k)
        H = r.0

        grows : Grows S (listed k G) (listed k r.0)
        grows = round_grows e G (items_of e G) r.0 r.1

        cases : (w : Vect k) → In w r.0 → In w G ⊎ In w r.1.new
        cases w i = in_cases w G r.1.new (subst (In w) r.1.is i)

        inside : (w : Vect k) → In w r.0 → U w
        inside w i = at (cases w i)
          where
            at : In w G ⊎ In w r.1.new → U w
            at (inl j) = c.inside w j
            at (inr j) = (r.1.each w j).0

        homogeneous : (w : Vect k) → In w r.0 → (d : ℕ) × (d < suc e) × IsHomogeneous S d w
        homogeneous w i = at (cases w i)
          where
            at : In w G ⊎ In w r.1.new → (d : ℕ) × (d < suc e) × IsHomogeneous S d w
            at (inl j) = let h = c.homogeneous w j in (h.0, (let l = h.1 in omega arith), h.2)
            at (inr j) = (e, omega arith, (r.1.each w j).1)

        leads : (w : Vect k) → In w r.0 → (t : Key) × LeadBy k o w t
        leads w i = at (cases w i)
          where
            at : In w G ⊎ In w r.1.new → (t : Key) × LeadBy k o w t
            at (inl j) = c.leads w j
            at (inr j) = (r.1.each w j).2

        old_new : (v : Vect k) → InModule k (listed k G) v → InModule k (listed k r.0) v
        old_new = inside_by_members k G (listed k r.0) (λ w i. member_inside k r.0 w (subst (In w) (sym r.1.is) (in_left w G r.1.new i)))

        generators : (w : Vect k) → In w gens → (d : ℕ) → d < suc e → InModule k (listed k r.0) (part S d w)
        generators w i d low = at (dec_le (suc d) e)
          where
            at : Dec (d < e) → InModule k (listed k r.0) (part S d w)
            at (yes p) = old_new (part S d w) (c.generators w i d p)
            at (no n) = let same : e ≡ d = omega arith in subst (λ x. InModule k (listed k r.0) (part S x w)) same
                (settled_inside r.0 (part S e w) (r.1.settled (part S e w) (in_left (part S e w) (map (part S e) gens) _ (map_in (part S e) w gens i))))

        treated : (i j : ℕ) → i < j → (s t : Key) → LeadBy k o (listed k r.0 i) s → LeadBy k o (listed k r.0 j) t → s.0 ≡ t.0 → degree S (common_multiple s t) < suc e → IsTreated S (listed k r.0) i j
        treated i j less s t ls lt same low = at (dec_le (suc j) (length G))
          where
            at : Dec (j < length G) → IsTreated S (listed k r.0) i j
            at (yes hj) = which (dec_le (suc (degree S (common_multiple s t))) e)
              where
                ei : listed k r.0 i ≡ listed k G i
                ei = ap (λ L. listed k L i) r.1.is ∙ listed_front k G r.1.new i (omega arith)

                ej : listed k r.0 j ≡ listed k G j
                ej = ap (λ L. listed k L j) r.1.is ∙ listed_front k G r.1.new j hj

                gi : LeadBy k o (listed k G i) s
                gi = subst (λ u. LeadBy k o u s) ei ls

                gj : LeadBy k o (listed k G j) t
                gj = subst (λ u. LeadBy k o u t) ej lt

                family : (i : ℕ) → (d : ℕ) × IsHomogeneous S d (listed k G i)
                family = homogeneous_each S G (λ x i. let h = c.homogeneous x i in (h.0, h.2))

                which : Dec (degree S (common_multiple s t) < e) → IsTreated S (listed k r.0) i j
                which (yes p) = treated_grows S (listed k G) (listed k r.0) grows i j ei ej (c.treated i j less s t gi gj same p)
                which (no n) =
                    let v = s_exists S (listed k G i) (listed k G j) s t gi gj same in
                    let deg : degree S (common_multiple v.1.left v.1.right) ≡ e = ap (degree S) (ap₂ common_multiple (s_left S _ _ v.0 v.1 s gi) (s_right S _ _ v.0 v.1 t gj)) ∙ (omega arith) in
                    let hv : IsHomogeneous S e v.0 = subst (λ n. IsHomogeneous S n v.0) deg (s_homogeneous S (listed k G i) (listed k G j) v.0 v.1 (family i).0 (family j).0 (family i).1 (family j).1) in
                    let is : pair_item G e i j ≡ v.0 = ap (part S e) (s_found (listed k G i) (listed k G j) v.0 v.1) ∙ graded_part_all k (degree S) e v.0 hv in
                    let item = in_right (pair_item G e i j) (map (part S e) gens) _ (in_pairs (pair_item G e) i j (numbers_below (length G)) (numbers_below (length G)) (in_numbers_below i (length G) (omega arith)) (in_numbers_below j (length G) hj)) in
                    settled_treated r.0 i j v.0 (subst (λ u. IsSVector S u (listed k r.0 j) v.0) (sym ei) (subst (λ u. IsSVector S (listed k G i) u v.0) (sym ej) v.1)) (subst (Settled r.0) is (r.1.settled (pair_item G e i j) item))
            at (no far) =
                let a = r.1.apart i j less (omega arith) s t ls lt in
                let d = key_lcm_right s t same in
                let b = a.1 in
                let l : t ≡ common_multiple s t = same_degree t (common_multiple s t) d (omega arith) in
                absurd (a.0 (subst (KeyDivides s) (sym l) (key_lcm_left s t)))

    complete : (e : ℕ) → (G : List (Vect S.field)) × IsComplete e G
    complete zero = (
      [],
      record {
        inside = λ w i. absurd i;
        homogeneous = λ w i. absurd i;
        leads = λ w i. absurd i;
        generators = λ w i d h. absurd (omega arith);
        treated = λ i j less s t ls lt same h. absurd (omega arith);
      },
    )
    complete (suc e) = let r = complete e in complete_more e r.0 r.1

    -- each item has the remainder 0, or one has another
    module _ (G : List (Vect S.field)) (homogeneous : (i : ℕ) → (d : ℕ) × IsHomogeneous S d (listed S.field G i)) where
      record Rest : Type 0 where
        item : Vect S.field
        remainder : Vect S.field
        degree : ℕ
        lead : Key
        inside : U item
        is_remainder : IsRemainder S (listed S.field G) item remainder
        is_homogeneous : IsHomogeneous S degree remainder
        is_lead : LeadBy S.field (key_order S) remainder lead

      all_or_rest : (items : List (Vect S.field)) → ((v : Vect S.field) → In v items → U v × ((d : ℕ) × IsHomogeneous S d v)) → ((v : Vect S.field) → In v items → Settled G v) ⊎ Rest
      unfolding zero_vector
      all_or_rest [] are = inl (λ v i. absurd i)
      all_or_rest (v ∷ items) are = go (has_lead (scalars k) (is_field k) key_same o rem.0) (all_or_rest items (λ w i. are w (inr i)))
        where
          rem : (r : Vect k) × IsRemainder S (listed k G) v r × KeepsDegrees S v r
          rem = let a = are v (inl refl) in remainder_exists S positive G homogeneous v a.1.0 a.1.1

          go : HasLead (scalars k) (is_field k) key_same o rem.0 → ((w : Vect k) → In w items → Settled G w) ⊎ Rest → ((w : Vect k) → In w (v ∷ items) → Settled G w) ⊎ Rest
          go (inr l) q = inr (record {
            item = v;
            remainder = rem.0;
            degree = (are v (inl refl)).1.0;
            lead = l.0;
            inside = (are v (inl refl)).0;
            is_remainder = rem.1;
            is_homogeneous = rem.2.homogeneous (are v (inl refl)).1.0 (are v (inl refl)).1.1;
            is_lead = l.1;
          })
          go (inl z) (inr q) = inr q
          go (inl z) (inl h) = inl each
            where
              each : (w : Vect k) → In w (v ∷ items) → Settled G w
              each w (inl p) = subst (Settled G) p (settles_zero 0 G v rem.0 rem.1 z)
              each w (inr i) = h w i

    -- the members with their leads
    rows_of : (G : List (Vect S.field)) → ((w : Vect S.field) → In w G → (t : Key) × LeadBy S.field (key_order S) w t) → (l : List (Row S)) × ((e : Row S) → In e l → In e.0 G × LeadBy S.field (key_order S) e.0 e.1) × ((w : Vect S.field) → In w G → (e : Row S) × In e l × (e.0 ≡ w))
    rows_of [] h = ([], (λ e i. absurd i), λ w i. absurd i)
    rows_of (v ∷ G) h = go (h v (inl refl)) (rows_of G (λ w i. h w (inr i)))
      where
        go : ((t : Key) × LeadBy k o v t) → ((l : List (Row S)) × ((e : Row S) → In e l → In e.0 G × LeadBy k o e.0 e.1) × ((w : Vect k) → In w G → (e : Row S) × In e l × (e.0 ≡ w)))
            → (l : List (Row S)) × ((e : Row S) → In e l → In e.0 (v ∷ G) × LeadBy k o e.0 e.1) × ((w : Vect k) → In w (v ∷ G) → (e : Row S) × In e l × (e.0 ≡ w))
        go t r = ((v, t.0) ∷ r.0, each, row)
          where
            each : (e : Row S) → In e ((v, t.0) ∷ r.0) → In e.0 (v ∷ G) × LeadBy k o e.0 e.1
            each e (inl p) = (inl (ap (λ f. f.0) p), subst (λ f. LeadBy k o f.0 f.1) p t.1)
            each e (inr i) = let q = r.1 e i in (inr q.0, q.1)

            row : (w : Vect k) → In w (v ∷ G) → (e : Row S) × In e ((v, t.0) ∷ r.0) × (e.0 ≡ w)
            row w (inl p) = ((v, t.0), inl refl, p)
            row w (inr i) = let q = r.2 w i in (q.0, inr q.1, q.2)

    -- the module has a reduced basis and nothing above the cap, or an element above the cap
    pub basis_or_above : (cap : ℕ) → ((vs : List (Vect S.field)) × IsReducedBasisOf S (InModule S.field (listed S.field gens)) vs × NothingAbove S (InModule S.field (listed S.field gens)) cap)
        ⊎ SomeAbove S (InModule S.field (listed S.field gens)) cap
    basis_or_above cap = result (all_or_rest G family items are)
      where
        done : (G : List (Vect k)) × IsComplete (suc cap) G
        done = complete (suc cap)

        G : List (Vect k)
        G = done.0

        family : (i : ℕ) → (d : ℕ) × IsHomogeneous S d (listed k done.0 i)
        family = homogeneous_each S done.0 (λ x i. let h = done.1.homogeneous x i in (h.0, h.2))

        item : ℕ → ℕ → Vect k
        item i j = (s_decided (listed k done.0 i) (listed k done.0 j)).0

        items : List (Vect k)
        items = gens ++ pairs item (numbers_below (length done.0)) (numbers_below (length done.0))

        place : (i : ℕ) → U (listed k done.0 i)
        place = listed_has k U graded.subspace.zero done.0 done.1.inside

        item_is : (i j : ℕ) → (d : SDecided (listed k done.0 i) (listed k done.0 j)) → U d.0 × ((n : ℕ) × IsHomogeneous S n d.0)
        item_is i j d = at d.1
          where
            at : IsSVector S (listed k done.0 i) (listed k done.0 j) d.0 ⊎ ((d.0 ≡ zero_vector k) × ((x : Vect k) → ¬ IsSVector S (listed k done.0 i) (listed k done.0 j) x)) → U d.0 × ((n : ℕ) × IsHomogeneous S n d.0)
            at (inl s) = (s_inside S (listed k done.0 i) (listed k done.0 j) d.0 s (listed k gens) (place i) (place j), (degree S (common_multiple s.left s.right), s_homogeneous S (listed k done.0 i) (listed k done.0 j) d.0 s (family i).0 (family j).0 (family i).1 (family j).1))
            at (inr z) = (subst U (sym z.0) graded.subspace.zero, (0, subst (IsHomogeneous S 0) (sym z.0) (supp_zero k (λ t. degree S t ≡ 0))))

        are : (v : Vect k) → In v (gens ++ pairs item (numbers_below (length done.0)) (numbers_below (length done.0))) → U v × ((d : ℕ) × IsHomogeneous S d v)
        are v i = go (in_cases v gens _ i)
          where
            go : In v gens ⊎ In v (pairs item (numbers_below (length done.0)) (numbers_below (length done.0))) → U v × ((d : ℕ) × IsHomogeneous S d v)
            go (inl j) = (member_inside k gens v j, given v j)
            go (inr j) = let p = from_pairs item v (numbers_below (length done.0)) (numbers_below (length done.0)) j in
                subst (λ u. U u × ((d : ℕ) × IsHomogeneous S d u)) p.4 (item_is p.0 p.1 (s_decided (listed k done.0 p.0) (listed k done.0 p.1)))

        rest : Rest done.0 family → SomeAbove S (InModule k (listed k gens)) cap
        rest r = (
          r.remainder,
          r.lead,
          record {
            inside = inside;
            lead = r.is_lead;
            homogeneous = subst (λ n. IsHomogeneous S n r.remainder) (sym at) r.is_homogeneous;
            over = over (dec_le (suc cap) (degree S r.lead));
            new = λ w s uw up ls d. let low = up s (lead_there S w s ls) in undivided s (complete_found (suc cap) done.0 done.1 w s uw ls (omega arith)) d;
          },
        )
          where
            inside : U r.remainder
            inside = let w = remainder_difference S (listed k done.0) r.item r.remainder r.is_remainder in
                set_difference S U graded r.remainder r.item w.0 w.2 r.inside (generated_within S U graded (listed k done.0) place w.0 w.1)

            at : degree S r.lead ≡ r.degree
            at = r.is_homogeneous r.lead (lead_there S r.remainder r.lead r.is_lead)

            undivided : (s : Key) → Found S (listed k done.0) s → ¬ KeyDivides s r.lead
            undivided s f d = r.is_remainder.irreducible f.0 f.1 r.lead f.2 (lead_there S r.remainder r.lead r.is_lead) (divides_trans S (listed k done.0) f.1 s r.lead f.3 d)

            over : Dec (cap < degree S r.lead) → cap < degree S r.lead
            over (yes p) = p
            over (no n) = absurd (undivided r.lead (complete_found (suc cap) done.0 done.1 r.remainder r.lead inside r.is_lead (omega arith)) (monomials.one, times_key_one r.lead))

        finished : ((v : Vect k) → In v (gens ++ pairs item (numbers_below (length done.0)) (numbers_below (length done.0))) → Settled done.0 v)
            → (vs : List (Vect k)) × IsReducedBasisOf S (InModule k (listed k gens)) vs × NothingAbove S (InModule k (listed k gens)) cap
        finished settled = (made.0, made.1, nothing)
          where
            within : (v : Vect k) → U v → InModule k (listed k done.0) v
            within = inside_by_members k gens (listed k done.0) (λ w i. settled_inside done.0 w (settled w (in_left w gens _ i)))

            low : (i : ℕ) (s : Key) → LeadBy k o (listed k done.0 i) s → i < length done.0
            low i s l = go (dec_le (suc i) (length done.0))
              where
                go : Dec (i < length done.0) → i < length done.0
                go (yes p) = p
                go (no n) = absurd (lead_not_zero S (listed k done.0 i) s l (listed_past k done.0 i (omega arith)))

            treated : (i j : ℕ) → i < j → IsTreated S (listed k done.0) i j
            treated i j less s t ls lt same =
                let v = s_exists S (listed k done.0 i) (listed k done.0 j) s t ls lt same in
                let here = settled (item i j) (in_right (item i j) gens _ (in_pairs item i j (numbers_below (length done.0)) (numbers_below (length done.0)) (in_numbers_below i (length done.0) (low i s ls)) (in_numbers_below j (length done.0) (low j t lt)))) in
                settled_treated done.0 i j v.0 v.1 (subst (Settled done.0) (s_found (listed k done.0 i) (listed k done.0 j) v.0 v.1) here) s t ls lt same

            basis : IsGroebnerBasis k (listed k done.0) o
            basis = treated_basis S positive (listed k done.0) family treated

            rows : (l : List (Row S)) × ((e : Row S) → In e l → In e.0 done.0 × LeadBy k o e.0 e.1) × ((w : Vect k) → In w done.0 → (e : Row S) × In e l × (e.0 ≡ w))
            rows = rows_of done.0 done.1.leads

            covers : (v : Vect k) (t : Key) → U v → LeadBy k o v t → (e : Row S) × In e rows.0 × KeyDivides e.1 t
            covers v t uv l =
                let f = basis v t (within v uv) l in
                let e = rows.2 (listed k done.0 f.0) (listed_in k done.0 f.0 (low f.0 f.1 f.2)) in
                (e.0, e.1, subst (λ s. KeyDivides s t) (lead_unique (scalars k) (is_field k) key_same o e.0.0 f.1 e.0.1 (subst (λ u. LeadBy k o u f.1) (sym e.2) f.2) (rows.1 e.0 e.1).1) f.3)

            made : (vs : List (Vect k)) × IsReducedBasisOf S (InModule k (listed k gens)) vs
            made = reduced_exists S U graded positive rows.0 (λ e i. let r = rows.1 e i in let h = done.1.homogeneous e.0 r.0 in record { lead = r.1; inside = done.1.inside e.0 r.0; degree = h.0; homogeneous = h.2 }) covers

            nothing : NothingAbove S (InModule k (listed k gens)) cap
            nothing v t a =
                let f = basis v t (within v a.inside) a.lead in
                let h = done.1.homogeneous (listed k done.0 f.0) (listed_in k done.0 f.0 (low f.0 f.1 f.2)) in
                a.new (listed k done.0 f.0) f.1 (place f.0) (λ x nz. let d = h.2 x nz in let b = h.1 in omega arith) f.2 f.3

        result : ((v : Vect k) → In v (gens ++ pairs item (numbers_below (length done.0)) (numbers_below (length done.0))) → Settled done.0 v) ⊎ Rest done.0 family
            → ((vs : List (Vect k)) × IsReducedBasisOf S (InModule k (listed k gens)) vs × NothingAbove S (InModule k (listed k gens)) cap) ⊎ SomeAbove S (InModule k (listed k gens)) cap
        result (inl h) = inl (finished h)
        result (inr r) = inr (rest r)
