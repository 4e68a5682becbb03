-- Remainders by a basis, Buchberger's criterion both ways, and elements above a cap against members of the reduced basis.
use Rattle.std.proofs.Common.{◌≡◌, ◌⊎◌, inl, inr, ℕ, suc, ◌<◌, ◌≤◌, List, sym, ap, ◌∙◌, refl, subst, arith}
use Rattle.std.specs.Prelude.{◌↔◌}
use native.Mathlib.Decide.{dec_le}
use Rattle.alg_core.specs.Fields.{FieldOn, scalars, is_field}
use Rattle.alg_core.specs.Keys.{Key, key_same, times_key, KeyDivides}
use Rattle.alg_core.specs.CommonMultiples.{common_multiple}
use Rattle.alg_core.specs.KeyOrders.{OrderOn}
use Rattle.alg_core.specs.Leads.{has_lead, HasLead, lead_unique}
use Rattle.alg_core.specs.Lists.{In}
use Rattle.alg_core.specs.Spaces.{SpaceOver}
use Rattle.alg_core.specs.SpaceOrder.{key_order}
use Rattle.alg_core.specs.SpaceGrading.{AllPositive, degree, degree_times_key}
use Rattle.alg_core.specs.Vectors.{Vect, plus, zero_vector}
use Rattle.alg_core.proofs.VectorLaws.{plus_assoc, plus_comm, plus_cancel, zero_plus}
use Rattle.poly_module.specs.Signs.{minus}
use Rattle.poly_module.specs.Parts.{Supp}
use Rattle.poly_module.specs.Degrees.{IsHomogeneous, part, graded_part_graded}
use Rattle.poly_module.specs.Modules.{LeadBy, InModule, IsGroebnerBasis, listed}
use Rattle.poly_module.specs.ReducedLists.{IsReducedBasisOf}
use Rattle.poly_module.specs.Caps.{IsAboveCap}
use Rattle.poly_module.proofs.ModuleElements.{module_zero, module_member, module_part}
use Rattle.poly_module.proofs.SpaceVectorLaws.{minus_plus, supp_minus}
use Rattle.poly_module.proofs.Reduced.{divides_trans}
use Rattle.module_groebner.specs.Remainders.{IsRemainder}
use Rattle.module_groebner.specs.SVectors.{IsSVector, IsTreated, IsBadPair}
use Rattle.module_groebner.proofs.Remainders.{Irreducible, remainder_exists, remainder_difference, remainder_inside, divided_inside, module_difference}
use Rattle.module_groebner.proofs.SVectors.{s_exists, s_homogeneous, s_inside, treated_by}
use Rattle.module_groebner.proofs.PairCriterion.{found_in_degree}
use Rattle.module_groebner.proofs.CompletionEnds.{part_lead, lead_there}

module _ {E : Type 0} (S : SpaceOver E) where
  abbrev k : FieldOn E
  k = S.field

  abbrev o : OrderOn Key
  o = key_order S

  -- a multiple has no smaller degree
  pub divisor_degree : (s t : Key) → KeyDivides s t → degree S s ≤ degree S t
  divisor_degree s t d = let a = degree_times_key S d.0 s in let b : degree S (times_key d.0 s) ≡ degree S t = ap (degree S) d.1 in omega arith

  module _ (g : ℕ → Vect S.field) (basis : IsGroebnerBasis S.field g (key_order S)) where
    -- an irreducible element is 0
    irreducible_zero : (u : Vect S.field) → InModule S.field g u → Supp S.field (Irreducible S g) u → u ≡ zero_vector S.field
    unfolding zero_vector
    irreducible_zero u inside irr = go (has_lead (scalars k) (is_field k) key_same o u)
      where
        go : HasLead (scalars k) (is_field k) key_same o u → u ≡ zero_vector k
        go (inl z) = z
        go (inr l) = absurd (let c = basis u l.0 inside l.1 in irr l.0 (lead_there S u l.0 l.1) c.0 c.1 c.2 c.3)

    irreducible_of : (v r : Vect S.field) → IsRemainder S g v r → Supp S.field (Irreducible S g) r
    irreducible_of v r h t nz i s l = h.irreducible i s t l nz

    -- the remainder is 0 exactly for elements
    pub remainder_zero : (v r : Vect S.field) → IsRemainder S g v r → InModule S.field g v ↔ (r ≡ zero_vector S.field)
    remainder_zero v r h = (
      λ a. irreducible_zero r (remainder_inside S g v r h a) (irreducible_of v r h),
      λ z. divided_inside S g v r h (subst (InModule k g) (sym z) (module_zero k g)),
    )

    -- there is one remainder
    pub remainder_unique : (v r q : Vect S.field) → IsRemainder S g v r → IsRemainder S g v q → r ≡ q
    remainder_unique v r q a b =
        let w = remainder_difference S g v r a in
        let x = remainder_difference S g v q b in
        let u = minus k r q in
        let sum : plus k u w.0 ≡ x.0 = plus_cancel k q _ _ (sym (plus_assoc k q u w.0) ∙ ap (λ y. plus k y w.0) (plus_comm k q u ∙ minus_plus k r q) ∙ w.2 ∙ sym x.2) in
        let z = irreducible_zero u (module_difference S g u x.0 w.0 sum x.1 w.1) (supp_minus k (Irreducible S g) r q (irreducible_of v r a) (irreducible_of v q b)) in
        sym (minus_plus k r q) ∙ ap (λ y. plus k y q) z ∙ zero_plus k q

    -- S-vectors have the remainder 0
    pub basis_pairs : (i j : ℕ) (v r : Vect S.field) → IsSVector S (g i) (g j) v → IsRemainder S g v r → r ≡ zero_vector S.field
    basis_pairs i j v r s h = (remainder_zero v r h).0 (s_inside S (g i) (g j) v s g (module_member k g i) (module_member k g j))

  -- so a bad pair is none of a basis
  pub bad_pair : (vs : List (Vect S.field)) (i j : ℕ) → IsBadPair S vs i j → ¬ IsGroebnerBasis S.field (listed S.field vs) (key_order S)
  bad_pair vs i j b basis = b.not_zero (basis_pairs (listed k vs) basis _ _ b.s_vector b.remainder b.is_s_vector b.is_remainder)

  module _ (positive : AllPositive S.weights) where
    module _ (g : ℕ → Vect S.field) (homogeneous : (i : ℕ) → (d : ℕ) × IsHomogeneous S d (g i)) where
      -- where all pairs are treated the family is a basis
      pub treated_basis : ((i j : ℕ) → i < j → IsTreated S g i j) → IsGroebnerBasis S.field g (key_order S)
      treated_basis treated v t inside lead = found_in_degree S g positive (λ i. (homogeneous i).0) (λ i. (homogeneous i).1) (degree S t) (λ i j less p q lp lq same low. treated i j less)
          (part S (degree S t) v) t (graded_part_graded k (degree S) (degree S t) v) (module_part S g (λ i. (homogeneous i).0) (λ i. (homogeneous i).1) (degree S t) v inside) (part_lead S v t lead)

      same_grows : (i : ℕ) → ((j : ℕ) × (g j ≡ g i)) ⊎ (g i ≡ zero_vector S.field)
      same_grows i = inl (i, refl)

      zero_treated : (i j : ℕ) → ((v : Vect S.field) → IsSVector S (g i) (g j) v → IsRemainder S g v (zero_vector S.field)) → IsTreated S g i j
      zero_treated i j zero s t ls lt same =
          let v = s_exists S (g i) (g j) s t ls lt same in
          treated_by S g g same_grows i j v.0 (zero_vector k) refl refl v.1 (zero v.0 v.1) (inl refl) s t ls lt same

      -- also where each S-vector has the remainder 0
      pub zero_basis : ((i j : ℕ) → i < j → (v : Vect S.field) → IsSVector S (g i) (g j) v → IsRemainder S g v (zero_vector S.field)) → IsGroebnerBasis S.field g (key_order S)
      zero_basis zero = treated_basis (λ i j less. zero_treated i j (zero i j less))

    -- the pairs of a basis are treated
    pub basis_treated : (vs : List (Vect S.field)) → ((i : ℕ) → (d : ℕ) × IsHomogeneous S d (listed S.field vs i)) → IsGroebnerBasis S.field (listed S.field vs) (key_order S) → (i j : ℕ) → IsTreated S (listed S.field vs) i j
    basis_treated vs homogeneous basis i j = zero_treated (listed k vs) homogeneous i j zero
      where
        zero : (v : Vect k) → IsSVector S (listed k vs i) (listed k vs j) v → IsRemainder S (listed k vs) v (zero_vector k)
        zero v s =
            let h = s_homogeneous S (listed k vs i) (listed k vs j) v s (homogeneous i).0 (homogeneous j).0 (homogeneous i).1 (homogeneous j).1 in
            let r = remainder_exists S positive vs homogeneous v (degree S (common_multiple s.left s.right)) h in
            subst (IsRemainder S (listed k vs) v) (basis_pairs (listed k vs) basis i j v r.0 s r.1) r.1

  module _ (U : Vect S.field → Type 0) (cap : ℕ) (vs : List (Vect S.field)) (a : IsReducedBasisOf S U vs)
      (homogeneous : (v : Vect S.field) (t : Key) → In v vs → LeadBy S.field (key_order S) v t → IsHomogeneous S (degree S t) v) where
    -- a member of a degree over the cap is an element above the cap
    pub member_above : (w : Vect S.field) (t : Key) → In w vs → LeadBy S.field (key_order S) w t → cap < degree S t → IsAboveCap S U cap w t
    member_above w t i lead over = record {
      inside = a.reduced.inside w i;
      lead = lead;
      homogeneous = homogeneous w t i lead;
      over = over;
      new = λ x s ux up lx d.
          let c = a.reduced.covers x s ux lx in
          let e : c.0 ≡ w = a.reduced.apart w c.0 c.1 t i c.2 c.3 (lead_there S w t lead) (divides_trans S (listed k vs) c.1 s t c.4 d) in
          let same : c.1 ≡ t = lead_unique (scalars k) (is_field k) key_same o w c.1 t (subst (λ y. LeadBy k o y c.1) e c.3) lead in
          let low = up s (lead_there S x s lx) in
          let high = divisor_degree c.1 s c.4 in
          let at : degree S c.1 ≡ degree S t = ap (degree S) same in
          absurd (omega arith);
    }

    -- and where there is an element above the cap there is such a member
    pub above_member : (v : Vect S.field) (t : Key) → IsAboveCap S U cap v t → (w : Vect S.field) × (s : Key) × In w vs × LeadBy S.field (key_order S) w s × (cap < degree S s)
    above_member v t b = go (dec_le (suc cap) (degree S c.1))
      where
        c : (w : Vect k) × (s : Key) × In w vs × LeadBy k o w s × KeyDivides s t
        c = a.reduced.covers v t b.inside b.lead

        go : Dec (cap < degree S c.1) → (w : Vect k) × (s : Key) × In w vs × LeadBy k o w s × (cap < degree S s)
        go (yes p) = (c.0, c.1, c.2, c.3, p)
        go (no n) = absurd (b.new c.0 c.1 (a.reduced.inside c.0 c.2) (λ x nz. let h = homogeneous c.0 c.1 c.2 c.3 x nz in omega arith) c.3 c.4)
