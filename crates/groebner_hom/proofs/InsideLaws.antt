-- Polynomials in the ideal of a Gröbner basis: their colon modules have no element above the cap.
use Rattle.std.proofs.Common.{◌≡◌, ◌⊎◌, ◌∙◌, inl, inr, ℕ, suc, ◌≤◌, Bool, List, sym, ap, ap₂, refl, subst, arith}
use Rattle.std.specs.Prelude.{All, IsTrue, ◌↔◌}
use Rattle.std.specs.declared.cmp.Ordering.TheVariants.{Less}
use native.Mathlib.Decide.{ℕ_discrete}
use Rattle.alg_core.specs.Fields.{FieldOn, scalars, is_field}
use Rattle.alg_core.specs.Keys.{Key, key_same, times_key, KeyDivides}
use Rattle.alg_core.specs.KeyOrders.{OrderOn, Trichotomy, trichotomy, less_transitive, less_irreflexive}
use Rattle.alg_core.specs.Leads.{has_lead, HasLead, lead_unique}
use Rattle.alg_core.specs.Lists.{In}
use Rattle.alg_core.specs.Monomials.{Mon, monomials}
use Rattle.alg_core.specs.declared.term.Term.{Term}
use Rattle.alg_core.specs.Fields.{Scalar}
use Rattle.alg_core.specs.Spaces.{SpaceOver}
use Rattle.alg_core.specs.SpaceOrder.{key_order}
use Rattle.alg_core.specs.SpaceGrading.{AllPositive, height, degree}
use Rattle.alg_core.specs.Vectors.{Vect, coef_at, plus, zero_vector}
use Rattle.alg_core.proofs.Members.{from_map}
use Rattle.alg_core.proofs.VectorLaws.{coef_at_plus, zero_plus}
use Rattle.poly_module.specs.Degrees.{IsHomogeneous}
use Rattle.poly_module.specs.Modules.{LeadBy, InModule, IsGroebnerBasis, listed}
use Rattle.poly_module.specs.Parts.{Supp, IsPolynomial, supp_zero, supp_outside}
use Rattle.poly_module.specs.Polynomials.{one_vector, product}
use Rattle.poly_module.specs.Products.{product_one, one_product}
use Rattle.poly_module.specs.SpaceVectors.{IsUpTo, vector_of, vectors_of}
use Rattle.poly_module.specs.Substitutions.{position_vector}
use Rattle.poly_module.proofs.ModuleElements.{polynomial_one, module_plus, module_product, module_member}
use Rattle.poly_module.proofs.Reduced.{divides_trans, listed_has}
use Rattle.poly_module.proofs.SpaceVectorLaws.{minus_plus}
use Rattle.module_groebner.specs.BasisBounds.{NothingAbove}
use Rattle.module_groebner.specs.HomogeneousLists.{IsHomogeneousUpTo}
use Rattle.module_groebner.specs.Remainders.{IsRemainder, IsSumUpTo, IsSumBelow}
use Rattle.module_groebner.proofs.CompletionEnds.{lead_not_zero, lead_there}
use Rattle.module_groebner.proofs.Families.{all_in}
use Rattle.module_groebner.proofs.Remainders.{less_dec, Divided, divided_dec, remainder_exists, remainder_inside, single_lead}
use Rattle.module_groebner.proofs.Sums.{sum_keys}
use Rattle.finite_certificate.specs.Ideals.{InIdeal, Nonzerodivisor}
use Rattle.groebner_hom.specs.Colons.{lifted, colon, InColon, IsPair, colon_space, NoColonAbove, KeepsLead}
use Rattle.groebner_hom.specs.IdealBases.{AreHomogeneousPolys, NoIdealAbove}
use Rattle.groebner_hom.proofs.ColonBases.{same_degree, position_homogeneous, one_degree}
use Rattle.groebner_hom.proofs.ColonModules.{colon_pair, colon_first, supp_lifted}
use Rattle.groebner_hom.proofs.PolynomialLists.{are_homogeneous_up_to, are_polynomials}

-- A Gröbner basis by an order o, the leads of whose members by the order of a space divide their leads by o, is one by the order
-- of the space, for homogeneous elements.
module _ {E : Type 0} (T : SpaceOver E) (positive : AllPositive T.weights) (ws : List (Vect T.field))
    (homogeneous : (i : ℕ) → (e : ℕ) × IsHomogeneous T e (listed T.field ws i)) where
  abbrev k : FieldOn E
  k = T.field

  abbrev g : ℕ → Vect T.field
  g = listed T.field ws

  -- the leads of the multiples in a sum are smaller than a key that no lead of a member divides
  below_sum : (t : Key) (w : Vect T.field) → ¬ Divided T ws t → IsSumUpTo T (listed T.field ws) t w → IsSumBelow T (listed T.field ws) t w
  below_sum t w n a = record { multiples = a.multiples; leads = λ e s i l. go e s i l (trichotomy (key_order T) (times_key e.1 s) t); is = a.is }
    where
      go : (e : Scalar T.field × Mon × ℕ) (s : Key) → In e a.multiples → LeadBy T.field (key_order T) (g e.2) s → Trichotomy (key_order T) (times_key e.1 s) t
          → (key_order T).compare (times_key e.1 s) t ≡ Less
      go e s i l (inl (inl h)) = h
      go e s i l (inl (inr q)) = absurd (n (e.2, s, l, (e.1, q)))
      go e s i l (inr h) = absurd (a.leads e s i l h)

  -- a key of such a sum is smaller
  below_keys : (t : Key) (w : Vect T.field) → IsSumBelow T (listed T.field ws) t w → Supp T.field (λ s. (key_order T).compare s t ≡ Less) w
  below_keys t w a = sum_keys T g (λ s. (key_order T).compare s t ≡ Less) (λ s. (key_order T).compare s t ≡ Less) (λ s. less_dec T s t) down w a
    where
      down : (s x : Key) → (key_order T).compare s t ≡ Less → (x ≡ s) ⊎ ((key_order T).compare x s ≡ Less) → (key_order T).compare x t ≡ Less
      down s x h (inl e) = subst (λ y. (key_order T).compare y t ≡ Less) (sym e) h
      down s x h (inr q) = less_transitive (key_order T) x s t q h

  module _ (o : OrderOn Key) (basis : IsGroebnerBasis T.field (listed T.field ws) o)
      (kept : (i : ℕ) (s : Key) → LeadBy T.field o (listed T.field ws i) s → (t : Key) × LeadBy T.field (key_order T) (listed T.field ws i) t × KeyDivides t s) where
    -- an element has the remainder 0
    remainder_nothing : (p r : Vect T.field) → InModule T.field (listed T.field ws) p → IsRemainder T (listed T.field ws) p r → r ≡ zero_vector T.field
    unfolding zero_vector coef_at
    remainder_nothing p r inside h = go (has_lead (scalars k) (is_field k) key_same o r)
      where
        go : HasLead (scalars k) (is_field k) key_same o r → r ≡ zero_vector k
        go (inl z) = z
        go (inr l) = absurd (
            let c = basis r l.0 (remainder_inside T g p r h inside) l.1 in
            let d = kept c.0 c.1 c.2 in
            h.irreducible c.0 d.0 l.0 d.1 l.1.there (divides_trans T g d.0 c.1 l.0 d.2 c.3))

    pub covers_by : (p : Vect T.field) (e : ℕ) (t : Key) → IsHomogeneous T e p → InModule T.field (listed T.field ws) p → LeadBy T.field (key_order T) p t → Divided T ws t
    covers_by p e t h inside lead = go (divided_dec T ws t)
      where
        go : Dec (Divided T ws t) → Divided T ws t
        go (yes d) = d
        go (no n) =
            let r = remainder_exists T positive ws homogeneous p e h in
            let s = r.1.sum t lead in
            let zero = remainder_nothing p r.0 inside r.1 in
            let same : s.0 ≡ p = sym (zero_plus k s.0) ∙ ap (λ x. plus k x s.0) (sym zero) ∙ s.2 in
            let keys = subst (Supp T.field (λ s. (key_order T).compare s t ≡ Less)) same (below_keys t s.0 (below_sum t s.0 n s.1)) in
            absurd (less_irreflexive (key_order T) t t refl (keys t (lead_there T p t lead)))

-- a Gröbner basis without members of a degree over the cap leaves no element above it
module _ {E : Type 0} (S : SpaceOver E) (ws : List (Vect S.field)) (cap : ℕ) (up : (i : ℕ) → IsUpTo S cap (listed S.field ws i)) where
  pub basis_within : IsGroebnerBasis S.field (listed S.field ws) (key_order S) → NothingAbove S (InIdeal S.field ws) cap
  basis_within basis v t a = let c = basis v t a.inside a.lead in a.new (listed S.field ws c.0) c.1 (module_member S.field (listed S.field ws) c.0) (up c.0) c.2 c.3

-- a polynomial of an ideal is a nonzerodivisor modulo it exactly where 1 lies in it
pub inside_exact : {E : Type 0} (k : FieldOn E) (θ : List (Vect k)) (f : Vect k) (b : Bool) → InIdeal k θ f → IsTrue b ↔ InIdeal k θ (one_vector k) → IsTrue b ↔ Nonzerodivisor k θ f
inside_exact k θ f b inside exact = (
  λ t h p _. subst (InIdeal k θ) (product_one k h) (module_product k (listed k θ) h (one_vector k) p (exact.0 t)),
  λ n. exact.1 (n (one_vector k) (polynomial_one k) (subst (InIdeal k θ) (sym (one_product k f)) inside)),
)

module _ {E : Type 0} (S : SpaceOver E) (d : ℕ) (positive : AllPositive S.weights) (ws : List (Vect S.field)) (f : Vect S.field) (cap : ℕ)
    (pθ : (v : Vect S.field) → In v ws → IsPolynomial S.field v) (pf : IsPolynomial S.field f)
    (homogeneous : (i : ℕ) → (e : ℕ) × IsHomogeneous (colon_space S d) e (listed S.field ws i))
    (up : (i : ℕ) → IsUpTo (colon_space S d) cap (listed S.field ws i))
    (covers : (p : Vect S.field) (e : ℕ) (t : Key) → IsHomogeneous (colon_space S d) e p → InIdeal S.field ws p → LeadBy S.field (key_order (colon_space S d)) p t → Divided (colon_space S d) ws t)
    (inside : InIdeal S.field ws f) (low : d ≤ cap) where
  abbrev F : FieldOn E
  F = S.field

  abbrev C : SpaceOver E
  C = colon_space S d

  -- the pair (0, 1) is an element
  one_inside : InColon S.field ws f (position_vector S.field)
  one_inside = subst (InColon F ws f) (one_product F (position_vector F))
      (colon_first F ws f pθ pf (one_vector F) (polynomial_one F) (subst (InIdeal F ws) (sym (one_product F f)) inside))

  one_up : IsUpTo (colon_space S d) cap (position_vector S.field)
  one_up t c = let e = position_homogeneous S d t c in omega arith

  one_lead : LeadBy S.field (key_order (colon_space S d)) (position_vector S.field) (1, monomials.one)
  unfolding position_vector
  one_lead = single_lead C positive ws homogeneous (1, monomials.one)

  -- the first part of an element lies in the ideal
  first_inside : (v : Vect S.field) (a : IsPair S.field ws f v) → InIdeal S.field ws a.first
  first_inside v a = subst (InIdeal F ws) (minus_plus F a.first (product F a.second f))
      (module_plus F (listed F ws) _ _ a.inside (module_product F (listed F ws) a.second f a.second_polynomial inside))

  -- and has the coefficients of the element at position 0
  first_same : (v : Vect S.field) (a : IsPair S.field ws f v) (s : Key) → s.0 ≡ 0 → coef_at S.field v s ≡ coef_at S.field a.first s
  first_same v a s z = ap (λ u. coef_at F u s) (sym a.is) ∙ coef_at_plus F a.first (lifted F a.second) s
      ∙ ap ((scalars F).◌+◌ (coef_at F a.first s)) (supp_outside F (λ t. t.0 ≡ 1) (lifted F a.second) (supp_lifted F a.second a.second_polynomial) s (λ e. omega arith)) ∙ (scalars F).add_zero _

  -- the others are those of the second part
  second_key : (v : Vect S.field) (a : IsPair S.field ws f v) (s : Key) → ¬ (s.0 ≡ 0) → ¬ (coef_at S.field v s ≡ (scalars S.field).zero) → s.0 ≡ 1
  second_key v a s n c = supp_lifted F a.second a.second_polynomial s (λ z. c (
      ap (λ u. coef_at F u s) (sym a.is) ∙ coef_at_plus F a.first (lifted F a.second) s
      ∙ ap₂ (scalars F).◌+◌ (supp_outside F (λ t. t.0 ≡ 0) a.first a.first_polynomial s n) z ∙ (scalars F).add_zero _))

  first_homogeneous : (v : Vect S.field) (a : IsPair S.field ws f v) (e : ℕ) → IsHomogeneous (colon_space S d) e v → IsHomogeneous (colon_space S d) e a.first
  first_homogeneous v a e h s c = h s (λ z. c (sym (first_same v a s (a.first_polynomial s c)) ∙ z))

  first_lead : (v : Vect S.field) (a : IsPair S.field ws f v) (t : Key) → t.0 ≡ 0 → LeadBy S.field (key_order (colon_space S d)) v t → LeadBy S.field (key_order (colon_space S d)) a.first t
  unfolding coef_at
  first_lead v a t z l = record { there = λ e. l.there (first_same v a t z ∙ e); above = λ s h. go s h (ℕ_discrete s.0 0) }
    where
      go : (s : Key) → (key_order C).compare t s ≡ Less → Dec (s.0 ≡ 0) → coef_at F a.first s ≡ (scalars F).zero
      go s h (yes p) = sym (first_same v a s p) ∙ l.above s h
      go s h (no n) = supp_outside F (λ t. t.0 ≡ 0) a.first a.first_polynomial s n

  pub colon_within : NothingAbove (colon_space S d) (InColon S.field ws f) cap
  colon_within v t a = go (ℕ_discrete t.0 0)
    where
      pair : IsPair S.field ws f v
      pair = colon_pair F ws f pθ pf v a.inside

      go : Dec (t.0 ≡ 0) → ⊥
      go (yes z) =
          let c = covers pair.first (degree C t) t (first_homogeneous v pair (degree C t) a.homogeneous) (first_inside v pair) (first_lead v pair t z a.lead) in
          a.new (listed F ws c.0) c.1 (module_member F (listed F (colon F ws f)) (suc c.0)) (up c.0) c.2 c.3
      go (no n) =
          let e = second_key v pair t n (lead_there C v t a.lead) in
          a.new (position_vector F) (1, monomials.one) one_inside one_up one_lead (t.1, ap₂ (λ (q : ℕ) (m : Mon). (q, m)) (sym e) (monomials.mul_one t.1))

module _ {E : Type 0} (S : SpaceOver E) (cap : ℕ) (θ : List (List (Term E (List ℕ)))) (polys : AreHomogeneousPolys S cap θ)
    (basis : IsGroebnerBasis S.field (listed S.field (vectors_of S (λ m. m) θ)) (key_order S)) where
  abbrev of : List (Vect S.field)
  of = vectors_of S (λ m. m) θ

  members_up : (i : ℕ) → IsUpTo S cap (listed S.field (vectors_of S (λ m. m) θ) i)
  members_up = listed_has S.field (IsUpTo S cap) (supp_zero S.field (λ t. degree S t ≤ cap)) of
      (λ w i t c. let h = all_in (IsHomogeneousUpTo S cap) of (are_homogeneous_up_to S cap θ polys) w i in let b = h.1 in let e = h.2 t c in omega arith)

  pub ideal_within : NoIdealAbove S (vectors_of S (λ m. m) θ) cap
  ideal_within = basis_within S of cap members_up basis

  module _ (positive : AllPositive S.weights) (shift : height S.shifts 0 ≡ 0) (d : ℕ) (low : d ≤ cap) (f : List (Term E (List ℕ))) (pf : IsPolynomial S.field (vector_of S (λ m. m) f))
      (not_zero : ¬ (vector_of S (λ m. m) f ≡ zero_vector S.field)) (has_degree : IsHomogeneous S d (vector_of S (λ m. m) f)) where
    abbrev G : SpaceOver E
    G = colon_space S d

    member_homogeneous : (w : Vect S.field) → In w (vectors_of S (λ m. m) θ) → IsHomogeneousUpTo (colon_space S d) cap w
    member_homogeneous w i = let h = all_in (IsHomogeneousUpTo S cap) of (are_homogeneous_up_to S cap θ polys) w i in
        (h.0, h.1, same_degree S d shift h.0 w (are_polynomials S cap θ polys w i) h.2)

    pairs_homogeneous : (i : ℕ) → (e : ℕ) × IsHomogeneous (colon_space S d) e (listed S.field (vectors_of S (λ m. m) θ) i)
    pairs_homogeneous = listed_has S.field (λ w. (e : ℕ) × IsHomogeneous G e w) (0, supp_zero S.field (λ t. degree G t ≡ 0)) of (λ w i. let h = member_homogeneous w i in (h.0, h.2))

    pairs_up : (i : ℕ) → IsUpTo (colon_space S d) cap (listed S.field (vectors_of S (λ m. m) θ) i)
    pairs_up = listed_has S.field (IsUpTo G cap) (supp_zero S.field (λ t. degree G t ≤ cap)) of
        (λ w i t c. let h = member_homogeneous w i in let b = h.1 in let e = h.2 t c in omega arith)

    abbrev KeepsLeadOf : Vect S.field → Type 0
    KeepsLeadOf w = (s : Key) → LeadBy S.field (key_order S) w s → (t : Key) × LeadBy S.field (key_order (colon_space S d)) w t × KeyDivides t s

    members_kept : All (KeepsLead S (colon_space S d)) θ → (i : ℕ) → KeepsLeadOf (listed S.field (vectors_of S (λ m. m) θ) i)
    members_kept kept = listed_has S.field KeepsLeadOf (λ s l. absurd (lead_not_zero S (zero_vector S.field) s l refl)) of (λ w i.
        let x = from_map (vector_of S (λ m. m)) w θ i in
        let h = all_in (KeepsLead S G) θ kept x.0 x.1 in
        subst KeepsLeadOf x.2 (λ s l. (
          h.other,
          h.other_lead,
          subst (KeyDivides h.other) (lead_unique (scalars S.field) (is_field S.field) key_same (key_order S) _ h.own s h.own_lead l) h.divides,
        )))

    -- over the space that the program makes
    pub no_colon : (X : SpaceOver E) → X ≡ colon_space S d → All (KeepsLead S X) θ → InIdeal S.field (vectors_of S (λ m. m) θ) (vector_of S (λ m. m) f)
        → NoColonAbove S (vectors_of S (λ m. m) θ) (vector_of S (λ m. m) f) cap
    no_colon X is kept inside e h =
        let u = vector_of S (λ m. m) f in
        let all = members_kept (subst (λ (Y : SpaceOver E). All (KeepsLead S Y) θ) is kept) in
        subst (λ x. NothingAbove (colon_space S x) (InColon S.field of u) cap) (one_degree S d e u not_zero has_degree h)
        (colon_within S d positive of u cap (are_polynomials S cap θ polys) pf pairs_homogeneous pairs_up
        (covers_by G positive of pairs_homogeneous (key_order S) basis all) inside low)
