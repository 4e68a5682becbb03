-- The remainder of a power of a variable by the lifts: it has a mark in each term exactly where the power lies in the ideal.
use Rattle.std.proofs.Common.{◌≡◌, ◌∙◌, ◌+◌, ◌*◌, ◌<◌, ◌≤◌, ℕ, List, [], ◌∷◌, ◌++◌, length, replicate, refl, sym, ap, ap₂, subst, inl, inr, arith}
use Rattle.std.specs.Prelude.{◌↔◌}
use native.Mathlib.Decide.{ℕ_discrete, dec_le}
use Rattle.alg_core.specs.CanonicalLists.{indicator_yes, indicator_no}
use Rattle.alg_core.specs.CommonMultiples.{divides_exponents, exponents_divide}
use Rattle.alg_core.specs.Fields.{FieldOn, scalars, is_field}
use Rattle.alg_core.specs.KeyOrders.{OrderOn, less_irreflexive}
use Rattle.alg_core.specs.Keys.{Key, key_same, KeyDivides}
use Rattle.alg_core.specs.Leads.{HasLead, has_lead}
use Rattle.alg_core.specs.Lists.{In}
use Rattle.alg_core.specs.MonomialParts.{variable_part, mark_part, as_marks}
use Rattle.alg_core.specs.Monomials.{Mon, monomials, mono, exponent, exponent_mono}
use Rattle.alg_core.specs.PlaceOrders.{PlaceOrder}
use Rattle.alg_core.specs.PolynomialSpaces.{plain_space, marked_space}
use Rattle.alg_core.specs.SpaceGrading.{height, degree}
use Rattle.alg_core.specs.SpaceOrder.{key_order, key_compare}
use Rattle.alg_core.specs.Spaces.{SpaceOver, entries}
use Rattle.alg_core.specs.Vectors.{Vect, zero_vector, plus, coef_at}
use Rattle.alg_core.specs.declared.term.Term.{Term}
use Rattle.alg_core.proofs.MonomialParts.{parts, variable_part_same, length_variable_part}
use Rattle.alg_core.proofs.VectorLaws.{coef_at_zero, plus_zero, zero_plus}
use Rattle.poly_module.specs.Combinations.{mark_value}
use Rattle.poly_module.specs.Degrees.{IsHomogeneous}
use Rattle.poly_module.specs.Forms.{key_weight}
use Rattle.poly_module.specs.Marks.{IsMixed, IsRelation, relations}
use Rattle.poly_module.specs.Modules.{InModule, LeadBy, listed}
use Rattle.poly_module.specs.MonomialVariables.{after_zeros}
use Rattle.poly_module.specs.Parts.{Supp, IsPolynomial, InVariables, coef_at_single, supp_single, supp_select, select_all, select_none, select_inside, select_plus}
use Rattle.poly_module.specs.Polynomials.{single_vector}
use Rattle.poly_module.specs.SpaceVectors.{IsVector, vector_of, vectors_of}
use Rattle.poly_module.specs.Substitutions.{substitute_plus}
use Rattle.poly_module.proofs.FittingKeys.{vec_in_variables}
use Rattle.poly_module.proofs.MarkValues.{mark_value_polynomial}
use Rattle.poly_module.proofs.Reduced.{place_of_member, divides_trans}
use Rattle.poly_module.proofs.RelationIdeals.{ideal_value, relations_exact}
use Rattle.poly_module.proofs.SpaceVectorLaws.{minus_unique, supp_minus}
use Rattle.module_groebner.specs.HomogeneousLists.{IsHomogeneousUpTo}
use Rattle.module_groebner.specs.Remainders.{IsRemainder, KeepsDegrees}
use Rattle.module_groebner.proofs.Families.{all_in}
use Rattle.module_groebner.proofs.Remainders.{module_difference, remainder_difference}
use Rattle.finite_certificate.specs.Finiteness.{IsPower}
use Rattle.finite_certificate.specs.Ideals.{InIdeal, Ended, variable_power}
use Rattle.finite_certificate.specs.MarkSpaces.{IsMarkSpace, HasMark, ArePositiveForms, degree_limit}
use Rattle.finite_certificate.specs.StandardMonomials.{IsStandard, IsStandardForm, IsLeadMultiple, LeadsDivide, IsCoordinates}
use Rattle.finite_certificate.proofs.LowImages.{marked_length}
use Rattle.finite_certificate.proofs.MarkDegrees.{power_degree, power_length}
use Rattle.finite_certificate.proofs.ModuleTerms.{weight_variables, factor_length}
use Rattle.finite_certificate.proofs.PowerForms.{forms_count}
use Rattle.finite_certificate.proofs.RelationLeads.{lead_lifts}
use Rattle.finite_certificate.proofs.StandardTests.{standard_by_lifts}
use Rattle.finite_certificate.proofs.VariablePowers.{power_single}
use Rattle.groebner_hom.specs.Lifts.{AreUnmarkedLifts, IsLeastPower}
use Rattle.groebner_hom.proofs.ExponentSteps.{NoSmaller, least-from}
use Rattle.groebner_hom.proofs.PolynomialLists.{are_vectors, are_homogeneous_up_to, are_polynomials, ideal_polynomials, same_ideal}
use Rattle.groebner_hom.proofs.PowerBounds.{exponent_low, weight_bound, exponent_elsewhere}
use Rattle.groebner_hom.proofs.UnmarkedParts.{in_variables, unmarked, each_member, unmarked_inside}
use Rattle.alg_core.proofs.Members.{from_map}

-- the part in the variables divides a key
part_divides : (n : ℕ) (t : Key) → t.0 ≡ 0 → KeyDivides (0, variable_part n t.1) t
part_divides n t z =
    let m = as_marks n (mark_part n t.1) in
    (m, ap₂ (λ (i : ℕ) (a : Mon). (i, a)) (sym z) (monomials.comm m (variable_part n t.1) ∙ parts n t.1))

single_lead : {E : Type 0} (k : FieldOn E) (o : OrderOn Key) (t : Key) → LeadBy k o (single_vector k t) t
unfolding coef_at
single_lead k o t = record {
  there = λ z. (is_field k).one_not_zero (sym (indicator_yes (scalars k) (key_same t t) refl) ∙ sym (coef_at_single k t t) ∙ z);
  above = λ s h. coef_at_single k t s ∙ indicator_no (scalars k) (key_same t s) (λ e. less_irreflexive o t s e h);
}

module _ {E : Type 0} (S : SpaceOver E) (n : ℕ) (ds : List ℕ) (space : IsMarkSpace S n ds) where
  abbrev k : FieldOn E
  k = S.field

  abbrev o : OrderOn Key
  o = key_order S

  abbrev plain : OrderOn Key
  plain = key_order (plain_space S.field n)

  abbrev blocks : OrderOn Key
  blocks = key_order (marked_space S.field n ds)

  compare_same : (s t : Key) → o.compare s t ≡ blocks.compare s t
  compare_same s t = ap₂ (λ (ws : List ℕ) (q : PlaceOrder). key_compare (length ws) q s t) space.weights space.order

  lead_blocks : (v : Vect S.field) (t : Key) → LeadBy k o v t → LeadBy k blocks v t
  lead_blocks v t l = record { there = l.there; above = λ s less. l.above s (compare_same t s ∙ less) }

  lead_space : (v : Vect S.field) (t : Key) → LeadBy k blocks v t → LeadBy k o v t
  lead_space v t l = record { there = l.there; above = λ s less. l.above s (sym (compare_same t s) ∙ less) }

  key_degree : (t : Key) → t.0 ≡ 0 → degree S t ≡ key_weight (replicate n 1 ++ ds) t
  unfolding degree
  key_degree t z =
      let w : key_weight S.weights t ≡ key_weight (replicate n 1 ++ ds) t = ap (λ ws. key_weight ws t) space.weights in
      let h : height S.shifts t.0 ≡ 0 = ap (height S.shifts) z ∙ space.shift in
      omega arith

  abbrev power_key : ℕ → ℕ → Key
  power_key i e = (0, mono (after_zeros i (e ∷ [])))

  pub power_homogeneous : (i e : ℕ) → i < n → IsHomogeneous S e (variable_power S.field i e)
  power_homogeneous i e h = subst (IsHomogeneous S e) (sym (power_single k i e)) (supp_single k (λ t. degree S t ≡ e) (power_key i e) (key_degree (power_key i e) refl ∙ power_degree n i e ds h))

  power_keys : (i e : ℕ) → i < n → Supp S.field (λ t. (t.0 ≡ 0) × (length t.1.0 ≤ n)) (variable_power S.field i e)
  power_keys i e h = subst (Supp k (λ t. (t.0 ≡ 0) × (length t.1.0 ≤ n))) (sym (power_single k i e))
      (supp_single k (λ t. (t.0 ≡ 0) × (length t.1.0 ≤ n)) (power_key i e) (refl, power_length n i e h))

  module _ (θ : List (Vect S.field)) (primaries : ArePositiveForms S.field n ds θ) (ls : List (List (Term E (List ℕ)))) (lifts : AreUnmarkedLifts S n θ ls) where
    abbrev ws : List (Vect S.field)
    ws = vectors_of S (λ m. m) ls

    variables : length S.weights ≡ n + length θ
    variables = marked_length S n ds space ∙ ap (λ m. n + m) (sym (forms_count k (replicate n 1) ds θ primaries.forms))

    terms_variables : (p : List (Term E (List ℕ))) → IsVector S (λ m. m) p → InVariables S.field (n + length θ) (vector_of S (λ m. m) p)
    terms_variables p fits t c = let short = vec_in_variables S (entries (λ m. m) p) fits t c in omega (arith, variables)

    member_mixed : (v : Vect S.field) → In v ws → IsMixed S.field n (length θ) v
    member_mixed v i =
        let p = from_map (vector_of S (λ m. m)) v ls i in
        record {
          polynomial = are_polynomials S degree_limit ls lifts.polynomials v i;
          variables = subst (InVariables k (n + length θ)) p.2 (terms_variables p.0 (all_in (IsVector S (λ m. m)) ls (are_vectors S degree_limit ls lifts.polynomials) p.0 p.1));
        }

    exact : (v : Vect S.field) → IsRelation S.field n θ v ↔ (IsMixed S.field n (length θ) v × InIdeal S.field (relations S.field n θ) v)
    exact = relations_exact k n θ (each_member k n ds θ primaries) o

    divided : LeadsDivide S.field (key_order (marked_space S.field n ds)) (IsRelation S.field n θ) (vectors_of S (λ m. m) ls)
    divided = record {
      elements = λ v i. (exact v).1 (member_mixed v i, lifts.lifts.reduced.inside v i);
      divided = λ f t r l. let c = lifts.lifts.reduced.covers f t ((exact f).0 r).1 (lead_space f t l) in (c.0, c.2, c.1, lead_blocks c.0 c.1 c.3, c.4);
    }

    lead_low : (v : Vect S.field) (s : Key) → In v ws → LeadBy k o v s → degree S s ≤ degree_limit
    unfolding coef_at
    lead_low v s i l = let h = all_in (IsHomogeneousUpTo S degree_limit) ws (are_homogeneous_up_to S degree_limit ls lifts.polynomials) v i in let e = h.2 s l.there in let low = h.1 in omega arith

    -- where no lead divides a monomial in the variables its exponents are small
    exponent_bound : Ended S.field n θ → (t : Key) → t.0 ≡ 0 → ((v : Vect S.field) (s : Key) → In v ws → LeadBy k o v s → ¬ KeyDivides s t) → (j : ℕ) → j < n → exponent t.1.0 j ≤ degree_limit
    exponent_bound ended t z irr j h = go (dec_le (exponent s.1.0 j) (exponent t.1.0 j))
      where
        p : (e : ℕ) × InIdeal S.field θ (variable_power S.field j e)
        p = ended j h

        m : Mon
        m = mono (after_zeros j (p.0 ∷ []))

        short : length m.0 ≤ n
        short = power_length n j p.0 h

        lead : LeadBy k plain (variable_power k j p.0) (0, m)
        lead = subst (λ v. LeadBy k plain v (0, m)) (sym (power_single k j p.0)) (single_lead k plain (0, m))

        q : IsLeadMultiple S.field (key_order (marked_space S.field n ds)) (vectors_of S (λ m. m) ls) (0, m)
        q = let u = lead_lifts k n ds θ primaries m short (variable_power k j p.0) p.1 lead in divided.divided u.0 (0, m) u.1 u.2

        s : Key
        s = q.2

        first : s.0 ≡ 0
        first = ap (λ (u : Key). u.0) q.4.1

        whole : monomials.◌·◌ s.1 q.4.0 ≡ m
        whole = monomials.comm s.1 q.4.0 ∙ ap (λ (u : Key). u.1) q.4.1

        others : (i : ℕ) → ¬ (i ≡ j) → exponent s.1.0 i ≤ exponent t.1.0 i
        others i other =
            let d = divides_exponents s.1 m (q.4.0, whole) i in
            let x = exponent_mono (after_zeros j (p.0 ∷ [])) i in
            let e = exponent_elsewhere j p.0 i other in
            omega arith

        divides : exponent s.1.0 j ≤ exponent t.1.0 j → KeyDivides s t
        divides low =
            let each : (i : ℕ) → exponent s.1.0 i ≤ exponent t.1.0 i = λ i. at i (ℕ_discrete i j) in
            let c = exponents_divide s.1 t.1 each in
            (c.0, ap₂ (λ (i : ℕ) (a : Mon). (i, a)) (first ∙ sym z) (monomials.comm c.0 s.1 ∙ c.1))
          where
            at : (i : ℕ) → Dec (i ≡ j) → exponent s.1.0 i ≤ exponent t.1.0 i
            at i (yes e) = subst (λ (x : ℕ). exponent s.1.0 x ≤ exponent t.1.0 x) (sym e) low
            at i (no e) = others i e

        go : Dec (exponent s.1.0 j ≤ exponent t.1.0 j) → exponent t.1.0 j ≤ degree_limit
        go (yes low) = absurd (irr q.0 s q.1 (lead_space q.0 s q.3) (divides low))
        go (no more) =
            let a = lead_low q.0 s q.1 (lead_space q.0 s q.3) in
            let b = exponent_low n 0 s.1.0 j h in
            let c = key_degree s first in
            let d = weight_variables n ds 0 s.1.0 (factor_length n s.1 q.4.0 (subst (λ (a : Mon). length a.0 ≤ n) (sym whole) short)) in
            omega arith

    -- the remainder of a power of a variable
    module _ (i e : ℕ) (within : i < n) (r : List (Term E (List ℕ))) (fits : IsVector S (λ m. m) r)
        (rest : IsRemainder S (listed S.field (vectors_of S (λ m. m) ls)) (variable_power S.field i e) (vector_of S (λ m. m) r)) where
      abbrev R : Vect S.field
      R = vector_of S (λ m. m) r

      abbrev P : Vect S.field
      P = variable_power S.field i e

      difference : (w : Vect S.field) × InModule S.field (listed S.field (vectors_of S (λ m. m) ls)) w × (plus S.field (vector_of S (λ m. m) r) w ≡ variable_power S.field i e)
      difference = remainder_difference S (listed k ws) P R rest

      w : Vect S.field
      w = difference.0

      inside : InIdeal S.field (relations S.field n θ) w
      unfolding w difference
      inside = (same_ideal S (relations k n θ) ws lifts.lifts w).0 difference.1

      pub polynomial : IsPolynomial S.field (vector_of S (λ m. m) r)
      unfolding w difference
      polynomial = subst (IsPolynomial k) (sym (minus_unique k R P w difference.2)) (supp_minus k (λ t. t.0 ≡ 0) P w (λ t c. (power_keys i e within t c).0) (ideal_polynomials S degree_limit ls lifts.polynomials w difference.1))

      mixed : IsMixed S.field n (length θ) (vector_of S (λ m. m) r)
      mixed = record { polynomial = polynomial; variables = terms_variables r fits }

      irreducible : (t : Key) → ¬ (coef_at S.field (vector_of S (λ m. m) r) t ≡ (scalars S.field).zero) → (v : Vect S.field) (s : Key) → In v ws → LeadBy k o v s → ¬ KeyDivides s t
      irreducible t c v s i l = let p = place_of_member k ws v i in rest.irreducible p.0 s t (subst (λ u. LeadBy k o u s) (sym p.1) l) c

      standard : IsStandardForm S.field n θ (vector_of S (λ m. m) r)
      standard t c = (standard_by_lifts k n θ ds primaries ws divided (variable_part n t.1) (length_variable_part n t.1)).1
          (λ d. irreducible t c d.0 d.2 d.1 (lead_space d.0 d.2 d.3) (divides_trans S (listed k ws) d.2 (0, variable_part n t.1) t d.4 (part_divides n t (polynomial t c))))

      power_value : mark_value S.field n θ (variable_power S.field i e) ≡ variable_power S.field i e
      power_value = mark_value_polynomial k n θ P (λ t c. (power_keys i e within t c).0) (λ t c. (power_keys i e within t c).1)

      value : mark_value S.field n θ (vector_of S (λ m. m) r) ≡ variable_power S.field i e
      unfolding w difference
      value = sym (plus_zero k _) ∙ ap (plus k (mark_value k n θ R)) (sym (ideal_value k n θ (each_member k n ds θ primaries) w inside)) ∙ sym (substitute_plus k _ R w) ∙ ap (mark_value k n θ) difference.2 ∙ power_value

      pub coordinates : IsCoordinates S.field n θ (variable_power S.field i e) (vector_of S (λ m. m) r)
      coordinates = record { mixed = mixed; standard = standard; value = value }

      -- the parts without a mark
      unmarked_sum : plus S.field (unmarked S.field n (vector_of S (λ m. m) r)) (unmarked S.field n w) ≡ variable_power S.field i e
      unfolding w difference
      unmarked_sum = sym (select_plus k (in_variables k n) R w) ∙ ap (unmarked k n) difference.2 ∙ select_all k (in_variables k n) P (λ t c. (power_keys i e within t c).1)

      others_inside : InIdeal S.field θ (unmarked S.field n w)
      others_inside = unmarked_inside k n ds θ primaries w inside

      all_marked : unmarked S.field n (vector_of S (λ m. m) r) ≡ zero_vector S.field → Supp S.field (HasMark n) (vector_of S (λ m. m) r)
      all_marked none t c = at (in_variables k n t)
        where
          at : Dec (length t.1.0 ≤ n) → HasMark n t
          at (yes short) = absurd (c (sym (select_inside k (in_variables k n) R t short) ∙ ap (λ v. coef_at k v t) none ∙ coef_at_zero k t))
          at (no long) = omega arith

      -- of the lead of the part without a mark
      record Unmarked (t : Key) : Type 0 where
        pub there : ¬ (coef_at S.field (vector_of S (λ m. m) r) t ≡ (scalars S.field).zero)
        pub short : length t.1.0 ≤ n
        pub first : t.0 ≡ 0

      unmarked_lead : (t : Key) → LeadBy k plain (unmarked k n R) t → Unmarked t
      unfolding coef_at
      unmarked_lead t l =
          let short = supp_select k (in_variables k n) R t l.there in
          let c : ¬ (coef_at k R t ≡ (scalars k).zero) = λ z. l.there (select_inside k (in_variables k n) R t short ∙ z) in
          record { there = c; short = short; first = polynomial t c }

      no_lead : InIdeal S.field θ (unmarked S.field n (vector_of S (λ m. m) r)) → (t : Key) → LeadBy k plain (unmarked k n R) t → ⊥
      no_lead h t l =
          let q = unmarked_lead t l in
          let s = subst (IsStandard k n θ) (variable_part_same n t.1 q.short) (standard t q.there) in
          s (unmarked k n R) h (subst (LeadBy k plain (unmarked k n R)) (ap (λ (x : ℕ). (x, t.1)) q.first) l)

      pub marks_exact : Supp S.field (HasMark n) (vector_of S (λ m. m) r) ↔ InIdeal S.field θ (variable_power S.field i e)
      unfolding zero_vector
      marks_exact = (
        λ h. subst (InIdeal k θ) (sym (zero_plus k _) ∙ ap (λ v. plus k v (unmarked k n w)) (sym (select_none k (in_variables k n) (HasMark n) (λ t m short. absurd (omega arith)) R h)) ∙ unmarked_sum) others_inside,
        λ h. go h (has_lead (scalars k) (is_field k) key_same plain (unmarked k n R)),
      )
        where
          go : InIdeal S.field θ (variable_power S.field i e) → HasLead (scalars k) (is_field k) key_same plain (unmarked k n R) → Supp S.field (HasMark n) (vector_of S (λ m. m) r)
          go h (inl none) = all_marked none
          go h (inr l) = absurd (no_lead (module_difference S (listed k θ) (unmarked k n R) P (unmarked k n w) unmarked_sum h others_inside) l.0 l.1)

      pub least_power : NoSmaller S.field θ i e → Supp S.field (HasMark n) (vector_of S (λ m. m) r) → IsLeastPower S.field n θ i (e, vector_of S (λ m. m) r)
      least_power none marks = record { exponent = least-from k θ i e none (marks_exact.0 marks); form = coordinates }

      pub is_power : Supp S.field (HasMark n) (vector_of S (λ m. m) r) → IsPower S.field n θ i (e, vector_of S (λ m. m) r)
      is_power marks = record { mixed = mixed; marks = marks; value = value }

      -- where a term has no mark the exponent is small
      pub exponent_low_enough : KeepsDegrees S (variable_power S.field i e) (vector_of S (λ m. m) r) → Ended S.field n θ → ¬ Supp S.field (HasMark n) (vector_of S (λ m. m) r) → e ≤ n * degree_limit
      unfolding zero_vector
      exponent_low_enough degrees ended some = go (has_lead (scalars k) (is_field k) key_same plain (unmarked k n R))
        where
          at_lead : (t : Key) → Unmarked t → e ≤ n * degree_limit
          at_lead t q =
              let d = degrees.homogeneous e (power_homogeneous i e within) t q.there in
              let a = key_degree t q.first in
              let b = weight_variables n ds 0 t.1.0 q.short in
              let c = weight_bound n 0 t.1.0 degree_limit q.short (exponent_bound ended t q.first (irreducible t q.there)) in
              omega arith

          go : HasLead (scalars k) (is_field k) key_same plain (unmarked k n R) → e ≤ n * degree_limit
          go (inl none) = absurd (some (all_marked none))
          go (inr l) = at_lead l.0 (unmarked_lead l.0 l.1)
