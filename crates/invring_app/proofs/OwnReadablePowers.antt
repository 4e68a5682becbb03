-- The least powers of the variables in the ideal of forms: no exponent is over the number of standard monomials, and the coordinates are
-- homogeneous.
use Rattle.std.proofs.Common.{◌≡◌, ◌∙◌, ℕ, zero, suc, ◌<◌, ◌≤◌, List, [], ◌∷◌, ◌++◌, length, replicate, refl, sym, ap, subst, append-nil, inl, inr, arith}
use Rattle.alg_core.specs.Fields.{FieldOn, scalars, is_field}
use Rattle.alg_core.specs.KeyOrders.{OrderOn}
use Rattle.alg_core.specs.Keys.{Key, key_same}
use Rattle.alg_core.specs.Leads.{HasLead, has_lead}
use Rattle.alg_core.specs.Lists.{In}
use Rattle.alg_core.specs.Monomials.{Mon, monomials, mono, exponents, length_exponents, mono_exponents}
use Rattle.alg_core.specs.PolynomialSpaces.{plain_space}
use Rattle.alg_core.specs.SpaceGrading.{weight}
use Rattle.alg_core.specs.SpaceOrder.{key_order}
use Rattle.alg_core.specs.Vectors.{Vect, coef_at, zero_vector}
use Rattle.alg_core.proofs.MonomialLists.{length_one}
use Rattle.alg_core.proofs.MonomialParts.{variable_part_same}
use Rattle.alg_core.proofs.VectorLaws.{coef_at_zero}
use Rattle.poly_module.specs.Forms.{IsForm, OfDegree, key_weight}
use Rattle.poly_module.specs.GreatestExponents.{total}
use Rattle.poly_module.specs.Modules.{LeadBy}
use Rattle.poly_module.specs.MonomialVariables.{after_zeros}
use Rattle.poly_module.specs.Parts.{Supp, InVariables, supp_single, supp_select, select_inside}
use Rattle.poly_module.specs.Polynomials.{single_vector}
use Rattle.poly_module.specs.Products.{one_vector_single, ring_one}
use Rattle.finite_certificate.specs.Finiteness.{IsPower}
use Rattle.finite_certificate.specs.Ideals.{InIdeal, Regular, variable_power}
use Rattle.finite_certificate.specs.MarkSpaces.{HasMark, ArePositiveForms}
use Rattle.finite_certificate.specs.StandardMonomials.{IsStandard, AreStandardMonomials, IsCoordinates}
use Rattle.finite_certificate.proofs.Coordinates.{form_coordinates}
use Rattle.finite_certificate.proofs.MarkDegrees.{power_degree, power_length}
use Rattle.finite_certificate.proofs.ModuleTerms.{weight_variables}
use Rattle.finite_certificate.proofs.StandardTests.{one_standard}
use Rattle.finite_certificate.proofs.VariablePowers.{power_single}
use Rattle.groebner_hom.specs.Exponents.{IsLeastExponent}
use Rattle.groebner_hom.proofs.Freeness.{coordinates_unique}
use Rattle.groebner_hom.proofs.UnmarkedParts.{in_variables, unmarked}
use Rattle.primary_module.proofs.StandardDegrees.{total_below, total_weight}
use Rattle.primary_search.proofs.EndedLaws.{single_lead}
use Rattle.cert_check.proofs.PowersInIdeal.{power_inside}

module _ {E : Type 0} (k : FieldOn E) (n : ℕ) (ds : List ℕ) (θ : List (Vect k)) (primaries : ArePositiveForms k n ds θ) where
  abbrev plain : OrderOn Key
  plain = key_order (plain_space k n)

  -- a power of a variable is a form
  power-form : (i d : ℕ) → i < n → IsForm k (replicate n 1) d (variable_power k i d)
  power-form i d h = subst (IsForm k (replicate n 1) d) (sym (power_single k i d)) (supp_single k (OfDegree k (replicate n 1) d) (0, mono (after_zeros i (d ∷ [])))
      (refl, ap (λ (ws : List ℕ). weight ws 0 (mono (after_zeros i (d ∷ []))).0) (sym (append-nil (replicate n 1))) ∙ power_degree n i d [] h))

  power-short : (i d : ℕ) → i < n → InVariables k n (variable_power k i d)
  power-short i d h = subst (InVariables k n) (sym (power_single k i d)) (supp_single k (λ t. length t.1.0 ≤ n) (0, mono (after_zeros i (d ∷ []))) (power_length n i d h))

  -- its coordinates are homogeneous
  pub power-coordinates : Regular k θ → (i d : ℕ) → i < n → (u : Vect k) → IsCoordinates k n θ (variable_power k i d) u → IsForm k (replicate n 1 ++ ds) d u
  power-coordinates regular i d h u is =
      let r = form_coordinates k n ds θ primaries d (variable_power k i d) (power-form i d h) (power-short i d h) in
      subst (IsForm k (replicate n 1 ++ ds) d) (coordinates_unique k n ds θ primaries regular (variable_power k i d) r.0 u r.1 is) r.2

  -- the power with the exponent 0 is 1, which is standard
  one-outside : (i : ℕ) → ¬ InIdeal k θ (variable_power k i 0)
  one-outside i h =
      one_standard k n θ ds primaries (single_vector k (0, monomials.one)) (subst (InIdeal k θ) (ring_one k ∙ one_vector_single k) h)
      (single_lead (plain_space k n) (0, monomials.one))

  module _ (B : List (List ℕ)) (standard : AreStandardMonomials k n θ B) where
    pub one-in : In (exponents n monomials.one.0) B
    one-in = standard.all monomials.one (length_one n) (one_standard k n θ ds primaries)

    -- where a power lies outside there is a standard monomial of its degree
    module _ (i d : ℕ) (within : i < n) (outside : ¬ InIdeal k θ (variable_power k i d)) where
      of-form : (u : Vect k) × IsCoordinates k n θ (variable_power k i d) u × IsForm k (replicate n 1 ++ ds) d u
      of-form = form_coordinates k n ds θ primaries d (variable_power k i d) (power-form i d within) (power-short i d within)

      u : Vect k
      u = of-form.0

      all-marked : unmarked k n of-form.0 ≡ zero_vector k → Supp k (HasMark n) of-form.0
      all-marked none t c = at (in_variables k n t)
        where
          at : Dec (length t.1.0 ≤ n) → HasMark n t
          at (yes short) = absurd (c (sym (select_inside k (in_variables k n) of-form.0 t short) ∙ ap (λ v. coef_at k v t) none ∙ coef_at_zero k t))
          at (no long) = omega arith

      at-lead : (t : Key) → LeadBy k plain (unmarked k n of-form.0) t → d < length B
      unfolding coef_at
      at-lead t l =
          let short = supp_select k (in_variables k n) of-form.0 t l.there in
          let c : ¬ (coef_at k of-form.0 t ≡ (scalars k).zero) = λ z. l.there (select_inside k (in_variables k n) of-form.0 t short ∙ z) in
          let std : IsStandard k n θ t.1 = subst (IsStandard k n θ) (variable_part_same n t.1 short) (of-form.1.standard t c) in
          let below = total_below k n θ B standard (exponents n t.1.0) (standard.all t.1 short std) in
          let wide = length_exponents n t.1.0 in
          let whole : weight (replicate n 1) 0 t.1.0 ≡ total (exponents n t.1.0) =
          ap (λ (m : Mon). weight (replicate n 1) 0 m.0) (sym (mono_exponents n t.1 short)) ∙ total_weight n (exponents n t.1.0) (omega arith) in
          let same : key_weight (replicate n 1 ++ ds) t ≡ d = (of-form.2 t c).1 in
          let variables = weight_variables n ds 0 t.1.0 short in
          omega arith

      pub outside-low : d < length B
      unfolding zero_vector
      outside-low = go (has_lead (scalars k) (is_field k) key_same plain (unmarked k n of-form.0))
        where
          power : unmarked k n of-form.0 ≡ zero_vector k → IsPower k n θ i (d, of-form.0)
          power none = record { mixed = of-form.1.mixed; marks = all-marked none; value = of-form.1.value }

          go : HasLead (scalars k) (is_field k) key_same plain (unmarked k n of-form.0) → d < length B
          go (inl none) = absurd (outside (power_inside k n ds θ primaries i within (d, of-form.0) (power none)))
          go (inr l) = at-lead l.0 l.1

    pub exponent-between : (i e : ℕ) → i < n → IsLeastExponent k θ i e → (1 ≤ e) × (e ≤ length B)
    exponent-between i zero within h = absurd (one-outside i h.inside)
    exponent-between i (suc d) within h =
        let low = outside-low i d within (λ inside. let l = h.least d inside in absurd (omega arith)) in
        (omega arith, omega arith)
