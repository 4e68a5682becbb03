-- A power of a variable outside of an ideal in which each variable has a power, and how great its exponent can be.
use Rattle.std.proofs.Common.{◌≡◌, ◌∙◌, ◌+◌, ◌*◌, ◌<◌, ◌≤◌, ℕ, zero, suc, List, [], ◌∷◌, ◌++◌, length, replicate, refl, sym, ap, ap₂, subst, append-nil, inl, inr, arith}
use native.Mathlib.Decide.{ℕ_discrete, dec_le}
use Rattle.alg_core.specs.CommonMultiples.{divides_exponents, exponents_divide}
use Rattle.alg_core.specs.Fields.{FieldOn, scalars, is_field}
use Rattle.alg_core.specs.KeyOrders.{OrderOn}
use Rattle.alg_core.specs.Keys.{Key, key_same, KeyDivides}
use Rattle.alg_core.specs.Leads.{HasLead, has_lead}
use Rattle.alg_core.specs.Lists.{In}
use Rattle.alg_core.specs.Monomials.{Mon, monomials, mono, exponent, exponent_mono}
use Rattle.alg_core.specs.SpaceGrading.{weight, height, degree}
use Rattle.alg_core.specs.SpaceOrder.{key_order}
use Rattle.alg_core.specs.Spaces.{SpaceOver, entry, entries}
use Rattle.alg_core.specs.Vectors.{Vect, zero_vector, coef_at}
use Rattle.alg_core.specs.declared.term.Term.{Term}
use Rattle.alg_core.proofs.FittingLists.{vec_not_zero}
use Rattle.alg_core.proofs.VectorLaws.{coef_at_zero}
use Rattle.poly_module.specs.Degrees.{IsHomogeneous}
use Rattle.poly_module.specs.Modules.{LeadBy, listed}
use Rattle.poly_module.specs.MonomialVariables.{after_zeros}
use Rattle.poly_module.specs.Parts.{IsPolynomial, supp_single, supp_zero}
use Rattle.poly_module.specs.Polynomials.{single_vector}
use Rattle.poly_module.specs.SpaceVectors.{IsPositive, IsVector, vector_of, vectors_of}
use Rattle.poly_module.proofs.FittingKeys.{vec_in_variables}
use Rattle.poly_module.proofs.Reduced.{listed_has}
use Rattle.poly_module.proofs.SpaceVectorLaws.{minus_unique, supp_minus}
use Rattle.module_groebner.specs.HomogeneousLists.{IsHomogeneousUpTo}
use Rattle.module_groebner.specs.Remainders.{IsRemainder, KeepsDegrees}
use Rattle.module_groebner.proofs.Families.{all_in}
use Rattle.module_groebner.proofs.Remainders.{single_lead, remainder_difference}
use Rattle.finite_certificate.specs.Ideals.{InIdeal, variable_power}
use Rattle.finite_certificate.proofs.MarkDegrees.{power_degree}
use Rattle.finite_certificate.proofs.VariablePowers.{power_single}
use Rattle.groebner_hom.specs.Exponents.{exponent_cap, HasUnitDegrees, IsEndedBasis}
use Rattle.groebner_hom.proofs.PolynomialLists.{are_homogeneous, are_homogeneous_up_to, are_polynomials, ideal_polynomials}

-- an exponent is at most the degree
pub exponent_low : (n i : ℕ) (a : List ℕ) (j : ℕ) → j < n → exponent a j ≤ weight (replicate n 1) i a
unfolding weight
exponent_low zero i a j h = absurd (omega arith)
exponent_low (suc n) i [] j h = omega arith
exponent_low (suc n) i (x ∷ a) zero h = omega arith
exponent_low (suc n) i (x ∷ a) (suc j) h = let r = exponent_low n (suc i) a j (omega arith) in omega arith

-- and the degree at most the sum of the exponents' bounds
pub weight_bound : (n i : ℕ) (a : List ℕ) (c : ℕ) → length a ≤ n → ((j : ℕ) → j < n → exponent a j ≤ c) → weight (replicate n 1) i a ≤ n * c
unfolding weight
weight_bound n i [] c short each = omega arith
weight_bound zero i (x ∷ a) c short each = absurd (omega arith)
weight_bound (suc n) i (x ∷ a) c short each =
    let r = weight_bound n (suc i) a c (omega arith) (λ j h. each (suc j) (omega arith)) in
    let f : x ≤ c = each 0 (omega arith) in
    omega arith

-- no other variable has an exponent in a power of a variable
pub exponent_elsewhere : (i e j : ℕ) → ¬ (j ≡ i) → exponent (after_zeros i (e ∷ [])) j ≡ 0
unfolding after_zeros
exponent_elsewhere zero e zero n = absurd (n refl)
exponent_elsewhere zero e (suc j) n = refl
exponent_elsewhere (suc i) e zero n = refl
exponent_elsewhere (suc i) e (suc j) n = exponent_elsewhere i e j (λ p. n (ap suc p))

module _ {E : Type 0} (S : SpaceOver E) (positive : IsPositive S) (unit : HasUnitDegrees S) where
  abbrev k : FieldOn E
  k = S.field

  abbrev o : OrderOn Key
  o = key_order S

  abbrev n : ℕ
  n = length S.weights

  abbrev power_key : ℕ → ℕ → Key
  power_key i e = (0, mono (after_zeros i (e ∷ [])))

  -- the degree of a key at position 0
  plain_degree : (t : Key) → t.0 ≡ 0 → degree S t ≡ weight (replicate (length S.weights) 1) 0 t.1.0
  unfolding degree
  plain_degree t z =
      let w : weight S.weights 0 t.1.0 ≡ weight (replicate (length S.weights) 1) 0 t.1.0 = ap (λ ws. weight ws 0 t.1.0) unit.ones in
      let h : height S.shifts t.0 ≡ 0 = ap (height S.shifts) z ∙ unit.shift in
      omega arith

  power_key_degree : (i e : ℕ) → i < length S.weights → degree S (power_key i e) ≡ e
  power_key_degree i e h = plain_degree (power_key i e) refl
      ∙ subst (λ ws. weight ws 0 (mono (after_zeros i (e ∷ []))).0 ≡ e) (append-nil (replicate (length S.weights) 1)) (power_degree (length S.weights) i e [] h)

  pub power_homogeneous : (i e : ℕ) → i < length S.weights → IsHomogeneous S e (variable_power S.field i e)
  power_homogeneous i e h = subst (IsHomogeneous S e) (sym (power_single k i e)) (supp_single k (λ t. degree S t ≡ e) (power_key i e) (power_key_degree i e h))

  power_polynomial : (i e : ℕ) → IsPolynomial S.field (variable_power S.field i e)
  power_polynomial i e = subst (IsPolynomial k) (sym (power_single k i e)) (supp_single k (λ t. t.0 ≡ 0) (power_key i e) refl)

  module _ (ps : List (List (Term E (List ℕ)))) (basis : IsEndedBasis S ps) where
    abbrev ws : List (Vect S.field)
    ws = vectors_of S (λ m. m) ps

    abbrev g : ℕ → Vect S.field
    g = listed k ws

    homogeneous_at : (i : ℕ) → IsHomogeneousUpTo S exponent_cap (listed S.field (vectors_of S (λ m. m) ps) i)
    homogeneous_at = listed_has k (IsHomogeneousUpTo S exponent_cap) (0, omega arith, supp_zero k (λ t. degree S t ≡ 0)) ws
        (all_in (IsHomogeneousUpTo S exponent_cap) ws (are_homogeneous_up_to S exponent_cap ps basis.polynomials))

    lead_low : (i : ℕ) (s : Key) → LeadBy S.field (key_order S) (listed S.field (vectors_of S (λ m. m) ps) i) s → degree S s ≤ exponent_cap
    unfolding coef_at
    lead_low i s l = let h = homogeneous_at i in let e = h.2 s l.there in let low = h.1 in omega arith

    -- where no lead divides a monomial its exponents are small
    exponent_bound : (t : Key) → t.0 ≡ 0 → ((i : ℕ) (s : Key) → LeadBy S.field (key_order S) (listed S.field (vectors_of S (λ m. m) ps) i) s → ¬ KeyDivides s t)
        → (j : ℕ) → j < length S.weights → exponent t.1.0 j ≤ exponent_cap
    exponent_bound t z irr j h = go (dec_le (exponent s.1.0 j) (exponent t.1.0 j))
      where
        p : (e : ℕ) × InIdeal S.field (vectors_of S (λ m. m) ps) (variable_power S.field j e)
        p = basis.ended j h

        lead : LeadBy k o (variable_power k j p.0) (power_key j p.0)
        lead = subst (λ v. LeadBy k o v (power_key j p.0)) (sym (power_single k j p.0)) (single_lead S positive.weights ws (λ i. let a = homogeneous_at i in (a.0, a.2)) (power_key j p.0))

        q : (i : ℕ) × (s : Key) × LeadBy S.field (key_order S) (listed S.field (vectors_of S (λ m. m) ps) i) s × KeyDivides s (power_key j p.0)
        q = basis.basis (variable_power k j p.0) (power_key j p.0) p.1 lead

        s : Key
        s = q.1

        first : s.0 ≡ 0
        first = ap (λ u. u.0) q.3.1

        others : (i : ℕ) → ¬ (i ≡ j) → exponent s.1.0 i ≤ exponent t.1.0 i
        others i other =
            let d = divides_exponents s.1 (power_key j p.0).1 (q.3.0, monomials.comm s.1 q.3.0 ∙ ap (λ u. u.1) q.3.1) i in
            let m = exponent_mono (after_zeros j (p.0 ∷ [])) i in
            let e = exponent_elsewhere j p.0 i other in
            omega arith

        divides : exponent s.1.0 j ≤ exponent t.1.0 j → KeyDivides s t
        divides low =
            let each : (i : ℕ) → exponent s.1.0 i ≤ exponent t.1.0 i = λ i. at i (ℕ_discrete i j) in
            let c = exponents_divide s.1 t.1 each in
            (c.0, ap₂ (λ i a. (i, a)) (first ∙ sym z) (monomials.comm c.0 s.1 ∙ c.1))
          where
            at : (i : ℕ) → Dec (i ≡ j) → exponent s.1.0 i ≤ exponent t.1.0 i
            at i (yes e) = subst (λ x. exponent s.1.0 x ≤ exponent t.1.0 x) (sym e) low
            at i (no e) = others i e

        go : Dec (exponent s.1.0 j ≤ exponent t.1.0 j) → exponent t.1.0 j ≤ exponent_cap
        go (yes low) = absurd (irr q.0 s q.2 (divides low))
        go (no more) =
            let a = lead_low q.0 s q.2 in
            let b = exponent_low (length S.weights) 0 s.1.0 j h in
            let c = plain_degree s first in
            omega arith

    -- a power that has a remainder has a small exponent
    module _ (i e : ℕ) (within : i < length S.weights) (r : List (Term E (List ℕ))) (fits : IsVector S (λ m. m) r)
        (rest : IsRemainder S (listed S.field (vectors_of S (λ m. m) ps)) (variable_power S.field i e) (vector_of S (λ m. m) r)) (degrees : KeepsDegrees S (variable_power S.field i e) (vector_of S (λ m. m) r)) where
      abbrev R : Vect S.field
      R = vector_of S (λ m. m) r

      polynomial : IsPolynomial S.field (vector_of S (λ m. m) r)
      polynomial =
          let w = remainder_difference S g (variable_power k i e) R rest in
          subst (IsPolynomial k) (sym (minus_unique k R (variable_power k i e) w.0 w.2))
          (supp_minus k (λ t. t.0 ≡ 0) (variable_power k i e) w.0 (power_polynomial i e) (ideal_polynomials S exponent_cap ps basis.polynomials w.0 w.1))

      at_lead : (t : Key) → LeadBy S.field (key_order S) (vector_of S (λ m. m) r) t → e ≤ length S.weights * exponent_cap
      unfolding coef_at
      at_lead t l =
          let z = polynomial t l.there in
          let d = degrees.homogeneous e (power_homogeneous i e within) t l.there in
          let p = plain_degree t z in
          let b = weight_bound (length S.weights) 0 t.1.0 exponent_cap (vec_in_variables S (entries (λ m. m) r) fits t l.there) (exponent_bound t z (λ m s ls. rest.irreducible m s t ls l.there)) in
          omega arith

      pub power_bound : 0 < length r → e ≤ length S.weights * exponent_cap
      unfolding zero_vector
      power_bound some = go (has_lead (scalars k) (is_field k) key_same o R)
        where
          nonzero : (l : List (Term E (List ℕ))) → IsVector S (λ m. m) l → 0 < length l → ¬ (vector_of S (λ m. m) l ≡ zero_vector k)
          nonzero [] f h = absurd (omega arith)
          nonzero (x ∷ l) f h = vec_not_zero S (entry (λ m. m) x) (entries (λ m. m) l) f

          go : HasLead (scalars k) (is_field k) key_same o R → e ≤ length S.weights * exponent_cap
          go (inl none) = absurd (nonzero r fits some none)
          go (inr l) = at_lead l.0 l.1
