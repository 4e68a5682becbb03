-- The condition on the powers of the variables, by the powers of the program in the space with marks.
use Rattle.std.proofs.Common.{◌≡◌, ◌∙◌, ℕ, ◌+◌, ◌-◌, ◌<◌, ◌≤◌, List, length, inl, refl, sym, subst, arith}
use Rattle.std.specs.Prelude.{All, Some, slice_get, slice_index_or}
use Rattle.std.proofs.lemmas.List.{length-map}
use Rattle.std.proofs.lemmas.List.Elements.{All-weaker}
use Rattle.alg_core.specs.Fields.{FieldOn}
use Rattle.alg_core.specs.Spaces.{SpaceOver}
use Rattle.alg_core.specs.Vectors.{Vect, zero_vector}
use Rattle.alg_core.specs.declared.limits.Limits.{Limits}
use Rattle.alg_core.specs.declared.term.Term.{Term}
use Rattle.poly_module.specs.SpaceVectors.{vectors_of}
use Rattle.lin_algebra.specs.declared.matrix.Matrix.{Matrix}
use Rattle.finite_certificate.specs.Finiteness.{FiniteBy, IsPower, IsPowerAt, IsFirstFailure, IsLowPower, powers_of}
use Rattle.finite_certificate.specs.declared.power.Power.{Power}
use Rattle.certificate_io.specs.Certificates.{CertificateOf}
use Rattle.cert_check.specs.Conditions.{Primaries, Powers, LiftBasis, K2, K4}
use Rattle.cert_check.specs.Endings.{IsGiven, IsMarkedOf, IsTold}
use Rattle.cert_check.specs.Parts.{size, polynomial, primaries, powers}
use Rattle.cert_check.specs.SmallPolynomials.{most_degree, IsSmallPoly}
use Rattle.cert_check.specs.WellFormed.{marked}
use Rattle.cert_check.specs.Work.{Reached}
use Rattle.cert_check.specs.declared.ending.Ending.TheVariants.{Rejected}
use Rattle.cert_check.proofs.CheckedPrimaries.{up, down}
use Rattle.cert_check.proofs.GivenParts.{given_well, given_powers}
use Rattle.cert_check.proofs.MadeLists.{place_there}
use Rattle.cert_check.proofs.MadePlaces.{place_map, place_read, place_within}
use Rattle.cert_check.proofs.WorkSteps.{powers_passed, plain_fails}

abbrev Terms : Type 0
Terms = List (Term ℕ (List ℕ))

module _ (k : FieldOn ℕ) (c : CertificateOf ℕ) where
  abbrev power : Power ℕ → ℕ × Vect k
  power x = (x.exponent, polynomial k x.form)

  at_power : (j : ℕ) (x : Power ℕ) → slice_get c.powers j ≡ Some x → slice_index_or (powers k c) j (0, zero_vector k) ≡ (x.exponent, polynomial k x.form)
  at_power j x e = place_read (0, zero_vector k) (powers k c) j (power x) (place_map power c.powers j x e)

  same_place : (j i : ℕ) → i ≡ j + 1 → j ≡ i - 1
  same_place j i e = omega (arith, e)

  -- a power at its item
  pub power_met : (gens : List (Matrix ℕ)) (i : ℕ) → ((j : ℕ) → i ≡ j + 1 → j < length c.powers → IsPowerAt k (size c) (primaries k c) (powers k c) j) → K4 k gens c i
  power_met gens i h x at =
      subst (λ m. IsPower k (size c) (primaries k c) m (power x)) (same_place at.0 i at.1)
      (subst (IsPower k (size c) (primaries k c) at.0) (at_power at.0 x at.2) (h at.0 at.1 (place_within c.powers at.0 x at.2)))

  pub power_of_met : (gens : List (Matrix ℕ)) (j : ℕ) → j < length c.powers → K4 k gens c (j + 1) → IsPowerAt k (size c) (primaries k c) (powers k c) j
  power_of_met gens j h met =
      let there = place_there c.powers j h in
      subst (IsPower k (size c) (primaries k c) j) (sym (at_power j there.0 there.1))
      (subst (λ m. IsPower k (size c) (primaries k c) m (power there.0)) (sym (same_place j (j + 1) refl)) (met there.0 (j, refl, there.1)))

  -- the powers make the polynomials a finite module
  pub finite_met : length c.powers ≡ size c → (gens : List (Matrix ℕ)) → ((i : ℕ) → K4 k gens c i) → FiniteBy k (size c) (primaries k c) (powers k c)
  finite_met count gens met = record {
    count = length-map c.powers power ∙ count;
    powers = λ j h. power_of_met gens j (omega (arith, count, h)) (met (j + 1));
  }

module _ (S : SpaceOver ℕ) (gens : List (Matrix ℕ)) (c : CertificateOf ℕ) (l : Limits) (given : IsGiven S gens c) (reached : Reached S.field gens c l (Powers, 0))
    (T : SpaceOver ℕ) (m : ℕ) (es : List ℕ) (beside : IsMarkedOf c S T m es) where
  abbrev k : FieldOn ℕ
  k = S.field

  primaries_met : (j : ℕ) → K2 S.field gens c j
  primaries_met j = reached.met Primaries j (inl (omega arith))

  count : length c.powers ≡ size c
  count = (given_well S gens c given).power_each

  pub powers_count : length c.powers ≡ m
  powers_count = count ∙ sym beside.variables

  pub low_powers : All (IsLowPower T) c.powers
  low_powers = up S gens c given primaries_met T m es beside (λ U i ws. All (IsLowPower U) c.powers)
      (All-weaker (λ x. (x.exponent ≤ most_degree) × IsSmallPoly (marked k c) x.form) (IsLowPower (marked k c)) low-one c.powers (given_powers S gens c given))
    where
      low-one : (x : Power ℕ) → (x.exponent ≤ most_degree) × IsSmallPoly (marked k c) x.form → IsLowPower (marked k c) x
      low-one x h = record { exponent = let a = h.0 in omega arith; poly = h.1.poly; low = λ t e. let a = h.1.up_to t e in omega arith }

  module _ (θ : List Terms) (same : vectors_of T (λ m. m) θ ≡ vectors_of T (λ m. m) c.primaries) where
    moved : (Q : (k : FieldOn ℕ) → ℕ → List (Vect k) → List (ℕ × Vect k) → Type 0) → Q T.field m (vectors_of T (λ m. m) θ) (powers_of T c.powers) → Q k (size c) (primaries k c) (powers k c)
    moved Q h = subst (λ vs. Q k (size c) vs (powers k c)) (down S gens c given primaries_met T m es beside (λ U i ws. vectors_of U (λ m. m) θ ≡ vectors_of U (λ m. m) c.primaries) same)
        (down S gens c given primaries_met T m es beside (λ U i ws. Q U.field i (vectors_of U (λ m. m) θ) (powers_of U c.powers)) h)

    pub powers_hold : FiniteBy T.field m (vectors_of T (λ m. m) θ) (powers_of T c.powers) → Reached S.field gens c l (LiftBasis, 0)
    powers_hold h =
        let f = moved (λ k n vs ps. FiniteBy k n vs ps) h in
        powers_passed k gens c l reached (λ i. power_met k c gens i (λ j e w. f.powers j (omega (arith, count, w))))

    pub powers_fail : (i : ℕ) → IsFirstFailure T.field m (vectors_of T (λ m. m) θ) (powers_of T c.powers) i → IsTold c l (Rejected 4 i)
    powers_fail i h =
        let f = moved (λ k n vs ps. IsFirstFailure k n vs ps i) h in
        let item = f.from_one in
        let within = f.within in
        let fails = plain_fails k gens c l Powers i (λ e. omega (arith, e)) (λ e. omega (arith, e)) (λ e. omega (arith, e)) reached
        (λ j low. power_met k c gens j (λ x e w. f.before x (omega (arith, e, low, item))))
        (λ met. f.fails (power_of_met k c gens f.place (omega (arith, count, item, within)) (subst (K4 k gens c) (sym item) met))) in
        (Powers, refl, record { field = k; matrices = gens; well_formed = given_well S gens c given; fails = fails })
