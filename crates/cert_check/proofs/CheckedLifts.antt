-- The condition on the lifts, by the lists of the program in the space with marks.
use Rattle.std.proofs.Common.{◌≡◌, ◌∙◌, ◌↔◌, ℕ, ◌+◌, ◌<◌, List, [], ◌∷◌, ◌++◌, length, take, get_or, inl, refl, sym, ap, subst, arith}
use Rattle.std.specs.Prelude.{All, IsTrue, Bool}
use Rattle.std.proofs.lemmas.List.{take_more}
use Rattle.std.proofs.lemmas.List.Elements.{All-push, All-weaker}
use Rattle.alg_core.specs.Fields.{FieldOn, scalars, is_field}
use Rattle.alg_core.specs.Keys.{Key, key, key_same}
use Rattle.alg_core.specs.Leads.{lead_unique}
use Rattle.alg_core.specs.Lists.{In, map_in}
use Rattle.alg_core.specs.SpaceOrder.{key_order}
use Rattle.alg_core.specs.Monomials.{mono}
use Rattle.alg_core.specs.Spaces.{SpaceOver, place}
use Rattle.alg_core.specs.Vectors.{Vect, zero_vector, coef_at}
use Rattle.alg_core.specs.declared.limits.Limits.{Limits}
use Rattle.alg_core.specs.declared.term.Term.{Term}
use Rattle.alg_core.proofs.Members.{from_map}
use Rattle.alg_core.proofs.VectorLaws.{coef_at_zero}
use Rattle.poly_module.specs.Marks.{relations}
use Rattle.poly_module.specs.Modules.{LeadBy, listed}
use Rattle.poly_module.specs.ReducedLists.{IsReducedBasis}
use Rattle.poly_module.specs.SpaceVectors.{IsVector, AreVectors, IsUpTo, vector_of, vectors_of}
use Rattle.lin_algebra.specs.declared.matrix.Matrix.{Matrix}
use Rattle.module_groebner.specs.HomogeneousLists.{AreUpTo, cap_limit}
use Rattle.module_groebner.proofs.Families.{all_in}
use Rattle.finite_certificate.specs.MarkSpaces.{HasMark}
use Rattle.groebner_hom.specs.Lifts.{AreLifts, LeadsWithoutMarks}
use Rattle.groebner_hom.proofs.PolynomialLists.{all_map}
use Rattle.certificate_io.specs.Certificates.{CertificateOf}
use Rattle.cert_check.specs.Conditions.{Primaries, LiftBasis, Rank, HasLifts, K2}
use Rattle.cert_check.specs.Endings.{IsGiven, IsMarkedOf, IsTold}
use Rattle.cert_check.specs.Parts.{size, primaries, lifts}
use Rattle.cert_check.specs.SmallPolynomials.{IsSmallPoly}
use Rattle.cert_check.specs.WellFormed.{marked}
use Rattle.cert_check.specs.Work.{Reached}
use Rattle.cert_check.specs.declared.ending.Ending.TheVariants.{Rejected}
use Rattle.cert_check.proofs.CheckedPrimaries.{up, down}
use Rattle.cert_check.proofs.GivenParts.{given_well, given_lifts}
use Rattle.cert_check.proofs.WorkSteps.{basis_passed, plain_fails}

-- leads of lists of terms
module _ {E : Type 0} (S : SpaceOver E) (n : ℕ) where
  abbrev TermsOf : Type 0
  TermsOf = List (Term E (List ℕ))

  abbrev pub MarkedLead : TermsOf → Type 0
  MarkedLead f = (t : Key) × LeadBy S.field (key_order S) (vector_of S (λ m. m) f) t × HasMark n t

  abbrev pub HasNoMarkedLead : TermsOf → Type 0
  HasNoMarkedLead f = ¬ MarkedLead f

  pub zero_lead : (f : TermsOf) → vector_of S (λ m. m) f ≡ zero_vector S.field → HasNoMarkedLead f
  unfolding coef_at
  zero_lead f zero h = h.1.there (ap (λ v. coef_at S.field v h.0) zero ∙ coef_at_zero S.field h.0)

  -- the lead is a given term
  pub lead_exact : (f : TermsOf) (t : Term E (List ℕ)) (b : Bool) → LeadBy S.field (key_order S) (vector_of S (λ m. m) f) (key (place (λ m. m) t.at))
      → IsTrue b ↔ HasMark n (0, mono t.at.mono) → IsTrue b ↔ MarkedLead f
  unfolding key
  lead_exact f t b lead exact = (
    λ h. (key (place (λ m. m) t.at), lead, exact.0 h),
    λ h. exact.1 (subst (HasMark n) (lead_unique (scalars S.field) (is_field S.field) key_same (key_order S) (vector_of S (λ m. m) f) h.0 (key (place (λ m. m) t.at)) h.1 lead) h.2),
  )

  pub unmarked_more : (fs : List TermsOf) (i : ℕ) (f : TermsOf) → i < length fs → f ≡ get_or fs i f → HasNoMarkedLead f → All HasNoMarkedLead (take i fs)
      → All HasNoMarkedLead (take (i + 1) fs)
  unmarked_more fs i f below read none all =
      subst (All HasNoMarkedLead) (sym (take_more fs i f below ∙ ap (λ x. take i fs ++ x ∷ []) (sym read))) (All-push HasNoMarkedLead (take i fs) f all none)

  pub leads_unmarked : (fs : List TermsOf) → All HasNoMarkedLead fs → LeadsWithoutMarks S n (vectors_of S (λ m. m) fs)
  leads_unmarked fs all v t i lead mark =
      let x = from_map (vector_of S (λ m. m)) v fs i in
      all_in HasNoMarkedLead fs all x.0 x.1 (t, subst (λ w. LeadBy S.field (key_order S) w t) (sym x.2) lead, mark)

  pub marked_lead : (fs : List TermsOf) (f : TermsOf) → In f fs → MarkedLead f → ¬ LeadsWithoutMarks S n (vectors_of S (λ m. m) fs)
  marked_lead fs f i h none = none (vector_of S (λ m. m) f) h.0 (map_in (vector_of S (λ m. m)) f fs i) h.1 h.2

  -- the reduced basis of the relations, where no lead has a mark
  pub basis_exact : (θ ls : List (Vect S.field)) (rs : List (Vect S.field)) (b : Bool) → rs ≡ relations S.field n θ → IsTrue b ↔ IsReducedBasis S (listed S.field rs) ls
      → LeadsWithoutMarks S n ls → IsTrue b ↔ (AreLifts S n θ ls × LeadsWithoutMarks S n ls)
  basis_exact θ ls rs b same exact leads = (
    λ h. (subst (λ l. IsReducedBasis S (listed S.field l) ls) same (exact.0 h), leads),
    λ h. exact.1 (subst (λ l. IsReducedBasis S (listed S.field l) ls) (sym same) h.0),
  )

  -- of lists that are seen through slices
  pub seen_exact : (φ θ ms ls : List TermsOf) → φ ≡ θ → ms ≡ ls → (b : Bool)
      → IsTrue b ↔ (AreLifts S n (vectors_of S (λ m. m) φ) (vectors_of S (λ m. m) ms) × LeadsWithoutMarks S n (vectors_of S (λ m. m) ms))
      → IsTrue b ↔ (AreLifts S n (vectors_of S (λ m. m) θ) (vectors_of S (λ m. m) ls) × LeadsWithoutMarks S n (vectors_of S (λ m. m) ls))
  seen_exact φ θ ms ls e f b exact =
      subst (λ vs. IsTrue b ↔ (AreLifts S n (vectors_of S (λ m. m) θ) (vectors_of S (λ m. m) vs) × LeadsWithoutMarks S n (vectors_of S (λ m. m) vs))) f
      (subst (λ vs. IsTrue b ↔ (AreLifts S n (vectors_of S (λ m. m) vs) (vectors_of S (λ m. m) ms) × LeadsWithoutMarks S n (vectors_of S (λ m. m) ms))) e exact)

module _ (S : SpaceOver ℕ) (gens : List (Matrix ℕ)) (c : CertificateOf ℕ) (l : Limits) (given : IsGiven S gens c) (reached : Reached S.field gens c l (LiftBasis, 0))
    (T : SpaceOver ℕ) (m : ℕ) (es : List ℕ) (beside : IsMarkedOf c S T m es) where
  abbrev k : FieldOn ℕ
  k = S.field

  primaries_met : (j : ℕ) → K2 S.field gens c j
  primaries_met j = reached.met Primaries j (inl (omega arith))

  pub small_lifts : All (IsSmallPoly T) c.lifts
  small_lifts = up S gens c given primaries_met T m es beside (λ U i ws. All (IsSmallPoly U) c.lifts) (given_lifts S gens c given)

  pub lift_vectors : AreVectors T (λ m. m) c.lifts
  lift_vectors = All-weaker (IsSmallPoly T) (IsVector T (λ m. m)) (λ p h. h.poly.fits) c.lifts small_lifts

  pub lift_degrees : AreUpTo T cap_limit (vectors_of T (λ m. m) c.lifts)
  lift_degrees = all_map (IsSmallPoly T) (IsUpTo T cap_limit) (vector_of T (λ m. m)) (λ p h t a. let u = h.up_to t a in omega arith) c.lifts small_lifts

  module _ (θ : List (List (Term ℕ (List ℕ)))) (same : vectors_of T (λ m. m) θ ≡ vectors_of T (λ m. m) c.primaries) where
    abbrev AreSo : SpaceOver ℕ → ℕ → List ℕ → Type 0
    AreSo U i ws = AreLifts U i (vectors_of U (λ m. m) θ) (vectors_of U (λ m. m) c.lifts) × LeadsWithoutMarks U i (vectors_of U (λ m. m) c.lifts)

    abbrev M : SpaceOver ℕ
    M = marked S.field c

    same-marked : vectors_of (marked S.field c) (λ m. m) θ ≡ primaries k c
    same-marked = down S gens c given primaries_met T m es beside (λ U i ws. vectors_of U (λ m. m) θ ≡ vectors_of U (λ m. m) c.primaries) same

    lifts-of : AreSo T m es → HasLifts k gens c
    lifts-of h =
        let d = down S gens c given primaries_met T m es beside AreSo h in
        record { basis = subst (λ vs. AreLifts M (size c) vs (lifts k c)) same-marked d.0; leads = d.1 }

    of-lifts : HasLifts k gens c → AreSo T m es
    of-lifts h = up S gens c given primaries_met T m es beside AreSo (subst (λ vs. AreLifts M (size c) vs (lifts k c)) (sym same-marked) h.basis, h.leads)

    module _ (b : Bool) (exact : IsTrue b ↔ (AreLifts T m (vectors_of T (λ m. m) θ) (vectors_of T (λ m. m) c.lifts) × LeadsWithoutMarks T m (vectors_of T (λ m. m) c.lifts))) where
      pub lifts_hold : IsTrue b → Reached S.field gens c l (Rank, 0)
      lifts_hold h = basis_passed k gens c l reached (λ i e. lifts-of (exact.0 h))

      pub lifts_fail : ¬ IsTrue b → IsTold c l (Rejected 5 0)
      lifts_fail h =
          let fails = plain_fails k gens c l LiftBasis 0 (λ e. omega (arith, e)) (λ e. omega (arith, e)) (λ e. omega (arith, e)) reached
          (λ j low e. absurd (omega (arith, low))) (λ met. h (exact.1 (of-lifts (met refl)))) in
          (LiftBasis, refl, record { field = k; matrices = gens; well_formed = given_well S gens c given; fails = fails })
