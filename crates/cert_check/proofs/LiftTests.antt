-- The condition on the lifts, by a test of each of them.
use Rattle.std.proofs.Common.{◌≡◌, ◌∙◌, ◌++◌, ℕ, suc, List, [], ◌∷◌, length, inl, refl, sym, ap, subst, arith}
use Rattle.std.specs.Prelude.{◌↔◌, ◌==◌, All, Bool, IsTrue, Some}
use Rattle.std.proofs.lemmas.Bool.Decides.{nat_tests}
use Rattle.std.proofs.lemmas.List.Elements.{All-weaker}
use Rattle.alg_core.specs.Fields.{FieldOn}
use Rattle.alg_core.specs.SpaceGrading.{height}
use Rattle.alg_core.specs.Spaces.{SpaceOver}
use Rattle.alg_core.specs.Vectors.{Vect, zero_vector}
use Rattle.alg_core.specs.declared.limits.Limits.{Limits}
use Rattle.alg_core.specs.declared.term.Term.{Term}
use Rattle.poly_module.specs.Combinations.{mark_value}
use Rattle.poly_module.specs.Forms.{form_homogeneous, homogeneous_form}
use Rattle.poly_module.specs.SpaceVectors.{ArePolys, IsPoly, IsPolyOf, vector_of, vectors_of}
use Rattle.poly_module.specs.Substitutions.{substitute}
use Rattle.poly_module.specs.Variables.{variables}
use Rattle.poly_module.proofs.SpaceVectorLaws.{is_polynomial, poly_of}
use Rattle.lin_algebra.specs.declared.matrix.Matrix.{Matrix}
use Rattle.secondary_gens.proofs.OverSteps.{terms_zero, zero_terms}
use Rattle.certificate_io.specs.Certificates.{CertificateOf}
use Rattle.cert_check.specs.Conditions.{Primaries, Lifts, Powers, Meets, IsNonzeroForm, K2}
use Rattle.cert_check.specs.Endings.{IsGiven, IsMarkedOf, IsFirstFailing, IsTold}
use Rattle.cert_check.specs.EvidenceLines.{AreLowTerms}
use Rattle.cert_check.specs.FormTests.{IsFormFrom, IsLiftAt}
use Rattle.cert_check.specs.Parts.{size, ones, degrees, polynomial, primaries}
use Rattle.cert_check.specs.SmallPolynomials.{IsSmallPoly}
use Rattle.cert_check.specs.WellFormed.{marked}
use Rattle.cert_check.specs.Work.{Reached}
use Rattle.cert_check.specs.declared.ending.Ending.TheVariants.{Rejected}
use Rattle.cert_check.proofs.EvidenceGiven.{given_width, given_degrees, low_poly}
use Rattle.cert_check.proofs.GivenParts.{given_lifts, given_well}
use Rattle.cert_check.proofs.InvariantForms.{items_up, items_down, first_told}
use Rattle.cert_check.proofs.KernelItems.{images_count}
use Rattle.cert_check.proofs.WordItems.{Item}
use Rattle.cert_check.proofs.WorkSteps.{lifts_passed}

abbrev Terms : Type 0
Terms = List (Term ℕ (List ℕ))

-- whether a list has no member
zero-length : (b : Bool) (m : ℕ) → m ≡ 0 → b ≡ (m == 0) → IsTrue b
zero-length b m e is = grind (arith, nat_tests)

more-length : (b : Bool) (m n : ℕ) → m ≡ suc n → b ≡ (m == 0) → ¬ IsTrue b
more-length b m n e is h = grind (arith, nat_tests)

pub nothing_left : (value seen : Terms) (b : Bool) → seen ≡ value → b ≡ (length seen == 0) → IsTrue b ↔ (value ≡ [])
nothing_left [] seen b same is = (λ h. refl, λ e. zero-length b (length seen) (ap length same) is)
nothing_left (t ∷ ts) seen b same is = (λ h. absurd (more-length b (length seen) (length ts) (ap length same) is h), λ e. absurd cc)

-- a value without terms is 0
pub lift_exact : (S M : SpaceOver ℕ) (images : List Terms) (f value : Terms) (b : Bool)
    → IsFormFrom M 0 (vector_of M (λ m. m) f) → IsPolyOf S (λ m. m) (substitute S.field (vectors_of S (λ m. m) images) (vector_of S (λ m. m) f)) value
    → IsTrue b ↔ (value ≡ []) → IsTrue b ↔ IsLiftAt S M images f
lift_exact S M images f value b form is empty = (
  λ h. (form, sym is.is ∙ zero_terms S value (empty.0 h)),
  λ h. empty.1 (terms_zero S value (poly_of S (λ (m : List ℕ). m) _ value is) (is.is ∙ h.1)),
)

module _ (S : SpaceOver ℕ) (gens : List (Matrix ℕ)) (c : CertificateOf ℕ) (l : Limits) (given : IsGiven S gens c) (reached : Reached S.field gens c l (Lifts, 0))
    (M : SpaceOver ℕ) (n : ℕ) (ds : List ℕ) (beside : IsMarkedOf c S M n ds) where
  abbrev k : FieldOn ℕ
  k = S.field

  primaries-met : (j : ℕ) → K2 S.field gens c j
  primaries-met j = reached.met Primaries j (inl (omega arith))

  pub small_lifts : All (IsSmallPoly M) c.lifts
  small_lifts = subst (λ T. All (IsSmallPoly T) c.lifts) (sym beside.is) (given_lifts S gens c given)

  module _ (images : List Terms) (polys : ArePolys S (λ m. m) images) (are : vectors_of S (λ m. m) images ≡ variables S.field (length S.weights) ++ vectors_of S (λ m. m) c.primaries) where
    pub low_lifts : All (AreLowTerms S.field (length images)) c.lifts
    low_lifts = subst (λ (m : ℕ). All (AreLowTerms S.field m) c.lifts) (sym (images_count S gens c given images polys are))
        (All-weaker (IsSmallPoly (marked k c)) (AreLowTerms k _) (λ v h. low_poly S gens c given (given_degrees S gens c given primaries-met) v h) c.lifts (given_lifts S gens c given))

    values-are : vectors_of S (λ m. m) images ≡ variables k (size c) ++ primaries k c
    values-are = are ∙ ap (λ (m : ℕ). variables k m ++ vectors_of S (λ m. m) c.primaries) (given_width S gens c given)

    abbrev IsLift : Vect k → Type 0
    IsLift v = IsNonzeroForm k (ones c ++ degrees c) v × (mark_value k (size c) (primaries k c) v ≡ zero_vector k)

    lift-up : (f : Terms) → IsPoly (marked k c) (λ m. m) f → IsLiftAt S M images f → IsLift (polynomial k f)
    unfolding height
    lift-up f p h =
        let t = subst (λ T. IsLiftAt S T images f) beside.is h in
        let v = polynomial k f in (
          record { not_zero = t.0.not_zero; degree = t.0.degree; form = homogeneous_form (marked k c) refl t.0.degree v (is_polynomial (marked k c) (λ (m : List ℕ). m) f p) t.0.homogeneous },
          sym (ap (λ vs. substitute k vs v) values-are) ∙ t.1,
        )

    lift-down : (f : Terms) → IsPoly (marked k c) (λ m. m) f → IsLift (polynomial k f) → IsLiftAt S M images f
    unfolding height
    lift-down f p h =
        let v = polynomial k f in
        subst (λ T. IsLiftAt S T images f) (sym beside.is) (
          record { not_zero = h.0.not_zero; degree = h.0.degree; from = omega arith; homogeneous = form_homogeneous (marked k c) refl h.0.degree v h.0.form },
          ap (λ vs. substitute k vs v) values-are ∙ h.1,
        )

    lifts-up : (j : ℕ) → Item (IsLiftAt S M images) c.lifts j → Meets k gens c Lifts j
    lifts-up = items_up (polynomial k) c.lifts (IsPoly (marked k c) (λ m. m)) (IsLiftAt S M images) IsLift (given_well S gens c given).lifts lift-up

    lifts-down : (j : ℕ) → Meets k gens c Lifts j → Item (IsLiftAt S M images) c.lifts j
    lifts-down = items_down (polynomial k) c.lifts (IsPoly (marked k c) (λ m. m)) (IsLiftAt S M images) IsLift (given_well S gens c given).lifts lift-down

    pub lifts_hold : ((j : ℕ) → Item (IsLiftAt S M images) c.lifts j) → Reached S.field gens c l (Powers, 0)
    lifts_hold h = lifts_passed k gens c l reached (λ j. lifts-up j (h j))

    pub lifts_told : (i : ℕ) → IsFirstFailing (Item (IsLiftAt S M images) c.lifts) (Some i) → IsTold c l (Rejected 3 i)
    lifts_told = first_told S gens c l given Lifts (λ e. omega (arith, e)) (λ e. omega (arith, e)) (λ e. omega (arith, e)) (Item (IsLiftAt S M images) c.lifts) lifts-up lifts-down reached
