-- What is known of the primary invariants of a certificate once their condition is met, in the space without marks and in the one with marks.
use Rattle.std.proofs.Common.{◌≡◌, ◌∙◌, ℕ, ◌<◌, ◌≤◌, List, [], ◌∷◌, length, replicate, inl, inr, refl, sym, subst, arith}
use Rattle.std.specs.Prelude.{All}
use Rattle.std.proofs.lemmas.List.Elements.{All-nil, All-cons, All-head, All-tail, All-weaker}
use Rattle.alg_core.specs.BlockOrder.{length_ones}
use Rattle.alg_core.specs.Fields.{FieldOn, Has, scalars, is_field}
use Rattle.alg_core.specs.Keys.{key_same}
use Rattle.alg_core.specs.Leads.{HasLead, has_lead}
use Rattle.alg_core.specs.Lists.{In}
use Rattle.alg_core.specs.SpaceGrading.{height}
use Rattle.alg_core.specs.SpaceOrder.{key_order}
use Rattle.alg_core.specs.Spaces.{SpaceOver, Fits, entries}
use Rattle.alg_core.specs.Vectors.{Entry, Vect, zero_vector, coef_at}
use Rattle.alg_core.specs.declared.term.Term.{Term}
use Rattle.poly_module.specs.Degrees.{IsHomogeneous}
use Rattle.poly_module.specs.Forms.{IsForm, form_homogeneous}
use Rattle.poly_module.specs.Parts.{InVariables}
use Rattle.poly_module.specs.SpaceVectors.{IsPoly, ArePolys, IsPositive, IsUpTo, vector_of, vectors_of}
use Rattle.poly_module.proofs.FittingKeys.{vec_in_variables}
use Rattle.lin_algebra.specs.declared.matrix.Matrix.{Matrix}
use Rattle.matrix_group.specs.Actions.{Invariant}
use Rattle.module_groebner.proofs.Families.{all_in}
use Rattle.finite_certificate.specs.Finiteness.{AreLow}
use Rattle.finite_certificate.specs.MarkSpaces.{IsMarkSpace, ArePositiveForms, degree_limit}
use Rattle.finite_certificate.proofs.ModuleTerms.{weight_variables}
use Rattle.secondary_gens.specs.Forms.{degree_of, IsSmallForm, IsPositiveForm}
use Rattle.irreducible_gens.specs.Irreducibles.{IsOfPositiveDegree}
use Rattle.certificate_io.specs.Certificates.{CertificateOf}
use Rattle.cert_check.specs.Conditions.{K2}
use Rattle.cert_check.specs.Endings.{IsGiven, IsMarkedOf}
use Rattle.cert_check.specs.Parts.{size, ones, degrees, polynomial, primaries}
use Rattle.cert_check.specs.SmallPolynomials.{most_degree, IsSmallPoly}
use Rattle.cert_check.specs.WellFormed.{IsWellFormed, plain, marked}
use Rattle.primary_module.specs.WiderTerms.{IsUnmarked}
use Rattle.cert_check.proofs.GivenParts.{given_well, given_primaries}
use Rattle.cert_check.proofs.HoldsParts.{all_at, primaries_in_variables}
use Rattle.cert_check.proofs.MadeForms.{degree_known, forms_known, positive_known, positive_proper}
use Rattle.cert_check.proofs.MadeLifts.{is_mark_space, marks_positive}

abbrev Terms : Type 0
Terms = List (Term ℕ (List ℕ))

-- a polynomial without marks
pub unmarked_poly : {E : Type 0} (S : SpaceOver E) (p : List (Term E (List ℕ))) → IsPoly S (λ m. m) p → IsUnmarked S.field (length S.weights) p
unmarked_poly {E} S p h = record { variables = record { values = values (entries (λ m. m) p) h.fits; wide = wide (entries (λ m. m) p) h.fits }; position = h.position }
  where
    values : (es : List (Entry E)) → Fits S es → All (λ e. Has S.field e.1) es
    values [] f = All-nil (λ e. Has S.field e.1)
    values (e ∷ es) f = All-cons (λ e. Has S.field e.1) e es f.0.has (values es f.2)

    wide : (es : List (Entry E)) → Fits S es → All (λ e. length e.0.1 ≡ length S.weights) es
    wide [] f = All-nil (λ e. length e.0.1 ≡ length S.weights)
    wide (e ∷ es) f = All-cons (λ e. length e.0.1 ≡ length S.weights) e es f.0.place.wide (wide es f.2)

-- a homogeneous vector but 0 has the degree of one of its keys
pub degree_within : {E : Type 0} (S : SpaceOver E) (most d : ℕ) (v : Vect S.field) → IsUpTo S most v → IsHomogeneous S d v → ¬ (v ≡ zero_vector S.field) → d ≤ most
unfolding zero_vector coef_at
degree_within S most d v up is nonzero = go (has_lead (scalars S.field) (is_field S.field) key_same (key_order S) v)
  where
    go : HasLead (scalars S.field) (is_field S.field) key_same (key_order S) v → d ≤ most
    go (inl none) = absurd (nonzero none)
    go (inr lead) =
        let low = up lead.0 lead.1.there in
        let same = is lead.0 lead.1.there in
        omega arith

module _ (k : FieldOn ℕ) (gens : List (Matrix ℕ)) (c : CertificateOf ℕ) (well : IsWellFormed k c gens) (small : All (IsSmallPoly (plain k c)) c.primaries)
    (met : (j : ℕ) → K2 k gens c j) where
  abbrev n : ℕ
  n = size c

  positive : (f : Vect k) → In f (primaries k c) → IsOfPositiveDegree k (ones c) f
  positive f i = (all_in (λ g. IsOfPositiveDegree k (ones c) g × Invariant k gens g) (primaries k c)
      (all_at (λ g. IsOfPositiveDegree k (ones c) g × Invariant k gens g) (primaries k c) (λ j g at. met j g at)) f i).0

  pub plain_forms : ArePositiveForms k (size c) (degrees c) (primaries k c)
  plain_forms = record {
    forms = forms_known k (size c) c.primaries well.primaries (λ f i. positive_proper k (size c) f (positive f i));
    variables = primaries_in_variables k gens c well;
    positive = positive_known k (size c) c.primaries well.primaries positive;
  }

  positive-one : (p : Terms) → IsSmallPoly (plain k c) p → IsOfPositiveDegree k (ones c) (polynomial k p) → IsPositiveForm (plain k c) p
  unfolding height
  positive-one p s h =
      let e : degree_of p ≡ h.degree = degree_known k (size c) p h.degree s.poly h.form h.not_zero in
      let low = degree_within (plain k c) most_degree h.degree (polynomial k p) s.up_to (form_homogeneous (plain k c) refl h.degree (polynomial k p) h.form) h.not_zero in
      record {
        form = record {
          polynomial = s.poly;
          small = omega arith;
          form = subst (λ m. IsForm k (replicate m 1) (degree_of p) (polynomial k p)) (sym (length_ones (size c)))
              (subst (λ d. IsForm k (ones c) d (polynomial k p)) (sym e) h.form);
        };
        positive = subst (λ d. 0 < d) (sym e) h.positive;
      }

  pub plain_positive_forms : All (IsPositiveForm (plain k c)) c.primaries
  plain_positive_forms = go c.primaries small (λ f i. positive f i)
    where
      go : (ps : List Terms) → All (IsSmallPoly (plain k c)) ps → ((f : Vect k) → In f (vectors_of (plain k c) (λ m. m) ps) → IsOfPositiveDegree k (ones c) f)
          → All (IsPositiveForm (plain k c)) ps
      go [] s h = All-nil (IsPositiveForm (plain k c))
      go (p ∷ ps) s h = All-cons (IsPositiveForm (plain k c)) p ps (positive-one p (All-head (IsSmallPoly (plain k c)) p ps s) (h _ (inl refl)))
          (go ps (All-tail (IsSmallPoly (plain k c)) p ps s) (λ f i. h f (inr i)))

  pub plain_unmarked : All (IsUnmarked k (size c)) c.primaries
  plain_unmarked = subst (λ m. All (IsUnmarked k m) c.primaries) (length_ones (size c))
      (All-weaker (IsSmallPoly (plain k c)) (IsUnmarked k (length (replicate (size c) 1))) (λ p s. unmarked_poly (plain k c) p s.poly) c.primaries small)

  -- in the space with marks, of the same degrees
  low-one : (p : Terms) → IsPositiveForm (plain k c) p → IsUpTo (marked k c) degree_limit (polynomial k p)
  unfolding height
  low-one p h t a =
      let s = h.form.small in
      let form = subst (λ m. IsForm k (replicate m 1) (degree_of p) (polynomial k p)) (length_ones (size c)) h.form.form in
      let variables = subst (λ m. InVariables k m (polynomial k p)) (length_ones (size c)) (vec_in_variables (plain k c) (entries (λ m. m) p) h.form.polynomial.fits) in
      let is = form_homogeneous (marked k c) refl (degree_of p) (polynomial k p)
      (λ u e. ((form u e).0, weight_variables (size c) (degrees c) 0 u.1.0 (variables u e) ∙ (form u e).1)) t a in
      omega arith

  low : (ps qs : List Terms) → ArePolys (marked k c) (λ m. m) qs → vectors_of (marked k c) (λ m. m) qs ≡ vectors_of (plain k c) (λ m. m) ps
      → All (IsPositiveForm (plain k c)) ps → AreLow (marked k c) qs
  low ps [] polys same h = All-nil (λ p. IsPoly (marked k c) (λ m. m) p × IsUpTo (marked k c) degree_limit (vector_of (marked k c) (λ m. m) p))
  low [] (q ∷ qs) polys same h = absurd cc
  low (p ∷ ps) (q ∷ qs) polys same h =
      let first : vector_of (marked k c) (λ m. m) q ≡ vector_of (plain k c) (λ m. m) p = cc in
      let rest : vectors_of (marked k c) (λ m. m) qs ≡ vectors_of (plain k c) (λ m. m) ps = cc in
      All-cons (λ p. IsPoly (marked k c) (λ m. m) p × IsUpTo (marked k c) degree_limit (vector_of (marked k c) (λ m. m) p)) q qs
      (All-head (IsPoly (marked k c) (λ m. m)) q qs polys, subst (IsUpTo (marked k c) degree_limit) (sym first) (low-one p (All-head (IsPositiveForm (plain k c)) p ps h)))
      (low ps qs (All-tail (IsPoly (marked k c) (λ m. m)) q qs polys) rest (All-tail (IsPositiveForm (plain k c)) p ps h))

  pub marked_low : (qs : List Terms) → ArePolys (marked k c) (λ m. m) qs → vectors_of (marked k c) (λ m. m) qs ≡ primaries k c → AreLow (marked k c) qs
  marked_low qs polys same = low c.primaries qs polys same plain_positive_forms

-- at a step of a check
module _ (S : SpaceOver ℕ) (gens : List (Matrix ℕ)) (c : CertificateOf ℕ) (given : IsGiven S gens c) (met : (j : ℕ) → K2 S.field gens c j) where
  abbrev k : FieldOn ℕ
  k = S.field

  small : All (IsSmallPoly (plain S.field c)) c.primaries
  small = subst (λ T. All (IsSmallPoly T) c.primaries) given.space.is (given_primaries S gens c given)

  pub positive_forms : All (IsPositiveForm S) c.primaries
  positive_forms = subst (λ T. All (IsPositiveForm T) c.primaries) (sym given.space.is) (plain_positive_forms k gens c (given_well S gens c given) small met)

  pub small_forms : All (IsSmallForm S) c.primaries
  small_forms i d l = (positive_forms i d l).form

  pub primary_forms : ArePositiveForms S.field (size c) (degrees c) (primaries S.field c)
  primary_forms = plain_forms k gens c (given_well S gens c given) small met

  -- and in the space with marks
  module _ (T : SpaceOver ℕ) (m : ℕ) (es : List ℕ) (beside : IsMarkedOf c S T m es) where
    pub up : (Q : SpaceOver ℕ → ℕ → List ℕ → Type 0) → Q (marked S.field c) (size c) (degrees c) → Q T m es
    up Q h = subst (λ U. Q U m es) (sym beside.is) (subst (λ i. Q (marked k c) i es) (sym beside.variables) (subst (λ ws. Q (marked k c) (size c) ws) (sym beside.degrees) h))

    pub down : (Q : SpaceOver ℕ → ℕ → List ℕ → Type 0) → Q T m es → Q (marked S.field c) (size c) (degrees c)
    down Q h = subst (λ ws. Q (marked k c) (size c) ws) beside.degrees (subst (λ i. Q (marked k c) i es) beside.variables (subst (λ U. Q U m es) beside.is h))

    pub space_is : IsMarkSpace T m es
    space_is = up IsMarkSpace (is_mark_space k (size c) (degrees c))

    pub positive_is : IsPositive T
    positive_is = up (λ U i ws. IsPositive U) (marks_positive k (size c) (degrees c) (primaries k c) primary_forms)

    pub unmarked_is : All (IsUnmarked T.field m) c.primaries
    unmarked_is = up (λ U i ws. All (IsUnmarked U.field i) c.primaries) (plain_unmarked k gens c (given_well S gens c given) small met)

    module _ (θ : List Terms) (polys : ArePolys T (λ m. m) θ) (same : vectors_of T (λ m. m) θ ≡ vectors_of T (λ m. m) c.primaries) where
      pub same_marked : vectors_of (marked S.field c) (λ m. m) θ ≡ primaries S.field c
      same_marked = down (λ U i ws. vectors_of U (λ m. m) θ ≡ vectors_of U (λ m. m) c.primaries) same

      pub low_is : AreLow T θ
      low_is = up (λ U i ws. AreLow U θ) (marked_low k gens c (given_well S gens c given) small met θ (down (λ U i ws. ArePolys U (λ m. m) θ) polys) same_marked)

      pub forms_are : ArePositiveForms T.field m es (vectors_of T (λ m. m) θ)
      forms_are = up (λ U i ws. ArePositiveForms U.field i ws (vectors_of U (λ m. m) θ))
          (subst (ArePositiveForms k (size c) (degrees c)) (sym same_marked) primary_forms)
