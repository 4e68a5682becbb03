-- Once their conditions are met, the members of the lists of a certificate are forms: what the calls ask of them that decide K9 and K11.
use Rattle.std.proofs.Common.{◌≡◌, ℕ, ◌+◌, ◌<◌, List, replicate, get_or, map, refl, sym, subst, arith}
use Rattle.std.specs.Prelude.{All}
use Rattle.std.proofs.lemmas.Option.{slice_get-get_or}
use Rattle.alg_core.specs.BlockOrder.{length_ones}
use Rattle.alg_core.specs.Fields.{FieldOn}
use Rattle.alg_core.specs.PolynomialSpaces.{plain_space}
use Rattle.alg_core.specs.SpaceGrading.{height}
use Rattle.alg_core.specs.Spaces.{SpaceOver, IsPlace}
use Rattle.alg_core.specs.Vectors.{Vect}
use Rattle.alg_core.specs.declared.term.Term.{Term}
use Rattle.alg_core.proofs.PolynomialSpaces.{plain_constants}
use Rattle.poly_module.specs.Forms.{IsForm, form_homogeneous}
use Rattle.poly_module.specs.SpaceVectors.{HasPolynomials, vector_of}
use Rattle.lin_algebra.specs.declared.matrix.Matrix.{Matrix}
use Rattle.secondary_gens.specs.Forms.{degree_of, IsSmallForm, IsPositiveForm}
use Rattle.irreducible_gens.specs.Irreducibles.{IsOfPositiveDegree}
use Rattle.certificate_io.specs.Certificates.{CertificateOf}
use Rattle.cert_check.specs.Conditions.{IsNonzeroForm, K7, K10}
use Rattle.cert_check.specs.Endings.{IsGiven}
use Rattle.cert_check.specs.Parts.{At, size, ones, polynomial}
use Rattle.cert_check.specs.SmallPolynomials.{most_degree, IsSmallPoly}
use Rattle.cert_check.specs.WellFormed.{plain}
use Rattle.cert_check.proofs.CheckedPrimaries.{degree_within}
use Rattle.cert_check.proofs.GivenParts.{given_secondaries, given_irreducibles}
use Rattle.cert_check.proofs.MadeForms.{degree_known}
use Rattle.cert_check.proofs.MadePlaces.{place_map}

abbrev Terms : Type 0
Terms = List (Term ℕ (List ℕ))

module _ (k : FieldOn ℕ) (n : ℕ) where
  abbrev S : SpaceOver ℕ
  S = plain_space k n

  small_one : (p : Terms) → IsSmallPoly (plain_space k n) p → IsNonzeroForm k (replicate n 1) (vector_of (plain_space k n) (λ m. m) p) → IsSmallForm (plain_space k n) p
  unfolding height
  small_one p s h =
      let v : Vect k = vector_of S (λ m. m) p in
      let e : degree_of p ≡ h.degree = degree_known k n p h.degree s.poly h.form h.not_zero in
      let low = degree_within S most_degree h.degree v s.up_to (form_homogeneous S refl h.degree v h.form) h.not_zero in
      record {
        polynomial = s.poly;
        small = omega arith;
        form = subst (λ m. IsForm k (replicate m 1) (degree_of p) v) (sym (length_ones n)) (subst (λ d. IsForm k (replicate n 1) d v) (sym e) h.form);
      }

  positive_one : (p : Terms) → IsSmallPoly (plain_space k n) p → IsOfPositiveDegree k (replicate n 1) (vector_of (plain_space k n) (λ m. m) p) → IsPositiveForm (plain_space k n) p
  positive_one p s h =
      let e : degree_of p ≡ h.degree = degree_known k n p h.degree s.poly h.form h.not_zero in
      record {
        form = small_one p s (record { not_zero = h.not_zero; degree = h.degree; form = h.form });
        positive = subst (λ d. 0 < d) (sym e) h.positive;
      }

-- what the items say of the vectors, for the terms
each_form : (k : FieldOn ℕ) (P : Vect k → Type 0) (A B : Terms → Type 0) (xs : List Terms) → ((p : Terms) → A p → P (polynomial k p) → B p)
    → All A xs → ((i : ℕ) (f : Vect k) → At (map (polynomial k) xs) i f → P f) → All B xs
each_form k P A B xs turn known met i d l =
    let p = get_or xs i d in
    turn p (known i d l) (met (i + 1) (polynomial k p) (i, refl, place_map (polynomial k) xs i p (slice_get-get_or xs i d l)))

module _ (S : SpaceOver ℕ) (gens : List (Matrix ℕ)) (c : CertificateOf ℕ) (given : IsGiven S gens c) where
  abbrev k : FieldOn ℕ
  k = S.field

  there : (P : SpaceOver ℕ → Type 0) → P S → P (plain S.field c)
  there P = subst P given.space.is

  back : (P : SpaceOver ℕ → Type 0) → P (plain S.field c) → P S
  back P = subst P (sym given.space.is)

  pub has_polynomials : HasPolynomials S
  has_polynomials = back HasPolynomials (record { constants = subst (λ i. IsPlace (plain k c) (0, replicate i 0)) (sym (length_ones (size c))) (plain_constants k (size c)) })

  pub secondary_forms : ((j : ℕ) → K7 S.field gens c j) → All (IsSmallForm S) c.secondaries
  secondary_forms met = back (λ T. All (IsSmallForm T) c.secondaries)
      (each_form k (IsNonzeroForm k (ones c)) (IsSmallPoly (plain k c)) (IsSmallForm (plain k c)) c.secondaries (small_one k (size c))
      (there (λ T. All (IsSmallPoly T) c.secondaries) (given_secondaries S gens c given)) (λ i f at. (met i f at).0))

  pub irreducible_forms : ((j : ℕ) → K10 S.field gens c j) → All (IsPositiveForm S) c.irreducibles
  irreducible_forms met = back (λ T. All (IsPositiveForm T) c.irreducibles)
      (each_form k (IsOfPositiveDegree k (ones c)) (IsSmallPoly (plain k c)) (IsPositiveForm (plain k c)) c.irreducibles (positive_one k (size c))
      (there (λ T. All (IsSmallPoly T) c.irreducibles) (given_irreducibles S gens c given)) (λ i f at. ((met i).generator f at).1))
