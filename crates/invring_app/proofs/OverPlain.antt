-- Found primary invariants in a space with marks, and what the free module over them says without it.
use Rattle.std.proofs.Common.{◌≡◌, ◌∙◌, ℕ, ◌<◌, ◌≤◌, List, [], ◌∷◌, length, replicate, refl, sym, ap, subst, arith}
use Rattle.std.specs.Prelude.{All}
use Rattle.std.proofs.lemmas.List.Elements.{All-nil, All-cons, All-head, All-tail, All-weaker}
use Rattle.alg_core.specs.DpOrder.{dp_order}
use Rattle.alg_core.specs.Fields.{Has}
use Rattle.alg_core.specs.PolynomialSpaces.{plain_space, marked_space}
use Rattle.alg_core.specs.SpaceGrading.{height}
use Rattle.alg_core.specs.Spaces.{SpaceOver, Fits, entries}
use Rattle.alg_core.specs.Vectors.{Entry, Vect}
use Rattle.alg_core.specs.declared.term.Term.{Term}
use Rattle.poly_module.specs.Forms.{form_homogeneous}
use Rattle.poly_module.specs.GreatestExponents.{total}
use Rattle.poly_module.specs.Parts.{InVariables}
use Rattle.poly_module.specs.SpaceVectors.{IsPoly, ArePolys, IsUpTo, vector_of, vectors_of}
use Rattle.poly_module.proofs.FittingKeys.{vec_in_variables}
use Rattle.finite_certificate.specs.Finiteness.{AreLow, powers_of, HasForm}
use Rattle.finite_certificate.specs.Ideals.{Regular, Ended}
use Rattle.finite_certificate.specs.MarkSpaces.{IsMarkSpace, ArePositiveForms, degree_limit}
use Rattle.finite_certificate.specs.StandardMonomials.{AreStandardMonomials, IsOverRank}
use Rattle.finite_certificate.specs.declared.power.Power.{Power}
use Rattle.finite_certificate.proofs.ModuleTerms.{weight_variables}
use Rattle.groebner_hom.specs.IdealBases.{NoIdealAbove}
use Rattle.groebner_hom.specs.Lifts.{AreLifts, AreLeastPowers}
use Rattle.primary_module.specs.PrimaryModules.{Primaries, StandsOver}
use Rattle.secondary_gens.specs.Forms.{degree_of, degrees_of, IsSmallForm}
use Rattle.secondary_gens.proofs.FormDegrees.{are_forms, positive_small, all_positive}
use Rattle.cert_check.proofs.MadeLifts.{is_mark_space, marks_positive}
use Rattle.invring_app.specs.FoundPrimaries.{IsPlain, AreFound, AreFoundOver, IsOver, IsFreeOver}
use Rattle.primary_module.specs.WiderTerms.{IsUnmarked}

abbrev Terms : Type 0
Terms = List (Term ℕ (List ℕ))

-- the space is that of its field and its number of variables
pub plain_is : {E : Type 0} (S : SpaceOver E) → IsPlain S → S ≡ plain_space S.field (length S.weights)
plain_is S h =
    let order : S.order ≡ dp_order (replicate (length S.weights) 1) = h.order ∙ ap dp_order h.weights in
    λ i. record { field = S.field; order = order i; weights = h.weights i; shifts = h.shifts i }

module _ (S : SpaceOver ℕ) (cap : ℕ) (θ : List Terms) (found : AreFound S cap θ) where
  abbrev n : ℕ
  n = length S.weights

  abbrev ds : List ℕ
  ds = degrees_of θ

  abbrev M : SpaceOver ℕ
  M = marked_space S.field (length S.weights) (degrees_of θ)

  small : All (IsSmallForm S) θ
  small = positive_small S θ found.forms

  polys : ArePolys S (λ m. m) θ
  polys i d l = (small i d l).polynomial

  variables : (ps : List Terms) → ArePolys S (λ m. m) ps → All (InVariables S.field (length S.weights)) (vectors_of S (λ m. m) ps)
  variables [] h = All-nil (InVariables S.field (length S.weights))
  variables (p ∷ ps) h = All-cons (InVariables S.field (length S.weights)) _ _ (vec_in_variables S (entries (λ m. m) p) (All-head (IsPoly S (λ m. m)) p ps h).fits) (variables ps (All-tail (IsPoly S (λ m. m)) p ps h))

  pub forms_are : ArePositiveForms S.field (length S.weights) (degrees_of θ) (vectors_of S (λ m. m) θ)
  forms_are = record { forms = are_forms S θ small; variables = variables θ polys; positive = all_positive S θ found.forms }

  -- as terms without marks
  unmarked-one : (p : Terms) → IsPoly S (λ m. m) p → IsUnmarked S.field (length S.weights) p
  unmarked-one p h = record { variables = record { values = values (entries (λ m. m) p) h.fits; wide = wide (entries (λ m. m) p) h.fits }; position = h.position }
    where
      values : (es : List (Entry ℕ)) → Fits S es → All (λ e. Has S.field e.1) es
      values [] f = All-nil (λ e. Has S.field e.1)
      values (e ∷ es) f = All-cons (λ e. Has S.field e.1) e es f.0.has (values es f.2)

      wide : (es : List (Entry ℕ)) → Fits S es → All (λ e. length e.0.1 ≡ length S.weights) es
      wide [] f = All-nil (λ e. length e.0.1 ≡ length S.weights)
      wide (e ∷ es) f = All-cons (λ e. length e.0.1 ≡ length S.weights) e es f.0.place.wide (wide es f.2)

  unmarked : All (IsUnmarked S.field (length S.weights)) θ
  unmarked = All-weaker (IsPoly S (λ m. m)) (IsUnmarked S.field (length S.weights)) unmarked-one θ polys

  -- of no degree over the limit
  low-one : (p : Terms) → IsSmallForm S p → IsUpTo M degree_limit (vector_of S (λ m. m) p)
  unfolding height
  low-one p h t c =
      let s = h.small in
      let is = form_homogeneous M refl (degree_of p) (vector_of S (λ m. m) p)
      (λ u e. ((h.form u e).0, weight_variables (length S.weights) (degrees_of θ) 0 u.1.0 (vec_in_variables S (entries (λ m. m) p) h.polynomial.fits u e) ∙ (h.form u e).1)) t c in
      omega arith

  low : (ps qs : List Terms) → ArePolys M (λ m. m) qs → vectors_of S (λ m. m) qs ≡ vectors_of S (λ m. m) ps → All (IsSmallForm S) ps → AreLow M qs
  low ps [] polys same h = All-nil (λ p. IsPoly M (λ m. m) p × IsUpTo M degree_limit (vector_of M (λ m. m) p))
  low [] (q ∷ qs) polys same h = absurd cc
  low (p ∷ ps) (q ∷ qs) polys same h =
      let first : vector_of S (λ m. m) q ≡ vector_of S (λ m. m) p = cc in
      let rest : vectors_of S (λ m. m) qs ≡ vectors_of S (λ m. m) ps = cc in
      All-cons (λ p. IsPoly M (λ m. m) p × IsUpTo M degree_limit (vector_of M (λ m. m) p)) q qs
      (All-head (IsPoly M (λ m. m)) q qs polys, subst (IsUpTo M degree_limit) (sym first) (low-one p (All-head (IsSmallForm S) p ps h)))
      (low ps qs (All-tail (IsPoly M (λ m. m)) q qs polys) rest (All-tail (IsSmallForm S) p ps h))

  found-marked : (ps : List Terms) → ArePolys M (λ m. m) ps → vectors_of S (λ m. m) ps ≡ vectors_of S (λ m. m) θ → AreFoundOver M n ds cap ps
  found-marked ps are same = record {
    space = is_mark_space S.field n ds;
    positive = marks_positive S.field n ds (vectors_of S (λ m. m) θ) forms_are;
    few = found.few;
    low_cap = found.low_cap;
    low = low θ ps are same small;
    forms = subst (ArePositiveForms S.field n ds) (sym same) forms_are;
    regular = subst (Regular S.field) (sym same) found.regular;
    ended = subst (Ended S.field n) (sym same) found.ended;
    ideal = subst (λ T. NoIdealAbove T (vectors_of T (λ m. m) ps) cap) (plain_is S found.plain) (subst (λ x. NoIdealAbove S x cap) (sym same) found.ideal);
  }

  -- the same of a space with marks that is this one
  module _ (T : SpaceOver ℕ) (m : ℕ) (es : List ℕ) (is : T ≡ M) (variables_are : m ≡ length S.weights) (marks_are : es ≡ degrees_of θ) where
    up : (Q : SpaceOver ℕ → ℕ → List ℕ → Type 0) → Q M n ds → Q T m es
    up Q h = subst (λ U. Q U m es) (sym is) (subst (λ i. Q M i es) (sym variables_are) (subst (λ ws. Q M n ws) (sym marks_are) h))

    down : (Q : SpaceOver ℕ → ℕ → List ℕ → Type 0) → Q T m es → Q M n ds
    down Q h = subst (λ ws. Q M n ws) marks_are (subst (λ i. Q M i es) variables_are (subst (λ U. Q U m es) is h))

    pub space_is : IsMarkSpace T m es
    space_is = up IsMarkSpace (is_mark_space S.field n ds)

    pub unmarked_is : All (IsUnmarked T.field m) θ
    unmarked_is = up (λ U i ws. All (IsUnmarked U.field i) θ) unmarked

    pub found_over : (ps : List Terms) → ArePolys T (λ m. m) ps → vectors_of T (λ m. m) ps ≡ vectors_of T (λ m. m) θ → AreFoundOver T m es cap ps
    found_over ps are same = up (λ U i ws. AreFoundOver U i ws cap ps)
        (found-marked ps (down (λ U i ws. ArePolys U (λ m. m) ps) are) (down (λ U i ws. vectors_of U (λ m. m) ps ≡ vectors_of U (λ m. m) θ) same))

    module _ (ps : List Terms) (same : vectors_of T (λ m. m) ps ≡ vectors_of T (λ m. m) θ) where
      equal : vectors_of S (λ m. m) ps ≡ vectors_of S (λ m. m) θ
      equal = down (λ U i ws. vectors_of U (λ m. m) ps ≡ vectors_of U (λ m. m) θ) same

      pub bound_is : (r : ℕ) → IsOverRank T.field m (vectors_of T (λ m. m) ps) r → IsOverRank S.field (length S.weights) (vectors_of S (λ m. m) θ) r
      bound_is r h = subst (λ x. IsOverRank S.field n x r) equal (down (λ U i ws. IsOverRank U.field i (vectors_of U (λ m. m) ps) r) h)

      pub free_is : (P : Primaries ℕ) → StandsOver T m es P → P.theta ≡ ps → IsFreeOver S T m es θ P
      free_is P stands theta = record {
        beside = record { is = is ∙ ap (marked_space S.field (length S.weights)) (sym marks_are); variables = variables_are };
        marks = marks_are;
        stands = stands;
        same = ap (vectors_of S (λ m. m)) theta ∙ equal;
      }

      pub over_is : (P : Primaries ℕ) (pws : List (Power ℕ)) → StandsOver T m es P → P.theta ≡ ps → All (λ a. total a < length P.monomials) P.monomials → length P.monomials ≤ 4096
          → All (λ p. IsPoly T (λ m. m) p.form × HasForm T p) pws → AreLeastPowers T.field m (vectors_of T (λ m. m) ps) (powers_of T pws) → IsOver S θ P.monomials P.lifts pws
      over_is P pws stands theta low few forms least =
          let s : StandsOver M n ds P = down (λ U i ws. StandsOver U i ws P) stands in
          let fs : All (λ p. IsPoly M (λ m. m) p.form × HasForm M p) pws = down (λ U i ws. All (λ p. IsPoly U (λ m. m) p.form × HasForm U p) pws) forms in
          let to : vectors_of S (λ m. m) P.theta ≡ vectors_of S (λ m. m) θ = ap (vectors_of S (λ m. m)) theta ∙ equal in
          let standard : AreStandardMonomials S.field n (vectors_of S (λ m. m) θ) P.monomials = subst (λ x. AreStandardMonomials S.field n x P.monomials) to s.monomials in
          record {
            standard = standard;
            small = λ i d l. record { wide = standard.wide i d l; low = let t = low i d l in omega arith };
            lifts = λ i d l. (s.is.lifts.polynomials i d l).polynomial;
            are_lifts = subst (λ x. IsLiftsOf x P.lifts) to s.is.lifts.lifts;
            forms = λ i d l. (fs i d l).0;
            least = subst (λ x. AreLeastPowers S.field n x (powers_of S pws)) equal (down (λ U i ws. AreLeastPowers U.field i (vectors_of U (λ m. m) ps) (powers_of U pws)) least);
          }
        where
          IsLiftsOf : List (Vect S.field) → List Terms → Type 0
          IsLiftsOf x ls = AreLifts M n x (vectors_of S (λ m. m) ls)
