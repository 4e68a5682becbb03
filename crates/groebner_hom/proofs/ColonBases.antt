-- The reduced basis of a colon module, over the space that the program makes for it.
use Rattle.std.proofs.Common.{◌≡◌, ◌∙◌, ◌+◌, ◌≤◌, ℕ, suc, true, List, [], ◌∷◌, length, replicate, inl, inr, sym, ap, subst, refl, arith}
use Rattle.std.proofs.lemmas.Bool.Decides.{nat_tests}
use Rattle.std.specs.Prelude.{All, ◌==◌}
use native.Mathlib.Decide.{ℕ_discrete}
use Rattle.alg_core.specs.Keys.{Key}
use Rattle.alg_core.specs.Lists.{In, map_in}
use Rattle.alg_core.specs.Monomials.{monomials}
use Rattle.alg_core.specs.declared.term.Term.{Term}
use Rattle.alg_core.specs.Spaces.{SpaceOver, entries, IsPlace}
use Rattle.alg_core.specs.SpaceGrading.{AllPositive, weight, height, degree}
use Rattle.alg_core.specs.Vectors.{Vect, zero_vector}
use Rattle.alg_core.proofs.Members.{from_map}
use Rattle.alg_core.proofs.PolynomialSpaces.{marked_positive}
use Rattle.alg_core.proofs.VectorLaws.{vec_nothing}
use Rattle.poly_module.specs.Degrees.{IsHomogeneous, graded_twice}
use Rattle.poly_module.specs.Forms.{form_homogeneous, homogeneous_form}
use Rattle.poly_module.specs.Modules.{InModule, listed}
use Rattle.poly_module.specs.Parts.{IsPolynomial, InVariables, supp_plus, supp_single}
use Rattle.poly_module.specs.ReducedLists.{IsReducedBasisOf}
use Rattle.poly_module.specs.SpaceVectors.{IsPositive, IsPoly, ArePolys, IsVector, AreVectors, ArePlaced, HasPolynomials, IsUpTo, vector_of, vectors_of}
use Rattle.poly_module.specs.Substitutions.{position_vector}
use Rattle.poly_module.proofs.ConstantSteps.{length_zeros}
use Rattle.poly_module.proofs.EntryCoefficients.{term_at_index}
use Rattle.poly_module.proofs.FittingKeys.{vec_in_variables}
use Rattle.poly_module.proofs.SpaceVectorLaws.{is_polynomial}
use Rattle.module_groebner.specs.declared.bound.BasisBound.{BasisBound}
use Rattle.module_groebner.specs.declared.bound.Which.TheVariants.{Ideal, Colon}
use Rattle.module_groebner.specs.BasisBounds.{NothingAbove, IsBasisBound}
use Rattle.module_groebner.specs.HomogeneousLists.{degree_limit, IsHomogeneousUpTo, AreHomogeneousUpTo, AreUpTo}
use Rattle.module_groebner.proofs.Families.{all_in, in_all}
use Rattle.groebner_hom.specs.Colons.{lifted, colon, InColon, AreSecondParts, IsColonIdeal, colon_space, IsColonBasis, NoColonAbove}
use Rattle.groebner_hom.specs.IdealBases.{IsHomogeneousPoly, AreHomogeneousPolys}
use Rattle.groebner_hom.proofs.ColonModules.{coef_lifted, colon_ideal_by}
use Rattle.groebner_hom.proofs.PolynomialLists.{all_weaken, are_polynomials, are_homogeneous_up_to}

equal_test : (m n : ℕ) → m ≡ n → (m == n) ≡ true
equal_test m n e = grind (arith, nat_tests)

abbrev Terms : Type 0 → Type 0
Terms E = List (Term E (List ℕ))

-- the reduced basis of the module of the generators gs over the space X
pub record IsBasisOver {E : Type 0} (X : SpaceOver E) (gs : List (Terms E)) (cap : ℕ) (vs : List (Terms E)) : Type 0 where
  pub fit : AreVectors X (λ m. m) vs
  pub reduced : IsReducedBasisOf X (InModule X.field (listed X.field (vectors_of X (λ m. m) gs))) (vectors_of X (λ m. m) vs)
  pub homogeneous : AreHomogeneousUpTo X cap (vectors_of X (λ m. m) vs)
  pub within : NothingAbove X (InModule X.field (listed X.field (vectors_of X (λ m. m) gs))) cap

module _ {E : Type 0} (S : SpaceOver E) where
  -- constants are places of a space that has a polynomial other than 0
  pub has_polynomials : (d : ℕ) (f : Terms E) → IsHomogeneousPoly S d f → ¬ (vector_of S (λ m. m) f ≡ zero_vector S.field) → HasPolynomials S
  has_polynomials d [] h n = absurd (n (vec_nothing S.field))
  has_polynomials d (t ∷ f) h n =
      let p = h.polynomial.fits.0.place in
      let first : t.at.pos ≡ 0 = h.polynomial.position 0 ((t.at.pos, t.at.mono), t.coef) (omega arith) in
      record {
        constants = record {
          fits = ap (S.order.fits 0) (length_zeros (length S.weights) ∙ sym p.wide) ∙ subst (λ q. S.order.fits q (length t.at.mono) ≡ true) first p.fits;
          wide = length_zeros (length S.weights);
          low = let low = p.low in omega arith;
        };
      }

  -- a vector other than 0 has one degree
  pub one_degree : (d e : ℕ) (v : Vect S.field) → ¬ (v ≡ zero_vector S.field) → IsHomogeneous S d v → IsHomogeneous S e v → d ≡ e
  one_degree d e v n h j = go (ℕ_discrete d e)
    where
      go : Dec (d ≡ e) → d ≡ e
      go (yes p) = p
      go (no q) = absurd (n (graded_twice S.field (degree S) d e q v h j))

module _ {E : Type 0} (S : SpaceOver E) (d : ℕ) where
  abbrev T : SpaceOver E
  T = colon_space S d

  pub colon_positive : IsPositive S → IsPositive (colon_space S d)
  colon_positive p = record { order = (marked_positive S.field 0 S.weights p.weights).0; weights = p.weights }

  pub second_place : IsPlace (colon_space S d) (1, replicate (length S.weights) 0)
  second_place = let e = length_zeros (length S.weights) in record { fits = equal_test _ _ e; wide = e; low = omega arith }

  pub colon_placed : (e : ℕ) (p : Terms E) → IsHomogeneousPoly S e p → ArePlaced (colon_space S d) (λ m. m) p
  colon_placed e p h i x w =
      let t = term_at_index S (entries (λ m. m) p) i x w h.polynomial.fits in
      let z = h.polynomial.position i x w in
      (t.has, record { fits = equal_test _ _ t.place.wide; wide = t.place.wide; low = omega arith })

  pub all_placed : (e : ℕ) (ps : List (Terms E)) → AreHomogeneousPolys S e ps → All (ArePlaced (colon_space S d) (λ m. m)) ps
  all_placed e ps h = all_weaken (IsHomogeneousPoly S e) (ArePlaced (colon_space S d) (λ m. m)) (colon_placed e) ps h

  no_shift : height (0 ∷ d ∷ []) 0 ≡ 0
  unfolding height
  no_shift = refl

  position_degree : degree (colon_space S d) (1, monomials.one) ≡ d
  unfolding degree weight height monomials
  position_degree = let w : weight S.weights 0 monomials.one.0 ≡ 0 = refl in let h : height (0 ∷ d ∷ []) 1 ≡ d = refl in omega arith

  pub position_homogeneous : IsHomogeneous (colon_space S d) d (position_vector S.field)
  unfolding position_vector
  position_homogeneous = supp_single S.field (λ t. degree (colon_space S d) t ≡ d) (1, monomials.one) position_degree

  key_degrees : (m : Key) → height S.shifts 0 ≡ 0 → m.0 ≡ 0 → degree (colon_space S d) (suc m.0, m.1) ≡ degree S m + d
  unfolding degree height
  key_degrees m z p =
      let a : height S.shifts m.0 ≡ 0 = ap (height S.shifts) p ∙ z in
      let b : height (0 ∷ d ∷ []) (suc m.0) ≡ d = ap (λ q. height (0 ∷ d ∷ []) (suc q)) p in
      omega arith

  module _ (shift : height S.shifts 0 ≡ 0) where
    pub same_degree : (e : ℕ) (v : Vect S.field) → IsPolynomial S.field v → IsHomogeneous S e v → IsHomogeneous (colon_space S d) e v
    same_degree e v p h = form_homogeneous T no_shift e v (homogeneous_form S shift e v p h)

    module _ (f : Terms E) (θ : List (Terms E)) (small : d ≤ degree_limit) (poly : IsHomogeneousPoly S degree_limit f) (has_degree : IsHomogeneous S d (vector_of S (λ m. m) f)) (polys : AreHomogeneousPolys S degree_limit θ) where
      abbrev ws : List (Vect S.field)
      ws = vectors_of S (λ m. m) θ

      abbrev u : Vect S.field
      u = vector_of S (λ m. m) f

      pub generators_homogeneous : AreHomogeneousUpTo (colon_space S d) degree_limit (colon S.field (vectors_of S (λ m. m) θ) (vector_of S (λ m. m) f))
      generators_homogeneous = in_all (IsHomogeneousUpTo T degree_limit) (colon S.field ws u) each
        where
          each : (w : Vect S.field) → In w (colon S.field ws u) → IsHomogeneousUpTo T degree_limit w
          each w (inl e) = subst (IsHomogeneousUpTo T degree_limit) e (d, small, supp_plus S.field (λ t. degree T t ≡ d) u (position_vector S.field) (same_degree d u (is_polynomial S (λ m. m) f poly.polynomial) has_degree) position_homogeneous)
          each w (inr i) = let h = all_in (IsHomogeneousUpTo S degree_limit) ws (are_homogeneous_up_to S degree_limit θ polys) w i in
              (h.0, h.1, same_degree h.0 w (are_polynomials S degree_limit θ polys w i) h.2)

      -- over the space that the program makes
      module _ (X : SpaceOver E) (is : X ≡ colon_space S d) (gs seen : List (Terms E)) (same : seen ≡ gs)
          (are : vectors_of X (λ m. m) gs ≡ colon X.field (vectors_of X (λ m. m) θ) (vector_of X (λ m. m) f)) where
        pub seen_homogeneous : AreHomogeneousUpTo X degree_limit (vectors_of X (λ m. m) seen)
        seen_homogeneous = subst (λ l. AreHomogeneousUpTo X degree_limit (vectors_of X (λ m. m) l)) (sym same) (subst (AreHomogeneousUpTo X degree_limit) (sym are)
            (subst (λ (Y : SpaceOver E). AreHomogeneousUpTo Y degree_limit (colon Y.field (vectors_of Y (λ m. m) θ) (vector_of Y (λ m. m) f))) (sym is) generators_homogeneous))

        seen_are : vectors_of S (λ m. m) seen ≡ colon S.field (vectors_of S (λ m. m) θ) (vector_of S (λ m. m) f)
        seen_are = ap (vectors_of S (λ m. m)) same ∙ subst (λ (Y : SpaceOver E). vectors_of Y (λ m. m) gs ≡ colon Y.field (vectors_of Y (λ m. m) θ) (vector_of Y (λ m. m) f)) is are

        pub basis_given : (cap : ℕ) (vs : List (Terms E)) → IsBasisOver X seen cap vs → IsColonBasis S (vectors_of S (λ m. m) θ) (vector_of S (λ m. m) f) cap d vs
        basis_given cap vs h =
            let b : IsBasisOver T seen cap vs = subst (λ (Y : SpaceOver E). IsBasisOver Y seen cap vs) is h in
            record {
              fit = b.fit;
              reduced = subst (λ l. IsReducedBasisOf T (InModule S.field (listed S.field l)) (vectors_of T (λ m. m) vs)) seen_are b.reduced;
              homogeneous = b.homogeneous;
              within = subst (λ l. NothingAbove T (InModule S.field (listed S.field l)) cap) seen_are b.within;
            }

        pub bound_given : (cap : ℕ) (b : BasisBound E) → IsBasisBound X (InModule X.field (listed X.field (vectors_of X (λ m. m) seen))) cap Ideal b
            → IsBasisBound (colon_space S d) (InColon S.field (vectors_of S (λ m. m) θ) (vector_of S (λ m. m) f)) cap Colon (record { vector = b.vector; degree = b.degree; which = Colon })
        bound_given cap b h =
            let i : IsBasisBound T (InModule S.field (listed S.field (vectors_of S (λ m. m) seen))) cap Ideal b =
            subst (λ (Y : SpaceOver E). IsBasisBound Y (InModule Y.field (listed Y.field (vectors_of Y (λ m. m) seen))) cap Ideal b) is h in
            let j : IsBasisBound T (InColon S.field ws u) cap Ideal b = subst (λ l. IsBasisBound T (InModule S.field (listed S.field l)) cap Ideal b) seen_are i in
            record { fits = j.fits; lead = j.lead; above = j.above; reached = j.reached; least = j.least; which = refl }

      -- what the second parts of the basis are
      module _ (cap : ℕ) (vs hs : List (Terms E)) (basis : IsColonBasis S (vectors_of S (λ m. m) θ) (vector_of S (λ m. m) f) cap d vs)
          (second : AreSecondParts S.field (vectors_of S (λ m. m) vs) (vectors_of S (λ m. m) hs)) where
        pub parts_exact : AllPositive S.weights → IsColonIdeal S.field (vectors_of S (λ m. m) θ) (vector_of S (λ m. m) f) (vectors_of S (λ m. m) hs)
        parts_exact positive = colon_ideal_by S d positive ws u (are_polynomials S degree_limit θ polys) (is_polynomial S (λ m. m) f poly.polynomial) (vectors_of S (λ m. m) vs) (vectors_of S (λ m. m) hs) basis.reduced
            (λ w i. let h = all_in (IsHomogeneousUpTo T cap) (vectors_of S (λ m. m) vs) basis.homogeneous w i in (h.0, h.2))
            (λ w i. let x = from_map (vector_of S (λ m. m)) w vs i in subst (InVariables S.field (length S.weights)) x.2 (vec_in_variables T (entries (λ m. m) x.0) (all_in (IsVector T (λ m. m)) vs basis.fit x.0 x.1)))
            second

        pub parts_small : cap ≤ degree_limit → ArePolys S (λ m. m) hs → AreUpTo S degree_limit (vectors_of S (λ m. m) hs)
        parts_small low ps = in_all (IsUpTo S degree_limit) (vectors_of S (λ m. m) hs) (λ h i t c.
            let w = (second (lifted S.field h)).0 (map_in (lifted S.field) h (vectors_of S (λ m. m) hs) i) in
            let e = all_in (IsHomogeneousUpTo T cap) (vectors_of S (λ m. m) vs) basis.homogeneous (lifted S.field h) w.0 in
            let x = from_map (vector_of S (λ m. m)) h hs i in
            let p : t.0 ≡ 0 = subst (IsPolynomial S.field) x.2 (is_polynomial S (λ m. m) x.0 (all_in (IsPoly S (λ m. m)) hs ps x.0 x.1)) t c in
            let q : degree T (suc t.0, t.1) ≡ e.0 = e.2 (suc t.0, t.1) (λ z. c (sym (coef_lifted S.field h t) ∙ z)) in
            let k = key_degrees t shift p in
            let r = e.1 in
            omega arith)

      pub nothing_above : (cap : ℕ) (vs : List (Terms E)) → ¬ (vector_of S (λ m. m) f ≡ zero_vector S.field) → IsColonBasis S (vectors_of S (λ m. m) θ) (vector_of S (λ m. m) f) cap d vs
          → NoColonAbove S (vectors_of S (λ m. m) θ) (vector_of S (λ m. m) f) cap
      nothing_above cap vs n basis e h = subst (λ x. NothingAbove (colon_space S x) (InColon S.field ws u) cap) (one_degree S d e u n has_degree h) basis.within
