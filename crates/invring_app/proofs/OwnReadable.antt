-- Polynomials and combinations of small degrees can be read.
use Rattle.std.proofs.Common.{◌≡◌, ℕ, ◌+◌, ◌<◌, ◌≤◌, List, [], ◌∷◌, length, get_or, subst, arith}
use Rattle.std.specs.Prelude.{All}
use Rattle.std.proofs.lemmas.List.Elements.{All-nil, All-cons, All-head, All-tail, All-weaker}
use Rattle.alg_core.specs.DpOrder.{weighted_degree}
use Rattle.alg_core.specs.Keys.{key}
use Rattle.alg_core.specs.SpaceGrading.{AllPositive, height, degree}
use Rattle.alg_core.specs.Spaces.{SpaceOver, Fits, IsTerm, entries}
use Rattle.alg_core.specs.Vectors.{Entry, Vect}
use Rattle.alg_core.specs.declared.term.Term.{Term}
use Rattle.alg_core.proofs.PlaceDegrees.{degree_key, within_degree}
use Rattle.poly_module.specs.Degrees.{IsHomogeneous}
use Rattle.poly_module.specs.Forms.{IsForm, form_homogeneous}
use Rattle.poly_module.specs.Parts.{supp_weaken}
use Rattle.poly_module.specs.SpaceVectors.{IsPoly, IsVector, IsUpTo, vector_of}
use Rattle.poly_module.proofs.ExponentBounds.{fits_keys}
use Rattle.poly_text.specs.Texts.{variable_at}
use Rattle.poly_text.specs.Values.{IsIndexed, IsReadable, IsReadableTerm}
use Rattle.poly_text.specs.declared.names.Names.{Names}
use Rattle.certificate_io.specs.Conditions.{IsPolynomialIn, IsCombinationIn}
use Rattle.cert_check.specs.SmallPolynomials.{most_degree, IsSmallPoly, IsSmallComb}

abbrev Terms : Type 0
Terms = List (Term ℕ (List ℕ))

module _ (S : SpaceOver ℕ) where
  -- a homogeneous vector of a small degree
  up-to : (d : ℕ) (v : Vect S.field) → d ≤ most_degree → IsHomogeneous S d v → IsUpTo S most_degree v
  up-to d v low h = supp_weaken S.field (λ t. degree S t ≡ d) (λ t. degree S t ≤ most_degree) (λ t e. omega (arith, e, low)) v h

  pub small-comb : (d : ℕ) (v : Terms) → d ≤ most_degree → IsVector S (λ m. m) v → IsHomogeneous S d (vector_of S (λ m. m) v) → IsSmallComb S v
  small-comb d v low fits h = record { comb = fits; up_to = up-to d (vector_of S (λ m. m) v) low h }

  pub small-poly : (d : ℕ) (v : Terms) → d ≤ most_degree → IsPoly S (λ m. m) v → IsHomogeneous S d (vector_of S (λ m. m) v) → IsSmallPoly S v
  small-poly d v low poly h = record { poly = poly; up_to = up-to d (vector_of S (λ m. m) v) low h }

  pub small-form : height S.shifts 0 ≡ 0 → (d : ℕ) (v : Terms) → d ≤ most_degree → IsPoly S (λ m. m) v → IsForm S.field S.weights d (vector_of S (λ m. m) v) → IsSmallPoly S v
  small-form shift d v low poly h = small-poly d v low poly (form_homogeneous S shift d (vector_of S (λ m. m) v) h)

  -- the degree of each term, by its weights and the shift of its position
  term-low : (e : Entry ℕ) → IsTerm S e → degree S (key e.0) ≤ most_degree → weighted_degree S.weights e.0.1 + get_or S.shifts e.0.0 0 ≤ most_degree
  term-low e t low = subst (λ (n : ℕ). n ≤ most_degree) (degree_key S e.0 t.place.wide t.place.low) low

  module _ (positive : AllPositive S.weights) where
    -- the terms of polynomials
    module _ (names : Names) (indexed : (i : ℕ) → i < length S.weights → IsIndexed (variable_at names i)) where
      readable : (e : Entry ℕ) → IsTerm S e → degree S (key e.0) ≤ most_degree → IsReadable S names e
      readable e t low =
          let small = term-low e t low in
          let weighted : weighted_degree S.weights e.0.1 ≤ 4096 = omega arith in
          record {
            degree = weighted;
            exponents = within_degree 4096 S.weights e.0.1 positive t.place.wide weighted;
            indices = λ i h other. indexed i (let wide = t.place.wide in omega arith);
          }

      readables : (es : List (Entry ℕ)) → Fits S es → All (λ e. degree S (key e.0) ≤ most_degree) es → All (IsReadable S names) es
      readables [] f h = All-nil (IsReadable S names)
      readables (e ∷ es) f h =
          All-cons (IsReadable S names) e es (readable e f.0 (All-head (λ e. degree S (key e.0) ≤ most_degree) e es h)) (readables es f.2 (All-tail (λ e. degree S (key e.0) ≤ most_degree) e es h))

      pub poly-read : (v : Terms) → IsSmallPoly S v → IsPolynomialIn S names v
      poly-read v h = (h.poly, readables (entries (λ m. m) v) h.poly.fits (fits_keys S (λ t. degree S t ≤ most_degree) (entries (λ m. m) v) h.poly.fits h.up_to))

      pub polys-read : (vs : List Terms) → All (IsSmallPoly S) vs → All (IsPolynomialIn S names) vs
      polys-read vs h = All-weaker (IsSmallPoly S) (IsPolynomialIn S names) poly-read vs h

    -- the terms of combinations
    module _ (marks : length S.weights ≤ 99999) (positions : length S.shifts ≤ 99999) where
      readable-term : (e : Entry ℕ) → IsTerm S e → degree S (key e.0) ≤ most_degree → IsReadableTerm S e
      readable-term e t low =
          let small = term-low e t low in
          record {
            degree = small;
            exponents = within_degree 4096 S.weights e.0.1 positive t.place.wide (omega arith);
            marks = λ i h other. let wide = t.place.wide in omega arith;
            secondary = let place = t.place.low in omega arith;
          }

      readable-terms : (es : List (Entry ℕ)) → Fits S es → All (λ e. degree S (key e.0) ≤ most_degree) es → All (IsReadableTerm S) es
      readable-terms [] f h = All-nil (IsReadableTerm S)
      readable-terms (e ∷ es) f h =
          All-cons (IsReadableTerm S) e es (readable-term e f.0 (All-head (λ e. degree S (key e.0) ≤ most_degree) e es h)) (readable-terms es f.2 (All-tail (λ e. degree S (key e.0) ≤ most_degree) e es h))

      pub comb-read : (v : Terms) → IsSmallComb S v → IsCombinationIn S v
      comb-read v h = (h.comb, readable-terms (entries (λ m. m) v) h.comb (fits_keys S (λ t. degree S t ≤ most_degree) (entries (λ m. m) v) h.comb h.up_to))
