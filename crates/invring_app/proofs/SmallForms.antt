-- Homogeneous polynomials of small degrees, and monomials as such.
use Rattle.std.proofs.Common.{◌≡◌, ◌∙◌, ◌≤◌, ℕ, List, [], ◌∷◌, length, map, refl, sym, ap, subst, arith}
use Rattle.std.specs.Prelude.{All}
use Rattle.std.proofs.lemmas.List.Elements.{All-nil, All-cons}
use Rattle.alg_core.specs.Keys.{key}
use Rattle.alg_core.specs.Monomials.{mono}
use Rattle.alg_core.specs.Spaces.{SpaceOver, entries}
use Rattle.alg_core.specs.Vectors.{Vect, Entry}
use Rattle.alg_core.specs.declared.term.Term.{Term}
use Rattle.alg_core.proofs.VectorLaws.{vec_nothing}
use Rattle.poly_module.proofs.ExponentBounds.{vec_scaled}
use Rattle.poly_module.specs.Forms.{IsForm, OfDegree}
use Rattle.poly_module.specs.GreatestExponents.{total, greatest}
use Rattle.poly_module.specs.Parts.{IsPolynomial, InVariables, supp_zero, supp_single}
use Rattle.poly_module.specs.Polynomials.{single_vector}
use Rattle.poly_module.specs.Sizes.{IsLow}
use Rattle.poly_module.specs.SpaceVectors.{IsPoly, IsPolyOf, IsVectorOf, vector_of}
use Rattle.poly_module.proofs.PowerSteps.{scale_one}
use Rattle.matrix_group.specs.Groups.{size, cells_of}
use Rattle.reynolds_op.specs.Averages.{Averaging, AveragesOn, reynolds}
use Rattle.reynolds_op.proofs.AverageLaws.{average_form}
use Rattle.secondary_gens.specs.Forms.{unit_weights, IsSmallForm}
use Rattle.secondary_gens.proofs.KeepSteps.{form_small}
use Rattle.secondary_gens.proofs.MonomialDegrees.{of_exponents}
use Rattle.invring_app.specs.SmallMonomials.{IsSmallMonomial}

module _ {E : Type 0} (S : SpaceOver E) where
  abbrev Terms : Type 0
  Terms = List (Term E (List ℕ))

  abbrev x : Terms → Vect S.field
  x v = vector_of S (λ m. m) v

  abbrev single : List ℕ → Vect S.field
  single a = single_vector S.field (0, mono a)

  -- homogeneous, or 0
  pub small_form : (d : ℕ) (p : Terms) → d ≤ 12288 → IsPoly S (λ m. m) p → IsForm S.field (unit_weights S) d (x p) → IsSmallForm S p
  small_form d [] low poly form = record {
    polynomial = poly;
    small = omega arith;
    form = subst (IsForm S.field (unit_weights S) 0) (sym (vec_nothing S.field)) (supp_zero S.field (OfDegree S.field (unit_weights S) 0));
  }
  small_form d (t ∷ p) low poly form = form_small S d (t ∷ p) low poly form (λ e. absurd (omega (arith, ap length e)))

  -- the exponents of its terms
  pub small_low : (p : Terms) → IsSmallForm S p → IsLow 4294967295 (λ m. m) p
  small_low p h = let low = h.small in each (entries (λ m. m) p) (omega arith)
    where
      each : (es : List (Entry E)) → greatest (map (λ e. total e.0.1) es) ≤ 4294967295 → All (λ e. total e.0.1 ≤ 4294967295) es
      each [] h = All-nil (λ e. total e.0.1 ≤ 4294967295)
      each (e ∷ es) h = All-cons (λ e. total e.0.1 ≤ 4294967295) e es (omega arith) (each es (omega arith))

  -- a monomial
  monomial_form : (a : List ℕ) → length a ≡ length S.weights → IsForm S.field (unit_weights S) (total a) (single a)
  unfolding key
  monomial_form a wide = supp_single S.field (OfDegree S.field (unit_weights S) (total a)) (0, mono a) (refl, (of_exponents (length S.weights) a wide).degree)

  monomial_variables : (a : List ℕ) → length a ≡ length S.weights → InVariables S.field (length S.weights) (single a)
  unfolding key
  monomial_variables a wide = supp_single S.field (λ t. length t.1.0 ≤ length S.weights) (0, mono a) (of_exponents (length S.weights) a wide).variables

  module _ (a : List ℕ) (small : IsSmallMonomial (length S.weights) a) where
    module _ (b : List ℕ) (c : E) (p : Terms) (same : b ≡ a) (unit : c ≡ S.field.one) (made : IsVectorOf S (λ m. m) (x (record { coef = c; at = record { pos = 0; mono = b } } ∷ [])) p) where
      term_is : x (record { coef = c; at = record { pos = 0; mono = b } } ∷ []) ≡ single a
      unfolding key
      term_is = vec_scaled S.field ((0, b), c) ∙ scale_one S (λ (m : List ℕ). m) c unit _ ∙ ap (λ (l : List ℕ). single_vector S.field (0, mono l)) same

      pub monomial_is : x p ≡ single a
      monomial_is = made.is ∙ term_is

      pub monomial_small : IsSmallForm S p
      monomial_small = small_form (total a) p small.low
          (record { fits = made.fits; position = made.position (subst (IsPolynomial S.field) (sym term_is) (supp_single S.field (λ t. t.0 ≡ 0) (0, mono a) refl)) })
          (subst (IsForm S.field (unit_weights S) (total a)) (sym monomial_is) (monomial_form a small.wide))

    -- its average
    pub average_small : (R : Averaging E) → AveragesOn S R → (f p : Terms) → x f ≡ single a → IsPolyOf S (λ m. m) (reynolds S.field (size R.elements) R (x f)) p → IsSmallForm S p
    average_small R on f p is made = small_form (total a) p small.low (record { fits = made.fits; position = made.position })
        (subst (IsForm S.field (unit_weights S) (total a)) (sym (made.is ∙ ap (reynolds S.field (size R.elements) R) is))
        (average_form S.field (size R.elements) R.factor (cells_of R.elements) (length S.weights) on.within (total a) (single a) (monomial_variables a small.wide) (monomial_form a small.wide)))
