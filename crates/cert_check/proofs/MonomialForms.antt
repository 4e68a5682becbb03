-- A monomial as a polynomial, and the exponents of its terms.
use Rattle.std.proofs.Common.{◌≡◌, ◌∙◌, ◌≤◌, ℕ, List, [], ◌∷◌, length, map, refl, sym, ap, subst, arith}
use Rattle.std.specs.Prelude.{All}
use Rattle.std.proofs.lemmas.List.Elements.{All-nil, All-cons}
use Rattle.alg_core.specs.Keys.{key}
use Rattle.alg_core.specs.Monomials.{mono}
use Rattle.alg_core.specs.Spaces.{SpaceOver, entries}
use Rattle.alg_core.specs.Vectors.{Vect, Entry}
use Rattle.alg_core.specs.declared.term.Term.{Term}
use Rattle.poly_module.proofs.ExponentBounds.{vec_scaled}
use Rattle.poly_module.specs.Forms.{IsForm, OfDegree}
use Rattle.poly_module.specs.GreatestExponents.{total, greatest}
use Rattle.poly_module.specs.Parts.{IsPolynomial, supp_single}
use Rattle.poly_module.specs.Polynomials.{single_vector}
use Rattle.poly_module.specs.Sizes.{IsLow}
use Rattle.poly_module.specs.SpaceVectors.{IsPolyOf, IsVectorOf, vector_of}
use Rattle.poly_module.proofs.PowerSteps.{scale_one}
use Rattle.poly_module.proofs.SpaceVectorLaws.{poly_given, poly_of}
use Rattle.secondary_gens.specs.Forms.{unit_weights, IsSmallForm}
use Rattle.secondary_gens.proofs.KeepSteps.{form_small}
use Rattle.secondary_gens.proofs.MonomialDegrees.{of_exponents}

module _ (S : SpaceOver ℕ) (a : List ℕ) where
  abbrev single : Vect S.field
  single = single_vector S.field (0, mono a)

  polynomial : IsPolynomial S.field single
  polynomial = supp_single S.field (λ t. t.0 ≡ 0) (0, mono a) refl

  -- it is made of one term
  pub monomial_given : (b : List ℕ) (c : ℕ) (p : List (Term ℕ (List ℕ))) → b ≡ a → c ≡ S.field.one
      → IsVectorOf S (λ m. m) (vector_of S (λ m. m) (record { coef = c; at = record { pos = 0; mono = b } } ∷ [])) p → IsPolyOf S (λ m. m) (single_vector S.field (0, mono a)) p
  unfolding key
  monomial_given b c p same unit made = poly_given S (λ (m : List ℕ). m) single p (subst (λ u. IsVectorOf S (λ m. m) u p) term_is made) polynomial
    where
      term_is : vector_of S (λ m. m) (record { coef = c; at = record { pos = 0; mono = b } } ∷ []) ≡ single_vector S.field (0, mono a)
      term_is = vec_scaled S.field ((0, b), c) ∙ scale_one S (λ (m : List ℕ). m) c unit _ ∙ ap (λ (l : List ℕ). single_vector S.field (0, mono l)) same

  -- of the degree of the monomial
  form : length a ≡ length S.weights → IsForm S.field (unit_weights S) (total a) single
  unfolding key
  form wide = supp_single S.field (OfDegree S.field (unit_weights S) (total a)) (0, mono a) (refl, (of_exponents (length S.weights) a wide).degree)

  small-low : (p : List (Term ℕ (List ℕ))) → IsSmallForm S p → IsLow 4294967295 (λ m. m) p
  small-low p h = let low = h.small in each (entries (λ m. m) p) (omega arith)
    where
      each : (es : List (Entry ℕ)) → greatest (map (λ e. total e.0.1) es) ≤ 4294967295 → All (λ e. total e.0.1 ≤ 4294967295) es
      each [] h = All-nil (λ (e : Entry ℕ). total e.0.1 ≤ 4294967295)
      each (e ∷ es) h = All-cons (λ (e : Entry ℕ). total e.0.1 ≤ 4294967295) e es (omega arith) (each es (omega arith))

  pub monomial_low : length a ≡ length S.weights → total a ≤ 4096 → (p : List (Term ℕ (List ℕ))) → IsPolyOf S (λ m. m) (single_vector S.field (0, mono a)) p → IsLow 4294967295 (λ m. m) p
  monomial_low wide low [] made = All-nil (λ (e : Entry ℕ). total e.0.1 ≤ 4294967295)
  monomial_low wide low (t ∷ p) made =
      small-low (t ∷ p) (form_small S (total a) (t ∷ p) (omega (arith, low)) (poly_of S (λ (m : List ℕ). m) single (t ∷ p) made)
      (subst (IsForm S.field (unit_weights S) (total a)) (sym made.is) (form wide)) (λ e. absurd (omega (arith, ap length e))))
