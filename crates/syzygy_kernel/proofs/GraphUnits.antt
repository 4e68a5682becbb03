-- The vector that is 1 at a position.
use Rattle.std.proofs.Common.{◌≡◌, ◌∙◌, ℕ, List, [], ◌∷◌, replicate, ap, subst}
use Rattle.alg_core.specs.Keys.{key}
use Rattle.alg_core.specs.Monomials.{Mon, mono, monomials}
use Rattle.alg_core.specs.Spaces.{SpaceOver}
use Rattle.alg_core.specs.declared.term.Term.{Term}
use Rattle.poly_module.specs.Polynomials.{single_vector}
use Rattle.poly_module.specs.SpaceVectors.{vector_of, IsVectorOf}
use Rattle.poly_module.proofs.ConstantSteps.{mono_zeros}
use Rattle.poly_module.proofs.ExponentBounds.{vec_scaled}
use Rattle.poly_module.proofs.PowerSteps.{scale_one}

module _ {E : Type 0} (T : SpaceOver E) where
  unit_vector : (q : ℕ) (c : E) (a : List ℕ) (n : ℕ) → c ≡ T.field.one → a ≡ replicate n 0
      → vector_of T (λ (m : List ℕ). m) (record { coef = c; at = record { pos = q; mono = a } } ∷ []) ≡ single_vector T.field (q, monomials.one)
  unfolding key
  unit_vector q c a n unit zeros = vec_scaled T.field ((q, a), c) ∙ scale_one T (λ (m : List ℕ). m) c unit _
      ∙ ap (λ (l : List ℕ). single_vector T.field (q, mono l)) zeros ∙ ap (λ (p : ℕ × Mon). single_vector T.field (q, p.1)) (mono_zeros n)

  pub unit_given : (q : ℕ) (c : E) (a : List ℕ) (n : ℕ) (v : List (Term E (List ℕ))) → c ≡ T.field.one → a ≡ replicate n 0
      → IsVectorOf T (λ (m : List ℕ). m) (vector_of T (λ (m : List ℕ). m) (record { coef = c; at = record { pos = q; mono = a } } ∷ [])) v
      → IsVectorOf T (λ (m : List ℕ). m) (single_vector T.field (q, monomials.one)) v
  unit_given q c a n v unit zeros h = subst (λ u. IsVectorOf T (λ (m : List ℕ). m) u v) (unit_vector q c a n unit zeros) h
