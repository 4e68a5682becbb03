-- The places of polynomials, and the monomials of 1 and of a variable.
use Rattle.std.proofs.Common.{◌≡◌, ◌<◌, ℕ, zero, suc, List, [], ◌∷◌, length, replicate, slice_set, refl, sym, ap, subst, ◌∙◌, arith}
use Rattle.alg_core.proofs.MonomialLists.{exponent_zeros}
use Rattle.alg_core.specs.Monomials.{Mon, monomials, mono, mono_ext, exponent, exponent_mono, exponent_one, mon_ext}
use Rattle.alg_core.specs.Keys.{key}
use Rattle.alg_core.specs.Vectors.{scale}
use Rattle.alg_core.specs.declared.term.Term.{Term}
use Rattle.alg_core.specs.Spaces.{SpaceOver, IsPlace}
use Rattle.poly_module.specs.Parts.{supp_scale}
use Rattle.poly_module.specs.Polynomials.{single_vector, one_vector}
use Rattle.poly_module.specs.Products.{one_vector_single}
use Rattle.poly_module.specs.MonomialVariables.{variable, after_zeros}
use Rattle.poly_module.specs.Substitutions.{variable_vector}
use Rattle.poly_module.specs.SpaceVectors.{vector_of, IsVectorOf, IsPolyOf, HasPolynomials}
use Rattle.poly_module.proofs.ExponentBounds.{vec_scaled}
use Rattle.poly_module.proofs.ModuleElements.{polynomial_single}
use Rattle.poly_module.proofs.PowerSteps.{scale_one}
use Rattle.poly_module.proofs.SpaceVectorLaws.{vector_given, poly_given}

pub length_zeros : (n : ℕ) → length {A = ℕ} (replicate n 0) ≡ n
length_zeros zero = refl
length_zeros (suc n) = ap suc (length_zeros n)

-- the place of the monomial 1
pub mono_zeros : (n : ℕ) → ◌≡◌ {A = ℕ × Mon} (0, mono (replicate n 0)) (0, monomials.one)
mono_zeros n = ap (λ (m : Mon). (0, m)) (mon_ext (mono (replicate n 0)) monomials.one (λ i. exponent_mono (replicate n 0) i ∙ exponent_zeros n i ∙ sym (exponent_one i)))

-- the exponents of a variable
pub mono_set : (n i : ℕ) → i < n → mono (slice_set (replicate n 0) i 1) ≡ variable i
unfolding variable after_zeros
mono_set n i h = mono_ext _ (after_zeros i (1 ∷ [])) (at n i h)
  where
    at : (n i : ℕ) → i < n → (j : ℕ) → exponent (slice_set (replicate n 0) i 1) j ≡ exponent (after_zeros i (1 ∷ [])) j
    at zero i h j = absurd (omega arith)
    at (suc n) zero h zero = refl
    at (suc n) zero h (suc j) = exponent_zeros n j
    at (suc n) (suc i) h zero = refl
    at (suc n) (suc i) h (suc j) = at n i (omega arith) j

module _ {E : Type 0} (S : SpaceOver E) where
  -- each monomial in the variables of the space is a place of it
  pub polynomial_place : HasPolynomials S → (a : List ℕ) → length a ≡ length S.weights → IsPlace S (0, a)
  polynomial_place h a wide =
      let p = h.constants in
      record {
        fits = ap (S.order.fits 0) (wide ∙ sym (length_zeros (length S.weights))) ∙ p.fits;
        wide = wide;
        low = p.low;
      }

  -- the vector of one term at position 0
  pub monomial_given : (c : E) (a : List ℕ) (p : List (Term E (List ℕ))) → IsVectorOf S (λ m. m) (vector_of S (λ m. m) (record { coef = c; at = record { pos = 0; mono = a } } ∷ [])) p
      → IsPolyOf S (λ m. m) (scale S.field c (single_vector S.field (0, mono a))) p
  unfolding key
  monomial_given c a p h =
      let is = h.is ∙ vec_scaled S.field ((0, a), c) in
      poly_given S (λ m. m) _ p (vector_given S (λ m. m) _ p h.fits is) (supp_scale S.field (λ t. t.0 ≡ 0) c _ (polynomial_single S.field (mono a)))

  -- 1 and a variable
  pub one_given : (n : ℕ) (c : E) (p : List (Term E (List ℕ))) → c ≡ S.field.one → IsPolyOf S (λ m. m) (scale S.field c (single_vector S.field (0, mono (replicate n 0)))) p → IsPolyOf S (λ m. m) (one_vector S.field) p
  one_given n c p unit h = subst (λ v. IsPolyOf S (λ (m : List ℕ). m) v p)
      (scale_one S (λ (m : List ℕ). m) c unit _ ∙ ap (single_vector S.field) (mono_zeros n) ∙ sym (one_vector_single S.field)) h

  pub variable_given : (n i : ℕ) (c : E) (p : List (Term E (List ℕ))) → i < n → c ≡ S.field.one → IsPolyOf S (λ m. m) (scale S.field c (single_vector S.field (0, mono (slice_set (replicate n 0) i 1)))) p
      → IsPolyOf S (λ m. m) (variable_vector S.field i) p
  unfolding variable_vector
  variable_given n i c p w unit h = subst (λ v. IsPolyOf S (λ (m : List ℕ). m) v p)
      (scale_one S (λ (m : List ℕ). m) c unit _ ∙ ap (λ (m : Mon). single_vector S.field (0, m)) (mono_set n i w)) h
