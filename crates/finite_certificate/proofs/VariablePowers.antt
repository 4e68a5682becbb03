-- A power of a variable is a monomial, and what a list of exponents with one that is not 0 stands for.
use Rattle.std.proofs.Common.{◌≡◌, ◌∙◌, ◌<◌, ℕ, zero, suc, [], ◌∷◌, replicate, slice_set, refl, sym, ap, arith}
use Rattle.alg_core.specs.Fields.{FieldOn}
use Rattle.alg_core.specs.Keys.{keys}
use Rattle.alg_core.specs.Monomials.{Mon, monomials, mono, mono_ext, exponent}
use Rattle.alg_core.proofs.MonomialLists.{exponent_zeros}
use Rattle.poly_module.specs.MonomialVariables.{variable, after_zeros, mono_variable_power, mono_zeros}
use Rattle.poly_module.specs.Polynomials.{single_vector, vector_ring}
use Rattle.poly_module.specs.Products.{one_vector_single, product_single, ring_product, ring_one}
use Rattle.poly_module.specs.Substitutions.{variable_vector}
use Rattle.finite_certificate.specs.Ideals.{variable_power}

module _ {E : Type 0} (k : FieldOn E) where
  single_mul : (m n : Mon) → (vector_ring k).◌*◌ (single_vector k (0, m)) (single_vector k (0, n)) ≡ single_vector k (0, monomials.◌·◌ m n)
  unfolding keys
  single_mul m n = ring_product k _ _ ∙ product_single k (0, m) (0, n)

  -- the exponent of the variable alone
  pub power_single : (i e : ℕ) → variable_power k i e ≡ single_vector k (0, mono (after_zeros i (e ∷ [])))
  unfolding variable_vector
  power_single i zero = ring_one k ∙ one_vector_single k ∙ ap (λ m. single_vector k (0, m)) (sym (mono_zeros i))
  power_single i (suc e) =
      ap ((vector_ring k).◌*◌ (variable_vector k i)) (power_single i e) ∙ single_mul (variable i) (mono (after_zeros i (e ∷ [])))
      ∙ ap (λ m. single_vector k (0, m)) (sym (mono_variable_power i e))

  set_at : (n i e : ℕ) → i < n → (j : ℕ) → exponent (slice_set (replicate n 0) i e) j ≡ exponent (after_zeros i (e ∷ [])) j
  unfolding after_zeros
  set_at zero i e h j = absurd (omega arith)
  set_at (suc n) zero e h zero = refl
  set_at (suc n) zero e h (suc j) = exponent_zeros n j
  set_at (suc n) (suc i) e h zero = refl
  set_at (suc n) (suc i) e h (suc j) = set_at n i e (omega arith) j

  -- zeros but for the exponent of the variable
  pub power_exponents : (n i e : ℕ) → i < n → single_vector k (0, mono (slice_set (replicate n 0) i e)) ≡ variable_power k i e
  power_exponents n i e h = ap (λ m. single_vector k (0, m)) (mono_ext (slice_set (replicate n 0) i e) (after_zeros i (e ∷ [])) (set_at n i e h)) ∙ sym (power_single i e)
