-- Vectors where each variable after the first n is put to 1.
use Rattle.std.proofs.Common.{◌≡◌, ◌∙◌, ◌+◌, ◌≤◌, ℕ, length, sym, ap, ap₂, subst}
use native.Mathlib.Decide.{ℕ_discrete, dec_le}
use Rattle.alg_core.specs.Rings.{Linear}
use Rattle.alg_core.specs.ModuleLaws as modules
use Rattle.alg_core.specs.Fields.{FieldOn, scalars}
use Rattle.alg_core.specs.FreeModules.{extend, extend_linear, extend_single}
use Rattle.alg_core.specs.Monomials.{Mon, monomials}
use Rattle.alg_core.specs.Keys.{Key, key_same, keys}
use Rattle.alg_core.specs.Vectors.{Vect, vectors, plus, zero_vector, shift}
use Rattle.alg_core.specs.MonomialParts.{variable_part, mark_part, as_marks}
use Rattle.alg_core.proofs.VectorLaws.{shift_linear, shift_single}
use Rattle.alg_core.proofs.MonomialParts.{parts, variable_part_mul, variable_part_same, length_variable_part}
use Rattle.poly_module.specs.Polynomials.{single_vector, product}
use Rattle.poly_module.specs.Products.{product_single}
use Rattle.poly_module.specs.Parts.{Supp, IsPolynomial, InVariables, supp_single, linear_supp, linear_unique_supp}
use Rattle.poly_module.proofs.Marks.{keeps_products}

module _ {E : Type 0} (k : FieldOn E) (n : ℕ) where
  pub stripped : Vect k → Vect k
  stripped = extend (scalars k) key_same (vectors k) (λ t. single_vector k (t.0, variable_part n t.1))

  pub stripped_linear : Linear (vectors k) (vectors k) stripped
  unfolding stripped
  stripped_linear = extend_linear (scalars k) key_same (vectors k) _

  stripped_single : (t : Key) → stripped (single_vector k t) ≡ single_vector k (t.0, variable_part n t.1)
  unfolding stripped single_vector
  stripped_single t = extend_single (scalars k) key_same (vectors k) _ t

  pub stripped_plus : (u v : Vect k) → stripped (plus k u v) ≡ plus k (stripped u) (stripped v)
  unfolding plus
  stripped_plus = stripped_linear.add

  pub stripped_zero : stripped (zero_vector k) ≡ zero_vector k
  unfolding zero_vector
  stripped_zero = modules.linear_zero (vectors k) (vectors k) stripped stripped_linear

  pub stripped_product : (u v : Vect k) → stripped (product k u v) ≡ product k (stripped u) (stripped v)
  unfolding keys
  stripped_product = keeps_products k stripped stripped_linear
      (λ s t. stripped_single (keys.◌·◌ s t) ∙ ap (λ m. single_vector k (s.0 + t.0, m)) (variable_part_mul n s.1 t.1) ∙ sym (ap₂ (product k) (stripped_single s) (stripped_single t) ∙ product_single k (s.0, variable_part n s.1) (t.0, variable_part n t.1)))

  pub stripped_same : (v : Vect k) → InVariables k n v → stripped v ≡ v
  stripped_same = linear_unique_supp k (vectors k) stripped (λ v. v) stripped_linear (modules.linear_same (vectors k)) (λ t. length t.1.0 ≤ n)
      (λ t h. stripped_single t ∙ ap (λ m. single_vector k (t.0, m)) (variable_part_same n t.1 h))

  pub stripped_polynomial : (v : Vect k) → IsPolynomial k v → IsPolynomial k (stripped v)
  stripped_polynomial = linear_supp k stripped stripped_linear (λ t. t.0 ≡ 0) (λ t. t.0 ≡ 0) (λ t. ℕ_discrete t.0 0)
      (λ t h. subst (IsPolynomial k) (sym (stripped_single t)) (supp_single k (λ t. t.0 ≡ 0) (t.0, variable_part n t.1) h))

  pub stripped_variables : (v : Vect k) → InVariables k n (stripped v)
  stripped_variables v = linear_supp k stripped stripped_linear (λ t. Unit {0}) (λ t. length t.1.0 ≤ n) (λ t. dec_le (length t.1.0) n)
      (λ t h. subst (InVariables k n) (sym (stripped_single t)) (supp_single k (λ t. length t.1.0 ≤ n) (t.0, variable_part n t.1) (length_variable_part n t.1))) v (λ t c. tt)

  -- a vector with one part after the first n variables
  pub stripped_back : (u : Mon) (v : Vect k) → Supp k (λ t. mark_part n t.1 ≡ u) v → shift k (as_marks n u) (stripped v) ≡ v
  unfolding single_vector
  stripped_back u = linear_unique_supp k (vectors k) (λ v. shift k (as_marks n u) (stripped v)) (λ v. v)
      (modules.linear_after (vectors k) (vectors k) (vectors k) stripped (shift k (as_marks n u)) stripped_linear (shift_linear k (as_marks n u))) (modules.linear_same (vectors k))
      (λ t. mark_part n t.1 ≡ u)
      (λ t h. ap (shift k (as_marks n u)) (stripped_single t) ∙ shift_single k (as_marks n u) (t.0, variable_part n t.1)
      ∙ ap (λ m. single_vector k (t.0, m)) (monomials.comm (as_marks n u) (variable_part n t.1) ∙ ap (λ w. monomials.◌·◌ (variable_part n t.1) (as_marks n w)) (sym h) ∙ parts n t.1))
