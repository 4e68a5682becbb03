-- Variables as marks and marks as variables: linear, with products, values and degrees.
use Rattle.std.proofs.Common.{◌≡◌, ℕ, ◌+◌, ◌≤◌, List, [], ◌∷◌, ◌++◌, length, replicate, sym, ap, ap₂, ◌∙◌, refl, subst, arith}
use native.Mathlib.Decide.{ℕ_discrete, dec_le}
use Rattle.alg_core.specs.Rings.{Ring, Linear}
use Rattle.alg_core.specs.RingLaws as rings
use Rattle.alg_core.specs.ModuleLaws as modules
use Rattle.alg_core.specs.Fields.{FieldOn, scalars}
use Rattle.alg_core.specs.FreeModules.{extend_linear, extend_single}
use Rattle.alg_core.specs.Monomials.{Mon}
use Rattle.alg_core.specs.Keys.{Key, key_same, keys}
use Rattle.alg_core.specs.MonomialParts.{variable_part, mark_part, as_marks, key_as_marks}
use Rattle.alg_core.proofs.MonomialParts.{parts, as_marks_mul, mark_part_as_marks, length_as_marks, weight_as_marks}
use Rattle.alg_core.specs.Vectors.{Vect, vectors}
use Rattle.poly_module.specs.Polynomials.{single_vector, product, vector_ring}
use Rattle.poly_module.specs.Products.{product_linear, product_linear_left, product_single}
use Rattle.poly_module.specs.Substitutions.{monomial_value, monomial_value_mono, substitute, substitute_single}
use Rattle.poly_module.specs.Parts.{IsPolynomial, InVariables, supp_single, linear_supp, linear_unique_supp}
use Rattle.poly_module.specs.Variables.{variables, length_variables, substitute_linear}
use Rattle.poly_module.specs.Degrees.{IsGraded}
use Rattle.poly_module.specs.Forms.{key_weight}
use Rattle.poly_module.specs.Combinations.{mark_value}
use Rattle.poly_module.specs.Marks.{in_marks, from_marks}

module _ {E : Type 0} (k : FieldOn E) where
  -- linear functions that agree on single keys agree
  pub agree : (f g : Vect k → Vect k) → Linear (vectors k) (vectors k) f → Linear (vectors k) (vectors k) g → ((t : Key) → f (single_vector k t) ≡ g (single_vector k t)) → (u : Vect k) → f u ≡ g u
  agree f g lf lg e u = linear_unique_supp k (vectors k) f g lf lg (λ t. Unit {0}) (λ t h. e t) u (λ t c. tt)

  -- a linear function whose values multiply on single keys keeps products
  pub keeps_products : (f : Vect k → Vect k) → Linear (vectors k) (vectors k) f
      → ((s t : Key) → f (single_vector k (keys.◌·◌ s t)) ≡ product k (f (single_vector k s)) (f (single_vector k t))) → (u v : Vect k) → f (product k u v) ≡ product k (f u) (f v)
  keeps_products f lf e u v = agree (λ u. f (product k u v)) (λ u. product k (f u) (f v))
      (modules.linear_after (vectors k) (vectors k) (vectors k) (λ u. product k u v) f (product_linear_left k v) lf)
      (modules.linear_after (vectors k) (vectors k) (vectors k) f (λ u. product k u (f v)) lf (product_linear_left k (f v)))
      (λ s. agree (λ v. f (product k (single_vector k s) v)) (λ v. product k (f (single_vector k s)) (f v))
      (modules.linear_after (vectors k) (vectors k) (vectors k) (product k (single_vector k s)) f (product_linear k (single_vector k s)) lf)
      (modules.linear_after (vectors k) (vectors k) (vectors k) f (product k (f (single_vector k s))) lf (product_linear k (f (single_vector k s))))
      (λ t. ap f (product_single k s t) ∙ e s t) v) u

  module _ (n : ℕ) where
    pub in_marks_linear : Linear (vectors k) (vectors k) (in_marks k n)
    unfolding in_marks
    in_marks_linear = extend_linear (scalars k) key_same (vectors k) _

    pub in_marks_single : (t : Key) → in_marks k n (single_vector k t) ≡ single_vector k (key_as_marks n t)
    unfolding in_marks single_vector
    in_marks_single t = extend_single (scalars k) key_same (vectors k) _ t

    pub from_marks_linear : Linear (vectors k) (vectors k) (from_marks k n)
    unfolding from_marks
    from_marks_linear = extend_linear (scalars k) key_same (vectors k) _

    pub from_marks_single : (t : Key) → from_marks k n (single_vector k t) ≡ single_vector k (t.0, mark_part n t.1)
    unfolding from_marks single_vector
    from_marks_single t = extend_single (scalars k) key_same (vectors k) _ t

    pub from_marks_in_marks : (u : Vect k) → from_marks k n (in_marks k n u) ≡ u
    from_marks_in_marks = agree (λ u. from_marks k n (in_marks k n u)) (λ u. u)
        (modules.linear_after (vectors k) (vectors k) (vectors k) (in_marks k n) (from_marks k n) in_marks_linear from_marks_linear) (modules.linear_same (vectors k))
        (λ t. ap (from_marks k n) (in_marks_single t) ∙ from_marks_single (key_as_marks n t) ∙ ap (λ m. single_vector k (t.0, m)) (mark_part_as_marks n t.1))

    pub in_marks_product : (u v : Vect k) → in_marks k n (product k u v) ≡ product k (in_marks k n u) (in_marks k n v)
    unfolding keys
    in_marks_product = keeps_products (in_marks k n) in_marks_linear
        (λ s t. in_marks_single (keys.◌·◌ s t) ∙ ap (λ m. single_vector k (s.0 + t.0, m)) (as_marks_mul n s.1 t.1) ∙ sym (ap₂ (product k) (in_marks_single s) (in_marks_single t) ∙ product_single k (key_as_marks n s) (key_as_marks n t)))

    -- positions stay
    pub in_marks_polynomial : (u : Vect k) → IsPolynomial k u → IsPolynomial k (in_marks k n u)
    in_marks_polynomial = linear_supp k (in_marks k n) in_marks_linear (λ t. t.0 ≡ 0) (λ t. t.0 ≡ 0) (λ t. ℕ_discrete t.0 0)
        (λ t h. subst (IsPolynomial k) (sym (in_marks_single t)) (supp_single k (λ t. t.0 ≡ 0) (key_as_marks n t) h))

    pub in_marks_variables : (r : ℕ) (u : Vect k) → InVariables k r u → InVariables k (n + r) (in_marks k n u)
    in_marks_variables r = linear_supp k (in_marks k n) in_marks_linear (λ t. length t.1.0 ≤ r) (λ t. length t.1.0 ≤ n + r) (λ t. dec_le _ _)
        (λ t h. subst (InVariables k (n + r)) (sym (in_marks_single t)) (supp_single k (λ t. length t.1.0 ≤ n + r) (key_as_marks n t) (let l = length_as_marks n t.1 in omega arith)))

    -- a monomial at position q is its part in the variables times its part in the marks
    pub single_parts : (q : ℕ) (m : Mon) → single_vector k (q, m) ≡ product k (single_vector k (0, variable_part n m)) (in_marks k n (single_vector k (q, mark_part n m)))
    unfolding keys
    single_parts q m = let zero_first : q ≡ 0 + q = omega arith in
        ap₂ (λ i a. single_vector k (i, a)) zero_first (sym (parts n m))
        ∙ sym (ap (product k (single_vector k (0, variable_part n m))) (in_marks_single (q, mark_part n m)) ∙ product_single k (0, variable_part n m) (q, as_marks n (mark_part n m)))

  -- the degrees of the marks are those of the variables
  pub in_marks_graded : (ws ds : List ℕ) (d : ℕ) (u : Vect k) → InVariables k (length ds) u → IsGraded k (key_weight ds) d u → IsGraded k (key_weight (ws ++ ds)) d (in_marks k (length ws) u)
  in_marks_graded ws ds d u v h = linear_supp k (in_marks k (length ws)) (in_marks_linear (length ws)) (λ t. (length t.1.0 ≤ length ds) × (key_weight ds t ≡ d)) (λ t. key_weight (ws ++ ds) t ≡ d) (λ t. ℕ_discrete _ d)
      (λ t q. subst (IsGraded k (key_weight (ws ++ ds)) d) (sym (in_marks_single (length ws) t)) (supp_single k (λ t. key_weight (ws ++ ds) t ≡ d) (key_as_marks (length ws) t) (weight_as_marks ws ds t.1 q.0 ∙ q.1)))
      u (λ t c. (v t c, h t c))

module _ {S : Type 0} (Y : Ring S) where
  -- marks after variables that do not occur
  monomial_value_after : (xs ys : List S) (a : List ℕ) → monomial_value Y (xs ++ ys) (replicate (length xs) 0 ++ a) ≡ monomial_value Y ys a
  monomial_value_after [] ys a = refl
  monomial_value_after (x ∷ xs) ys a = rings.one_mul Y _ ∙ monomial_value_after xs ys a

module _ {E : Type 0} (k : FieldOn E) (n : ℕ) where
  -- the value of what is moved into marks is a substitution
  pub mark_value_in_marks : (θ : List (Vect k)) (u : Vect k) → mark_value k n θ (in_marks k n u) ≡ substitute k θ u
  unfolding as_marks
  mark_value_in_marks θ = agree k (λ u. mark_value k n θ (in_marks k n u)) (substitute k θ)
      (modules.linear_after (vectors k) (vectors k) (vectors k) (in_marks k n) (mark_value k n θ) (in_marks_linear k n) (substitute_linear k (variables k n ++ θ))) (substitute_linear k θ)
      (λ t. ap (mark_value k n θ) (in_marks_single k n t) ∙ substitute_single k (variables k n ++ θ) (key_as_marks n t)
      ∙ monomial_value_mono (vector_ring k) (variables k n ++ θ) (replicate n 0 ++ t.1.0)
      ∙ ap (λ j. monomial_value (vector_ring k) (variables k n ++ θ) (replicate j 0 ++ t.1.0)) (sym (length_variables k n))
      ∙ monomial_value_after (vector_ring k) (variables k n) θ t.1.0 ∙ sym (substitute_single k θ t))
