-- The last part of a vector as a polynomial, and its value.
use Rattle.std.proofs.Common.{◌≡◌, ◌∙◌, ◌+◌, ◌-◌, ◌*◌, ◌<◌, ◌≤◌, ℕ, suc, Bool, List, length, refl, sym, ap, ap₂, subst, arith, suc-mul}
use Rattle.std.specs.Prelude.{All, if◌then◌else◌}
use native.Mathlib.Decide.{dec_le}
use Rattle.alg_core.specs.Fields.{FieldOn, scalars}
use Rattle.alg_core.specs.FreeModules.{extend_linear, extend_single}
use Rattle.alg_core.specs.Keys.{Key, key_same, keys}
use Rattle.alg_core.specs.ModuleLaws as modules
use Rattle.alg_core.specs.MonomialParts.{as_marks}
use Rattle.alg_core.specs.Monomials.{Mon, monomials}
use Rattle.alg_core.specs.Rings.{Linear}
use Rattle.alg_core.specs.Vectors.{Vect, vectors, zero_vector}
use Rattle.alg_core.proofs.NumberTests.{is_below, not_below}
use Rattle.poly_module.specs.Combinations.{IsCombination, mark_value}
use Rattle.poly_module.specs.Forms.{dec_both}
use Rattle.poly_module.specs.Parts.{Supp, supp_single, linear_supp, linear_unique_supp}
use Rattle.poly_module.specs.Polynomials.{single_vector, product, vector_ring}
use Rattle.poly_module.specs.Products.{product_comm, product_linear_left, product_single, product_zero}
use Rattle.poly_module.specs.Substitutions.{monomial_value, substitute_product, substitute_single, substitute_zero}
use Rattle.poly_module.specs.Variables.{substitute_linear}
use Rattle.poly_module.proofs.CombinationLaws.{combination_value_linear, combination_value_single}
use Rattle.poly_module.proofs.Marks.{agree, in_marks_single, mark_value_in_marks}
use Rattle.poly_module.proofs.MarkValues.{mark_value_polynomial}
use Rattle.lin_algebra.specs.declared.matrix.Matrix.{Matrix}
use Rattle.primary_module.specs.Positions.{key_from_position, from_positions, part_at}
use Rattle.primary_module.proofs.Places.{part_wide}
use Rattle.primary_module.proofs.Translations.{from_linear, from_single}
use Rattle.syzygy_kernel.specs.Graphs.{part_values, last_value, last_part, last_term}
use Rattle.syzygy_kernel.proofs.PartValues.{part_early, part_own}

module _ {E : Type 0} (k : FieldOn E) (n : ℕ) (gens : List (Matrix E)) (B : List (List ℕ)) where
  abbrev first : ℕ
  first = length gens * length B

  pub last_linear : Linear (vectors k) (vectors k) (last_part k n gens B)
  unfolding last_part
  last_linear = extend_linear (scalars k) key_same (vectors k) _

  last_single : (t : Key) → last_part k n gens B (single_vector k t) ≡ last_term k n gens B t
  unfolding last_part single_vector
  last_single t = extend_single (scalars k) key_same (vectors k) _ t

  pub last_early : (t : Key) → t.0 < length gens * length B → last_part k n gens B (single_vector k t) ≡ zero_vector k
  last_early t h = last_single t
      ∙ ap (λ (b : Bool). if b then zero_vector k else single_vector k (key_from_position k n B (t.0 - length gens * length B, t.1))) (is_below t.0 (length gens * length B) h)

  pub last_own : (t : Key) → length gens * length B ≤ t.0 → last_part k n gens B (single_vector k t) ≡ single_vector k (key_from_position k n B (t.0 - length gens * length B, t.1))
  last_own t h = last_single t
      ∙ ap (λ (b : Bool). if b then zero_vector k else single_vector k (key_from_position k n B (t.0 - length gens * length B, t.1))) (not_below t.0 (length gens * length B) h)

  -- a vector at the positions of the last part
  pub lifted : Vect k → Vect k
  lifted v = product k v (single_vector k (length gens * length B, monomials.one))

  lifted_key : (s : Key) → keys.◌·◌ s (length gens * length B, monomials.one) ≡ (s.0 + length gens * length B, s.1)
  unfolding keys
  lifted_key s = ap (λ (m : Mon). (s.0 + length gens * length B, m)) (monomials.mul_one s.1)

  lifted_single : (s : Key) → lifted (single_vector k s) ≡ single_vector k (s.0 + length gens * length B, s.1)
  unfolding lifted
  lifted_single s = product_single k s (length gens * length B, monomials.one) ∙ ap (single_vector k) (lifted_key s)

  lifted_linear : Linear (vectors k) (vectors k) lifted
  unfolding lifted
  lifted_linear = product_linear_left k (single_vector k (length gens * length B, monomials.one))

  pub last_lifted : (v : Vect k) → last_part k n gens B (lifted v) ≡ from_positions k n B v
  last_lifted = agree k (λ v. last_part k n gens B (lifted v)) (from_positions k n B)
      (modules.linear_after (vectors k) (vectors k) (vectors k) lifted (last_part k n gens B) lifted_linear last_linear) (from_linear k n B)
      (λ s. ap (last_part k n gens B) (lifted_single s) ∙ last_own (s.0 + length gens * length B, s.1) (omega arith)
      ∙ ap (λ (j : ℕ). single_vector k (key_from_position k n B (j, s.1))) (omega arith) ∙ sym (from_single k n B s))

  pub lifted_positions : (r : ℕ) (v : Vect k) → IsCombination k r (length B) v → IsCombination k r (suc (length gens) * length B) (lifted v) × Supp k (λ t. length gens * length B ≤ t.0) (lifted v)
  lifted_positions r v h = (
    linear_supp k lifted lifted_linear (λ t. (length t.1.0 ≤ r) × (t.0 < length B)) (λ t. (length t.1.0 ≤ r) × (t.0 < suc (length gens) * length B))
        (λ t. dec_both (dec_le (length t.1.0) r) (dec_le (suc t.0) (suc (length gens) * length B)))
        (λ s q. subst (IsCombination k r (suc (length gens) * length B)) (sym (lifted_single s))
        (supp_single k (λ t. (length t.1.0 ≤ r) × (t.0 < suc (length gens) * length B)) (s.0 + length gens * length B, s.1)
        (q.0, (let l = q.1 in let e = suc-mul (length gens) (length B) in omega arith)))) v h,
    linear_supp k lifted lifted_linear (λ t. Unit {0}) (λ t. length gens * length B ≤ t.0) (λ t. dec_le (length gens * length B) t.0)
        (λ s q. subst (Supp k (λ t. length gens * length B ≤ t.0)) (sym (lifted_single s))
        (supp_single k (λ t. length gens * length B ≤ t.0) (s.0 + length gens * length B, s.1) (omega arith))) v (λ t c. tt),
  )

  module _ (θ : List (Vect k)) (wide : All (λ b. length b ≡ n) B) where
    -- the value of a polynomial in the marks times a monomial of the list
    pub polynomial_value : (t : Key) → t.0 < length B → mark_value k n θ (single_vector k (key_from_position k n B t)) ≡ product k (monomial_value (vector_ring k) θ t.1.0) (single_vector k (0, part_at B t.0))
    unfolding keys
    polynomial_value t h =
        let P : Mon = part_at B t.0 in
        let short : length (part_at B t.0).0 ≤ n = part_wide n B wide t.0 h in
        let marks : mark_value k n θ (single_vector k (0, as_marks n t.1)) ≡ monomial_value (vector_ring k) θ t.1.0 =
        ap (mark_value k n θ) (sym (in_marks_single k n (0, t.1))) ∙ mark_value_in_marks k n θ (single_vector k (0, t.1)) ∙ substitute_single k θ (0, t.1) in
        let part : mark_value k n θ (single_vector k (0, P)) ≡ single_vector k (0, P) =
        mark_value_polynomial k n θ (single_vector k (0, P)) (supp_single k (λ s. s.0 ≡ 0) (0, P) refl) (supp_single k (λ s. length s.1.0 ≤ n) (0, P) short) in
        ap (mark_value k n θ) (sym (product_single k (0, P) (0, as_marks n t.1)))
        ∙ substitute_product k _ (single_vector k (0, P)) (single_vector k (0, as_marks n t.1))
        ∙ ap₂ (product k) part marks ∙ product_comm k _ _

    abbrev S : List (Vect k)
    S = part_values k B (suc (length gens)) (length gens)

    value_single : (t : Key) → t.0 < suc (length gens) * length B → mark_value k n θ (last_part k n gens B (single_vector k t)) ≡ last_value k θ gens B (single_vector k t)
    value_single t h = go (dec_le (length gens * length B) t.0)
      where
        go : Dec (length gens * length B ≤ t.0) → mark_value k n θ (last_part k n gens B (single_vector k t)) ≡ last_value k θ gens B (single_vector k t)
        go (yes p) = ap (mark_value k n θ) (last_own t p) ∙ polynomial_value (t.0 - length gens * length B, t.1) (let e = suc-mul (length gens) (length B) in omega arith)
            ∙ sym (combination_value_single k θ S t ∙ ap (product k (monomial_value (vector_ring k) θ t.1.0)) (part_own k B (suc (length gens)) (length gens) t.0 (omega arith) p h))
        go (no p) = ap (mark_value k n θ) (last_early t (omega arith)) ∙ substitute_zero k _
            ∙ sym (combination_value_single k θ S t ∙ ap (product k (monomial_value (vector_ring k) θ t.1.0)) (part_early k B (suc (length gens)) (length gens) t.0 (omega arith)) ∙ product_zero k _)

    -- the value of the last part
    pub value_of_last : (w : Vect k) → Supp k (λ t. t.0 < suc (length gens) * length B) w → mark_value k n θ (last_part k n gens B w) ≡ last_value k θ gens B w
    value_of_last = linear_unique_supp k (vectors k) (λ w. mark_value k n θ (last_part k n gens B w)) (last_value k θ gens B)
        (modules.linear_after (vectors k) (vectors k) (vectors k) (last_part k n gens B) (mark_value k n θ) last_linear (substitute_linear k _))
        (combination_value_linear k θ S) (λ t. t.0 < suc (length gens) * length B) value_single
