-- An element of the graph is determined by the value of its last part.
use Rattle.std.proofs.Common.{◌≡◌, ◌∙◌, ◌+◌, ◌-◌, ◌*◌, ◌<◌, ◌≤◌, ℕ, zero, suc, List, [], ◌∷◌, length, refl, sym, ap, subst, arith, suc-mul, zero-mul}
use Rattle.std.specs.Prelude.{Some, slice_get}
use native.Mathlib.Decide.{dec_le}
use Rattle.alg_core.specs.Fields.{FieldOn, scalars}
use Rattle.alg_core.specs.FreeModules.{extend, extend_linear, extend_single}
use Rattle.alg_core.specs.Keys.{Key, key_same, keys}
use Rattle.alg_core.specs.ModuleLaws as modules
use Rattle.alg_core.specs.Monomials.{Mon, monomials}
use Rattle.alg_core.specs.Rings.{Linear}
use Rattle.alg_core.specs.Vectors.{Vect, vectors, coef_at, plus, zero_vector}
use Rattle.alg_core.proofs.VectorLaws.{coef_at_ext, plus_cancel, plus_comm}
use Rattle.poly_module.specs.Combinations.{IsCombination, combination_value, mark_value}
use Rattle.poly_module.specs.Forms.{dec_both}
use Rattle.poly_module.specs.Modules.{listed}
use Rattle.poly_module.specs.Parts.{Supp, supp_single, supp_outside, linear_supp, linear_unique_supp, select, select_linear, select_inside, select_single_yes, select_single_no, select_supp, supp_select}
use Rattle.poly_module.specs.Polynomials.{single_vector, product, vector_ring}
use Rattle.poly_module.specs.Products.{product_linear_left, product_single, product_zero}
use Rattle.poly_module.specs.Substitutions.{monomial_value}
use Rattle.poly_module.specs.Variables.{substitute_linear}
use Rattle.poly_module.proofs.CombinationLaws.{combination_value_linear, combination_value_single, combination_value_zero}
use Rattle.lin_algebra.specs.declared.matrix.Matrix.{Matrix}
use Rattle.matrix_group.specs.Actions.{act_by}
use Rattle.finite_certificate.specs.StandardMonomials.{AreStandardMonomials, IsCoordinates, CoordinatesAreUnique}
use Rattle.primary_module.specs.Positions.{at_positions, from_positions}
use Rattle.primary_module.proofs.Places.{standard_different, standard_parts}
use Rattle.primary_module.proofs.Translations.{from_linear, from_single, from_mixed, at_from}
use Rattle.syzygy_kernel.specs.GraphVectors.{raised}
use Rattle.syzygy_kernel.specs.Graphs.{part_values, part_value, last_value, InGraph}
use Rattle.syzygy_kernel.proofs.LastParts.{polynomial_value}
use Rattle.syzygy_kernel.proofs.PartValues.{part_early, part_late, part_own}

place_there : {A : Type 0} (xs : List A) (j : ℕ) → j < length xs → (x : A) × (slice_get xs j ≡ Some x)
place_there [] j h = absurd (omega arith)
place_there (y ∷ xs) zero h = (y, refl)
place_there (y ∷ xs) (suc j) h = place_there xs j (omega arith)

-- the block of a position
block_of : (b c q : ℕ) → q < c * b → (i : ℕ) × (i < c) × (i * b ≤ q) × (q < suc i * b)
block_of b zero q h = absurd (let z = zero-mul b in omega arith)
block_of b (suc c) q h = go (block_of b c q) (dec_le (suc q) (c * b))
  where
    go : (q < c * b → (i : ℕ) × (i < c) × (i * b ≤ q) × (q < suc i * b)) → Dec (suc q ≤ c * b) → (i : ℕ) × (i < suc c) × (i * b ≤ q) × (q < suc i * b)
    go before (yes p) = let r = before p in (r.0, (let l = r.1 in omega arith), r.2, r.3)
    go before (no p) = (c, omega arith, omega arith, h)

module _ {E : Type 0} (k : FieldOn E) (low : ℕ) where
  -- positions moved down, and up again
  unfoldable pub lower : Vect k → Vect k
  lower = extend (scalars k) key_same (vectors k) (λ t. single_vector k (t.0 - low, t.1))

  pub lower_linear : Linear (vectors k) (vectors k) lower
  unfolding lower
  lower_linear = extend_linear (scalars k) key_same (vectors k) _

  pub lower_single : (t : Key) → lower (single_vector k t) ≡ single_vector k (t.0 - low, t.1)
  unfolding lower single_vector
  lower_single t = extend_single (scalars k) key_same (vectors k) _ t

  pub raise_linear : Linear (vectors k) (vectors k) (raised k low)
  raise_linear = product_linear_left k _

  raise_key : (s : Key) → keys.◌·◌ s (low, monomials.one) ≡ (s.0 + low, s.1)
  unfolding keys
  raise_key s = ap (λ (m : Mon). (s.0 + low, m)) (monomials.mul_one s.1)

  pub raise_single : (s : Key) → raised k low (single_vector k s) ≡ single_vector k (s.0 + low, s.1)
  raise_single s = product_single k s (low, monomials.one) ∙ ap (single_vector k) (raise_key s)

  raise_lower : (x : Vect k) → Supp k (λ t. low ≤ t.0) x → raised k low (lower x) ≡ x
  raise_lower = linear_unique_supp k (vectors k) (λ x. raised k low (lower x)) (λ x. x)
      (modules.linear_after (vectors k) (vectors k) (vectors k) lower (raised k low) lower_linear raise_linear) (modules.linear_same (vectors k)) (λ t. low ≤ t.0)
      (λ t q. ap (raised k low) (lower_single t) ∙ raise_single (t.0 - low, t.1) ∙ ap (λ (j : ℕ). single_vector k (j, t.1)) (omega arith))

  lower_keys : (r b : ℕ) (x : Vect k) → Supp k (λ t. (length t.1.0 ≤ r) × (low ≤ t.0) × (t.0 < low + b)) x → IsCombination k r b (lower x)
  lower_keys r b = linear_supp k lower lower_linear (λ t. (length t.1.0 ≤ r) × (low ≤ t.0) × (t.0 < low + b)) (λ t. (length t.1.0 ≤ r) × (t.0 < b))
      (λ t. dec_both (dec_le (length t.1.0) r) (dec_le (suc t.0) b))
      (λ t q. subst (IsCombination k r b) (sym (lower_single t)) (supp_single k (λ t. (length t.1.0 ≤ r) × (t.0 < b)) (t.0 - low, t.1) (q.0, (let l = q.1 in let h = q.2 in omega arith))))

module _ {E : Type 0} (k : FieldOn E) (n : ℕ) (θ : List (Vect k)) (B : List (List ℕ)) (standard : AreStandardMonomials k n θ B) (c i : ℕ) (within : i < c) where
  abbrev InBlock : Key → Type 0
  InBlock t = (i * length B ≤ t.0) × (t.0 < suc i * length B)

  pub block_test : (t : Key) → Dec ((i * length B ≤ t.0) × (t.0 < suc i * length B))
  block_test t = dec_both (dec_le (i * length B) t.0) (dec_le (suc t.0) (suc i * length B))

  unfoldable pub block : Vect k → Vect k
  block w = select k block_test w

  polynomial : Vect k → Vect k
  polynomial w = from_positions k n B (lower k (i * length B) (block w))

  abbrev value : Vect k → Vect k
  value w = combination_value k θ (part_values k B c i) w

  lower_block : (w : Vect k) → Supp k (λ t. length t.1.0 ≤ length θ) w → IsCombination k (length θ) (length B) (lower k (i * length B) (block w))
  unfolding block
  lower_block w h = lower_keys k (i * length B) (length θ) (length B) (block w) (λ t e.
      let p = supp_select k block_test w t e in
      (select_supp k block_test (λ t. length t.1.0 ≤ length θ) w h t e, p.0, (let l = p.1 in let s = suc-mul i (length B) in omega arith)))

  -- the value of a block
  value_at : (t : Key) → (i * length B ≤ t.0) × (t.0 < suc i * length B) → mark_value k n θ (from_positions k n B (lower k (i * length B) (single_vector k t))) ≡ combination_value k θ (part_values k B c i) (single_vector k t)
  value_at t q = ap (λ x. mark_value k n θ (from_positions k n B x)) (lower_single k (i * length B) t) ∙ ap (mark_value k n θ) (from_single k n B (t.0 - i * length B, t.1))
      ∙ polynomial_value k n [] B θ standard.wide (t.0 - i * length B, t.1) (let l = q.0 in let h = q.1 in let s = suc-mul i (length B) in omega arith)
      ∙ sym (combination_value_single k θ (part_values k B c i) t ∙ ap (product k (monomial_value (vector_ring k) θ t.1.0)) (part_own k B c i t.0 within q.0 q.1))

  pub block_value : (x : Vect k) → Supp k (λ t. (i * length B ≤ t.0) × (t.0 < suc i * length B)) x → mark_value k n θ (from_positions k n B (lower k (i * length B) x)) ≡ combination_value k θ (part_values k B c i) x
  block_value = linear_unique_supp k (vectors k) (λ x. mark_value k n θ (from_positions k n B (lower k (i * length B) x))) (combination_value k θ (part_values k B c i))
      (modules.linear_after (vectors k) (vectors k) (vectors k) (λ x. from_positions k n B (lower k (i * length B) x)) (mark_value k n θ)
      (modules.linear_after (vectors k) (vectors k) (vectors k) (lower k (i * length B)) (from_positions k n B) (lower_linear k (i * length B)) (from_linear k n B)) (substitute_linear k _))
      (combination_value_linear k θ _) (λ t. (i * length B ≤ t.0) × (t.0 < suc i * length B)) value_at

  -- the other blocks have no value for this part
  outside_value : (t : Key) → ¬ ((i * length B ≤ t.0) × (t.0 < suc i * length B)) → combination_value k θ (part_values k B c i) (single_vector k t) ≡ zero_vector k
  outside_value t none = combination_value_single k θ (part_values k B c i) t ∙ ap (product k (monomial_value (vector_ring k) θ t.1.0)) (go (dec_le (i * length B) t.0)) ∙ product_zero k _
    where
      go : Dec (i * length B ≤ t.0) → listed k (part_values k B c i) t.0 ≡ zero_vector k
      go (yes p) = part_late k B c i t.0 (later (dec_le (suc t.0) (suc i * length B)))
        where
          later : Dec (suc t.0 ≤ suc i * length B) → suc i * length B ≤ t.0
          later (yes h) = absurd (none (p, h))
          later (no h) = omega arith
      go (no p) = part_early k B c i t.0 (omega arith)

  pub value_block : (w : Vect k) → combination_value k θ (part_values k B c i) (block w) ≡ combination_value k θ (part_values k B c i) w
  unfolding block
  value_block w = linear_unique_supp k (vectors k) (λ w. combination_value k θ (part_values k B c i) (block w)) (combination_value k θ (part_values k B c i))
      (modules.linear_after (vectors k) (vectors k) (vectors k) block (combination_value k θ (part_values k B c i)) (select_linear k block_test) (combination_value_linear k θ _)) (combination_value_linear k θ _)
      (λ t. Unit {0}) (λ t q. at t (block_test t)) w (λ t e. tt)
    where
      at : (t : Key) → Dec ((i * length B ≤ t.0) × (t.0 < suc i * length B)) → combination_value k θ (part_values k B c i) (block (single_vector k t)) ≡ combination_value k θ (part_values k B c i) (single_vector k t)
      at t (yes p) = ap (combination_value k θ (part_values k B c i)) (select_single_yes k block_test t p)
      at t (no p) = ap (combination_value k θ (part_values k B c i)) (select_single_no k block_test t p) ∙ combination_value_zero k θ _ ∙ sym (outside_value t p)

  -- the polynomial of a block are the coordinates of its value
  block_coordinates : (w : Vect k) → Supp k (λ t. length t.1.0 ≤ length θ) w → IsCoordinates k n θ (combination_value k θ (part_values k B c i) w) (polynomial w)
  unfolding polynomial block
  block_coordinates w h =
      let m = from_mixed k n B standard.wide (length θ) (lower k (i * length B) (block w)) (lower_block w h) in
      record { mixed = m.0; standard = (standard_parts n k θ B standard _).1 m.1; value = block_value (block w) (in_block w) ∙ value_block w }
    where
      in_block : (w : Vect k) → Supp k (λ t. (i * length B ≤ t.0) × (t.0 < suc i * length B)) (select k block_test w)
      in_block w = supp_select k block_test w

  -- and tell the block
  block_back : (w : Vect k) → Supp k (λ t. length t.1.0 ≤ length θ) w → raised k (i * length B) (at_positions k n B (polynomial w)) ≡ block w
  unfolding polynomial block
  block_back w h = ap (raised k (i * length B)) (at_from k n B standard.wide (lower k (i * length B) (block w)) (standard_different n k θ B standard) (λ t e. (lower_block w h t e).1))
      ∙ raise_lower k (i * length B) (block w) (λ t e. (supp_select k block_test w t e).0)

  pub same_block : CoordinatesAreUnique k n θ → (v w : Vect k) → Supp k (λ t. length t.1.0 ≤ length θ) v → Supp k (λ t. length t.1.0 ≤ length θ) w
      → combination_value k θ (part_values k B c i) v ≡ combination_value k θ (part_values k B c i) w
      → (t : Key) → i * length B ≤ t.0 → t.0 < suc i * length B → coef_at k v t ≡ coef_at k w t
  unfolding block
  same_block unique v w hv hw e t low high =
      let same = unique (combination_value k θ (part_values k B c i) w) (polynomial v) (polynomial w)
      (subst (λ f. IsCoordinates k n θ f (polynomial v)) e (block_coordinates v hv)) (block_coordinates w hw) in
      let blocks : block v ≡ block w = sym (block_back v hv) ∙ ap (λ u. raised k (i * length B) (at_positions k n B u)) same ∙ block_back w hw in
      sym (select_inside k block_test v t (low, high)) ∙ ap (λ x. coef_at k x t) blocks ∙ select_inside k block_test w t (low, high)

module _ {E : Type 0} (k : FieldOn E) (n : ℕ) (θ : List (Vect k)) (gens : List (Matrix E)) (B : List (List ℕ)) (standard : AreStandardMonomials k n θ B) (unique : CoordinatesAreUnique k n θ) where
  pub graph_determined : (v w : Vect k) → InGraph k θ gens B v → InGraph k θ gens B w → last_value k θ gens B v ≡ last_value k θ gens B w → v ≡ w
  graph_determined v w a b e = coef_at_ext k v w (λ t. go t (dec_le (suc t.0) (suc (length gens) * length B)))
    where
      part_same : (i : ℕ) → i < suc (length gens) → part_value k θ gens B i v ≡ part_value k θ gens B i w
      part_same i l = split (dec_le (suc i) (length gens))
        where
          split : Dec (suc i ≤ length gens) → part_value k θ gens B i v ≡ part_value k θ gens B i w
          split (yes p) =
              let r = place_there gens i p in
              plus_cancel k (last_value k θ gens B v) (part_value k θ gens B i v) (part_value k θ gens B i w)
              (plus_comm k _ _ ∙ a.differences i r.0 r.1 ∙ ap (act_by k r.0) e ∙ sym (b.differences i r.0 r.1) ∙ ap (plus k (part_value k θ gens B i w)) (sym e) ∙ plus_comm k _ _)
          split (no p) =
              let last : length gens ≡ i = omega arith in
              subst (λ j. part_value k θ gens B j v ≡ part_value k θ gens B j w) last e

      go : (t : Key) → Dec (suc t.0 ≤ suc (length gens) * length B) → coef_at k v t ≡ coef_at k w t
      go t (yes p) =
          let r = block_of (length B) (suc (length gens)) t.0 p in
          same_block k n θ B standard (suc (length gens)) r.0 r.1 unique v w (λ t e. (a.positions t e).0) (λ t e. (b.positions t e).0) (part_same r.0 r.1) t r.2 r.3
      go t (no p) = supp_outside k _ v a.positions t (λ q. p q.1) ∙ sym (supp_outside k _ w b.positions t (λ q. p q.1))
