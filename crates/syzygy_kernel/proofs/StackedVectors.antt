-- The vector of polynomials at the positions of parts: its positions, and the values of its parts.
use Rattle.std.proofs.Common.{◌≡◌, ◌∙◌, ◌+◌, ◌-◌, ◌*◌, ◌<◌, ◌≤◌, ◌⊎◌, ℕ, zero, suc, List, [], ◌∷◌, length, sym, ap, ap₂, subst, inl, inr, arith, suc-mul, zero-mul}
use native.Mathlib.Decide.{ℕ_discrete, dec_le}
use Rattle.alg_core.specs.Fields.{FieldOn}
use Rattle.alg_core.specs.Keys.{Key}
use Rattle.alg_core.specs.ModuleLaws as modules
use Rattle.alg_core.specs.Vectors.{Vect, vectors, plus, zero_vector}
use Rattle.alg_core.proofs.VectorLaws.{plus_zero, zero_plus}
use Rattle.poly_module.specs.Combinations.{IsCombination, combination_value, mark_value}
use Rattle.poly_module.specs.Forms.{dec_both}
use Rattle.poly_module.specs.Marks.{IsMixed}
use Rattle.poly_module.specs.Modules.{listed}
use Rattle.poly_module.specs.Parts.{Supp, supp_single, supp_plus, supp_zero, linear_supp, select_none}
use Rattle.poly_module.specs.Polynomials.{single_vector}
use Rattle.poly_module.proofs.CombinationLaws.{combination_value_plus, combination_value_zero}
use Rattle.poly_module.proofs.Marks.{agree}
use Rattle.finite_certificate.specs.StandardMonomials.{AreStandardMonomials}
use Rattle.primary_module.specs.Positions.{HasParts, at_positions, from_positions}
use Rattle.primary_module.proofs.Translations.{at_keys, from_at}
use Rattle.syzygy_kernel.specs.Graphs.{part_values}
use Rattle.syzygy_kernel.specs.GraphVectors.{raised, stacked}
use Rattle.syzygy_kernel.proofs.GraphBlocks.{lower, lower_linear, lower_single, raise_linear, raise_single, block_test, block, block_value, value_block}

pub times_le : (b i j : ℕ) → i ≤ j → i * b ≤ j * b
times_le b zero j h = let z = zero-mul b in omega arith
times_le b (suc i) zero h = absurd (omega arith)
times_le b (suc i) (suc j) h = let r = times_le b i j (omega arith) in let s = suc-mul i b in let t = suc-mul j b in omega arith

module _ {E : Type 0} (k : FieldOn E) where
  lower_raised : (q : ℕ) (x : Vect k) → lower k q (raised k q x) ≡ x
  lower_raised q = agree k (λ x. lower k q (raised k q x)) (λ x. x)
      (modules.linear_after (vectors k) (vectors k) (vectors k) (raised k q) (lower k q) (raise_linear k q) (lower_linear k q)) (modules.linear_same (vectors k))
      (λ t. ap (lower k q) (raise_single k q t) ∙ lower_single k q (t.0 + q, t.1) ∙ ap (λ (j : ℕ). single_vector k (j, t.1)) (omega arith))

  -- in the block of a part
  abbrev pub BlockKey : ℕ → ℕ → ℕ → Key → Type 0
  BlockKey r b q t = (length t.1.0 ≤ r) × ((q * b ≤ t.0) × (t.0 < suc q * b))

  raised_keys : (r b q : ℕ) (x : Vect k) → IsCombination k r b x → Supp k (BlockKey r b q) (raised k (q * b) x)
  raised_keys r b q = linear_supp k (raised k (q * b)) (raise_linear k (q * b)) (λ t. (length t.1.0 ≤ r) × (t.0 < b)) (BlockKey r b q)
      (λ t. dec_both (dec_le (length t.1.0) r) (dec_both (dec_le (q * b) t.0) (dec_le (suc t.0) (suc q * b))))
      (λ t h. subst (Supp k (BlockKey r b q)) (sym (raise_single k (q * b) t))
      (supp_single k (BlockKey r b q) (t.0 + q * b, t.1) (h.0, (omega arith, (let l = h.1 in let s = suc-mul q b in omega arith)))))

module _ {E : Type 0} (k : FieldOn E) (n : ℕ) (θ : List (Vect k)) (B : List (List ℕ)) where
  -- what can be placed at the positions of a part
  abbrev pub CanStand : Vect k → Type 0
  CanStand u = IsMixed k n (length θ) u × HasParts k n B u

  part_keys : (q : ℕ) (u : Vect k) → IsMixed k n (length θ) u × HasParts k n B u → Supp k (BlockKey k (length θ) (length B) q) (raised k (q * length B) (at_positions k n B u))
  part_keys q u h = raised_keys k (length θ) (length B) q (at_positions k n B u) (at_keys k n B (length θ) u h.0 h.1)

  pub stacked_keys : (c i : ℕ) (us : List (Vect k)) → i + length us ≤ c → ((q : ℕ) → q < length us → IsMixed k n (length θ) (listed k us q) × HasParts k n B (listed k us q))
      → IsCombination k (length θ) (c * length B) (stacked k n B i us)
  stacked_keys c i [] l h = supp_zero k (λ t. (length t.1.0 ≤ length θ) × (t.0 < c * length B))
  stacked_keys c i (u ∷ us) l h = supp_plus k (λ t. (length t.1.0 ≤ length θ) × (t.0 < c * length B)) _ _
      (λ t e. let p = part_keys i u (h 0 (omega arith)) t e in (p.0, (let a = p.1.1 in let m = times_le (length B) (suc i) c (omega arith) in omega arith)))
      (stacked_keys c (suc i) us (omega arith) (λ q a. h (suc q) (omega arith)))

  module _ (standard : AreStandardMonomials k n θ B) (c : ℕ) where
    own_value : (q : ℕ) → q < c → (u : Vect k) → IsMixed k n (length θ) u × HasParts k n B u
        → combination_value k θ (part_values k B c q) (raised k (q * length B) (at_positions k n B u)) ≡ mark_value k n θ u
    own_value q l u h = sym (block_value k n θ B standard c q l (raised k (q * length B) (at_positions k n B u)) (λ t e. (part_keys q u h t e).1))
        ∙ ap (λ x. mark_value k n θ (from_positions k n B x)) (lower_raised k (q * length B) (at_positions k n B u))
        ∙ ap (mark_value k n θ) (from_at k n B u h.0.polynomial h.1)

    other_value : (p q : ℕ) → p < c → ¬ (p ≡ q) → (u : Vect k) → IsMixed k n (length θ) u × HasParts k n B u
        → combination_value k θ (part_values k B c p) (raised k (q * length B) (at_positions k n B u)) ≡ zero_vector k
    unfolding block
    other_value p q l other u h = sym (value_block k n θ B standard c p l (raised k (q * length B) (at_positions k n B u)))
        ∙ ap (combination_value k θ (part_values k B c p)) (select_none k (block_test k n θ B standard c p l) (BlockKey k (length θ) (length B) q) apart _ (part_keys q u h))
        ∙ combination_value_zero k θ _
      where
        apart : (t : Key) → BlockKey k (length θ) (length B) q t → ¬ ((p * length B ≤ t.0) × (t.0 < suc p * length B))
        apart t a b = go (dec_le p q)
          where
            go : Dec (p ≤ q) → ⊥
            go (yes e) = let m = times_le (length B) (suc p) q (omega arith) in let x = a.1.0 in let y = b.1 in omega arith
            go (no e) = let m = times_le (length B) (suc q) p (omega arith) in let x = a.1.1 in let y = b.0 in omega arith

    -- parts before the first one and after the last
    pub stacked_outside : (p i : ℕ) (us : List (Vect k)) → p < c → (p < i) ⊎ (i + length us ≤ p) → ((q : ℕ) → q < length us → IsMixed k n (length θ) (listed k us q) × HasParts k n B (listed k us q))
        → combination_value k θ (part_values k B c p) (stacked k n B i us) ≡ zero_vector k
    stacked_outside p i [] l o h = combination_value_zero k θ _
    stacked_outside p i (u ∷ us) l o h = combination_value_plus k θ _ _ _
        ∙ ap₂ (plus k) (other_value p i l (apart o) u (h 0 (omega arith))) (stacked_outside p (suc i) us l (later o) (λ q a. h (suc q) (omega arith))) ∙ plus_zero k _
      where
        apart : (p < i) ⊎ (i + length (u ∷ us) ≤ p) → ¬ (p ≡ i)
        apart (inl a) e = omega arith
        apart (inr a) e = omega arith

        later : (p < i) ⊎ (i + length (u ∷ us) ≤ p) → (p < suc i) ⊎ (suc i + length us ≤ p)
        later (inl a) = inl (omega arith)
        later (inr a) = inr (omega arith)

    -- the value of each part is that of its polynomial
    pub stacked_value : (p i : ℕ) (us : List (Vect k)) → p < c → i ≤ p → p < i + length us → ((q : ℕ) → q < length us → IsMixed k n (length θ) (listed k us q) × HasParts k n B (listed k us q))
        → combination_value k θ (part_values k B c p) (stacked k n B i us) ≡ mark_value k n θ (listed k us (p - i))
    stacked_value p i [] l low high h = absurd (omega arith)
    stacked_value p i (u ∷ us) l low high h = combination_value_plus k θ _ _ _
        ∙ go (ℕ_discrete p i) (λ q a. h (suc q) (omega arith)) (λ m. stacked_value p (suc i) us l m (omega arith) (λ q a. h (suc q) (omega arith)))
      where
        go : Dec (p ≡ i) → ((q : ℕ) → q < length us → IsMixed k n (length θ) (listed k us q) × HasParts k n B (listed k us q))
            → (suc i ≤ p → combination_value k θ (part_values k B c p) (stacked k n B (suc i) us) ≡ mark_value k n θ (listed k us (p - suc i)))
            → plus k (combination_value k θ (part_values k B c p) (raised k (i * length B) (at_positions k n B u))) (combination_value k θ (part_values k B c p) (stacked k n B (suc i) us))
            ≡ mark_value k n θ (listed k (u ∷ us) (p - i))
        go (yes e) rest later =
            let first : combination_value k θ (part_values k B c p) (raised k (i * length B) (at_positions k n B u)) ≡ mark_value k n θ u =
            ap (λ (q : ℕ). combination_value k θ (part_values k B c p) (raised k (q * length B) (at_positions k n B u))) (sym e) ∙ own_value p l u (h 0 (omega arith)) in
            let place : 0 ≡ p - i = omega arith in
            ap₂ (plus k) first (stacked_outside p (suc i) us l (inl (omega arith)) rest) ∙ plus_zero k _ ∙ ap (λ (q : ℕ). mark_value k n θ (listed k (u ∷ us) q)) place
        go (no o) rest later =
            let place : suc (p - suc i) ≡ p - i = omega arith in
            ap₂ (plus k) (other_value p i l o u (h 0 (omega arith))) (later (omega arith)) ∙ zero_plus k _
            ∙ ap (λ (q : ℕ). mark_value k n θ (listed k (u ∷ us) q)) place
