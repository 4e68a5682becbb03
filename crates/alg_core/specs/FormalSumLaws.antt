-- What a function on the keys makes of a formal sum depends on its coefficients alone.
--
--   scaled R c l         each coefficient times c
--   without same t l     the entries at other keys than t
use Rattle.std.proofs.Common.{◌≡◌, sym, ap, ap₂, ◌∙◌, refl, subst, List, [], ◌∷◌, ◌++◌, ℕ, zero, suc, ◌≤◌, length, arith, le_refl, le_trans}
use native.Mathlib.Nat.{le_of_suc-le-suc}
use Rattle.alg_core.specs.Rings.{Ring, Module}
use Rattle.alg_core.specs.FormalSums.{FormalSum, combined, regular, coefficient, indicator, SameCoefficients}
use Rattle.alg_core.specs.RingLaws as rings
use Rattle.alg_core.specs.ModuleLaws as modules

module _ {K : Type 0} (R : Ring K) {T : Type 0} where
  -- each coefficient times c
  unfoldable pub scaled : K → FormalSum K T → FormalSum K T
  scaled c [] = []
  scaled c (e ∷ l) = (e.0, R.◌*◌ c e.1) ∷ scaled c l

  pub combined_append : {A : Type 0} (X : Module R A) (f : T → A) (l l' : FormalSum K T) → combined R X f (l ++ l') ≡ X.◌+◌ (combined R X f l) (combined R X f l')
  combined_append X f [] l' = sym (modules.zero_add X _)
  combined_append X f (e ∷ l) l' = ap (X.◌+◌ (X.◌·◌ e.1 (f e.0))) (combined_append X f l l') ∙ sym (X.add_assoc _ _ _)

  pub combined_scaled : {A : Type 0} (X : Module R A) (f : T → A) (c : K) (l : FormalSum K T) → combined R X f (scaled c l) ≡ X.◌·◌ c (combined R X f l)
  unfolding scaled
  combined_scaled X f c [] = sym (modules.act_zero X c)
  combined_scaled X f c (e ∷ l) = ap₂ X.◌+◌ (X.mul_act c e.1 (f e.0)) (combined_scaled X f c l) ∙ sym (X.act_add c _ _)

-- an entry, unless it is at the key
entry_unless : {A P : Type 0} → Dec P → A → List A → List A
entry_unless (yes p) e l = l
entry_unless (no p) e l = e ∷ l

module _ {K : Type 0} {T : Type 0} (same : (s t : T) → Dec (s ≡ t)) where
  -- the entries at other keys
  without : T → FormalSum K T → FormalSum K T
  without t [] = []
  without t (e ∷ l) = entry_unless (same e.0 t) e (without t l)

  length_without : (t : T) (l : FormalSum K T) → length (without t l) ≤ length l
  unfolding without entry_unless
  length_without t [] = le_refl 0
  length_without t (e ∷ l) = go (same e.0 t) (length_without t l)
    where
      go : {P : Type 0} (d : Dec P) → length (without t l) ≤ length l → length (entry_unless d e (without t l)) ≤ suc (length l)
      go (yes p) ih = omega arith
      go (no p) ih = omega arith

  without_head : (e : T × K) (l : FormalSum K T) → without e.0 (e ∷ l) ≡ without e.0 l
  unfolding without entry_unless
  without_head e l = go (same e.0 e.0)
    where
      go : (d : Dec (e.0 ≡ e.0)) → entry_unless d e (without e.0 l) ≡ without e.0 l
      go (yes p) = refl
      go (no p) = absurd (p refl)

module _ {K : Type 0} (R : Ring K) {T : Type 0} (same : (s t : T) → Dec (s ≡ t)) where
  -- what stands at one key, and the rest
  combined_without : {A : Type 0} (X : Module R A) (f : T → A) (t : T) (l : FormalSum K T) → combined R X f l ≡ X.◌+◌ (X.◌·◌ (coefficient R same l t) (f t)) (combined R X f (without same t l))
  unfolding without regular indicator entry_unless
  combined_without X f t [] = sym (modules.zero_add X _) ∙ ap (λ u. X.◌+◌ u X.zero) (sym (X.zero_act (f t)))
  combined_without X f t (e ∷ l) = go (same e.0 t) (combined_without X f t l)
    where
      go : (d : Dec (e.0 ≡ t)) → combined R X f l ≡ X.◌+◌ (X.◌·◌ (coefficient R same l t) (f t)) (combined R X f (without same t l))
          → X.◌+◌ (X.◌·◌ e.1 (f e.0)) (combined R X f l) ≡ X.◌+◌ (X.◌·◌ (R.◌+◌ (R.◌*◌ e.1 (indicator R d)) (coefficient R same l t)) (f t)) (combined R X f (entry_unless d e (without same t l)))
      go (yes p) ih = ap₂ (λ u v. X.◌+◌ (X.◌·◌ e.1 (f u)) v) p ih ∙ sym (X.add_assoc _ _ _) ∙ ap (λ u. X.◌+◌ u (combined R X f (without same t l))) (sym (X.add_act _ _ _)) ∙ ap (λ u. X.◌+◌ (X.◌·◌ (R.◌+◌ u (coefficient R same l t)) (f t)) (combined R X f (without same t l))) (sym (R.mul_one e.1))
      go (no p) ih = ap (X.◌+◌ (X.◌·◌ e.1 (f e.0))) ih ∙ modules.add_left_comm X _ _ _ ∙ ap (λ u. X.◌+◌ (X.◌·◌ u (f t)) (X.◌+◌ (X.◌·◌ e.1 (f e.0)) (combined R X f (without same t l)))) (sym (rings.zero_add R _) ∙ ap (λ u. R.◌+◌ u (coefficient R same l t)) (sym (rings.mul_zero R e.1)))

  -- where every coefficient is 0, so is each of what is left
  coefficient_without : (t : T) (l : FormalSum K T) (s : T) → ((j : T) → coefficient R same l j ≡ R.zero) → coefficient R same (without same t l) s ≡ R.zero
  unfolding regular
  coefficient_without t l s none =
      let split : coefficient R same l s ≡ R.◌+◌ (R.◌*◌ (coefficient R same l t) (indicator R (same t s))) (coefficient R same (without same t l) s) = combined_without (regular R) (λ j. indicator R (same j s)) t l in
      sym (rings.zero_add R _) ∙ ap (λ u. R.◌+◌ u (coefficient R same (without same t l) s)) (sym (ap (λ u. R.◌*◌ u (indicator R (same t s))) (none t) ∙ rings.zero_mul R _)) ∙ sym split ∙ none s

  -- a formal sum with no coefficient but 0 makes 0
  combined_zero : {A : Type 0} (X : Module R A) (f : T → A) (n : ℕ) (l : FormalSum K T) → length l ≤ n → ((j : T) → coefficient R same l j ≡ R.zero) → combined R X f l ≡ X.zero
  combined_zero X f n [] short none = refl
  combined_zero X f zero (e ∷ l) short none = absurd (omega arith)
  combined_zero X f (suc n) (e ∷ l) short none =
      let shorter : length (without same e.0 (e ∷ l)) ≤ n = subst (λ w. length w ≤ n) (sym (without_head same e l)) (le_trans (length_without same e.0 l) (le_of_suc-le-suc short)) in
      combined_without X f e.0 (e ∷ l) ∙ ap₂ X.◌+◌ (ap (λ u. X.◌·◌ u (f e.0)) (none e.0) ∙ X.zero_act _) (combined_zero X f n (without same e.0 (e ∷ l)) shorter (λ j. coefficient_without e.0 (e ∷ l) j none)) ∙ X.add_zero X.zero

  -- formal sums with the same coefficients make the same
  pub combined_same : {A : Type 0} (X : Module R A) (f : T → A) (l l' : FormalSum K T) → SameCoefficients R same l l' → combined R X f l ≡ combined R X f l'
  unfolding regular
  combined_same X f l l' e =
      let difference = l ++ scaled R (R.neg R.one) l' in
      let none : combined R X f difference ≡ X.zero = combined_zero X f (length difference) difference (le_refl _) (λ t. coefficient_difference t) in
      modules.eq_of_minus X _ _ (ap (X.◌+◌ (combined R X f l)) (modules.minus_is X _ ∙ sym (combined_scaled R X f (R.neg R.one) l')) ∙ sym (combined_append R X f l (scaled R (R.neg R.one) l')) ∙ none)
    where
      coefficient_difference : (t : T) → coefficient R same (l ++ scaled R (R.neg R.one) l') t ≡ R.zero
      coefficient_difference t = combined_append R (regular R) _ l (scaled R (R.neg R.one) l') ∙ ap₂ R.◌+◌ (e t) (combined_scaled R (regular R) _ (R.neg R.one) l' ∙ sym (modules.minus_is (regular R) _)) ∙ modules.add_minus (regular R) (coefficient R same l' t)
