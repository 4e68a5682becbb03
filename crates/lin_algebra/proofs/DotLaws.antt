-- Sums of products over the first n columns.
use Rattle.std.proofs.Common.{◌≡◌, ◌≢◌, ℕ, zero, suc, ◌<◌, ◌≤◌, sym, ap, ap₂, ◌∙◌, refl, arith}
use native.Mathlib.Decide.{ℕ_discrete}
use Rattle.alg_core.specs.Rings.{Ring}
use Rattle.alg_core.specs.RingLaws as rings
use Rattle.alg_core.specs.FormalSums.{indicator}
use Rattle.lin_algebra.specs.Vectors.{vectors, dot, unit}

module _ {K : Type 0} (R : Ring K) where
  pub dot_same : (n : ℕ) (u u' v v' : ℕ → K) → ((j : ℕ) → j < n → u j ≡ u' j) → ((j : ℕ) → j < n → v j ≡ v' j) → dot R n u v ≡ dot R n u' v'
  dot_same zero u u' v v' h g = refl
  dot_same (suc n) u u' v v' h g =
      ap₂ R.◌+◌ (dot_same n u u' v v' (λ j l. h j (omega arith)) (λ j l. g j (omega arith))) (ap₂ R.◌*◌ (h n (omega arith)) (g n (omega arith)))

  pub dot_comm : (n : ℕ) (u v : ℕ → K) → dot R n u v ≡ dot R n v u
  dot_comm zero u v = refl
  dot_comm (suc n) u v = ap₂ R.◌+◌ (dot_comm n u v) (R.mul_comm (u n) (v n))

  pub dot_zero : (n : ℕ) (u v : ℕ → K) → ((j : ℕ) → j < n → u j ≡ R.zero) → dot R n u v ≡ R.zero
  dot_zero zero u v h = refl
  dot_zero (suc n) u v h = ap₂ R.◌+◌ (dot_zero n u v (λ j l. h j (omega arith))) (ap (λ c. R.◌*◌ c (v n)) (h n (omega arith)) ∙ rings.zero_mul R (v n)) ∙ R.add_zero R.zero

  pub dot_add : (n : ℕ) (u v w : ℕ → K) → dot R n ((vectors R).◌+◌ u v) w ≡ R.◌+◌ (dot R n u w) (dot R n v w)
  dot_add zero u v w = sym (R.add_zero R.zero)
  dot_add (suc n) u v w = ap₂ R.◌+◌ (dot_add n u v w) (rings.add_mul R (u n) (v n) (w n)) ∙ rings.add_swap R _ _ _ _

  pub dot_act : (n : ℕ) (a : K) (u w : ℕ → K) → dot R n ((vectors R).◌·◌ a u) w ≡ R.◌*◌ a (dot R n u w)
  dot_act zero a u w = sym (rings.mul_zero R a)
  dot_act (suc n) a u w = ap₂ R.◌+◌ (dot_act n a u w) (R.mul_assoc a (u n) (w n)) ∙ sym (R.mul_add a _ _)

  pub dot_add_right : (n : ℕ) (w u v : ℕ → K) → dot R n w ((vectors R).◌+◌ u v) ≡ R.◌+◌ (dot R n w u) (dot R n w v)
  dot_add_right n w u v = dot_comm n w _ ∙ dot_add n u v w ∙ ap₂ R.◌+◌ (dot_comm n u w) (dot_comm n v w)

  pub dot_act_right : (n : ℕ) (a : K) (w u : ℕ → K) → dot R n w ((vectors R).◌·◌ a u) ≡ R.◌*◌ a (dot R n w u)
  dot_act_right n a w u = dot_comm n w _ ∙ dot_act n a u w ∙ ap (R.◌*◌ a) (dot_comm n u w)

  indicator_by : (i j : ℕ) (d : Dec (i ≡ j)) → i ≡ j → indicator R d ≡ R.one
  unfolding indicator
  indicator_by i j (yes p) e = refl
  indicator_by i j (no n) e = absurd (n e)

  indicator_not : (i j : ℕ) (d : Dec (i ≡ j)) → i ≢ j → indicator R d ≡ R.zero
  unfolding indicator
  indicator_not i j (yes p) n = absurd (n p)
  indicator_not i j (no _) n = refl

  pub unit_at : (j i : ℕ) → j ≡ i → unit R j i ≡ R.one
  unit_at j i e = indicator_by j i (ℕ_discrete j i) e

  pub unit_other : (j i : ℕ) → j ≢ i → unit R j i ≡ R.zero
  unit_other j i n = indicator_not j i (ℕ_discrete j i) n

  pub unit_comm : (j i : ℕ) → unit R j i ≡ unit R i j
  unit_comm j i = go (ℕ_discrete j i)
    where
      go : Dec (j ≡ i) → unit R j i ≡ unit R i j
      go (yes e) = unit_at j i e ∙ sym (unit_at i j (sym e))
      go (no n) = unit_other j i n ∙ sym (unit_other i j (λ e. n (sym e)))

  -- past the first n columns
  pub dot_unit_past : (n : ℕ) (u : ℕ → K) (j : ℕ) → n ≤ j → dot R n u (unit R j) ≡ R.zero
  dot_unit_past n u j h = dot_comm n u (unit R j) ∙ dot_zero n (unit R j) u (λ i l. unit_other j i (λ e. absurd (omega arith)))

  pub dot_unit : (n : ℕ) (u : ℕ → K) (j : ℕ) → j < n → dot R n u (unit R j) ≡ u j
  dot_unit zero u j h = absurd (omega arith)
  dot_unit (suc n) u j h = go (dot_unit n u j) (ℕ_discrete j n)
    where
      go : (j < n → dot R n u (unit R j) ≡ u j) → Dec (j ≡ n) → dot R (suc n) u (unit R j) ≡ u j
      go before (yes e) = ap₂ R.◌+◌ (dot_unit_past n u j (omega arith)) (ap (R.◌*◌ (u n)) (unit_at j n e) ∙ R.mul_one (u n)) ∙ rings.zero_add R (u n) ∙ ap u (sym e)
      go before (no d) = ap₂ R.◌+◌ (before (omega arith)) (ap (R.◌*◌ (u n)) (unit_other j n d) ∙ rings.mul_zero R (u n)) ∙ R.add_zero (u j)
