-- The kernel of a matrix by its reduced echelon form.
use Rattle.std.proofs.Common.{◌≡◌, ℕ, zero, suc, ◌<◌, ◌≤◌, ◌⊎◌, inl, inr, List, [], ◌∷◌, ◌++◌, sym, ap, ap₂, ◌∙◌, refl, arith}
use Rattle.std.specs.List.{AllByRecursion as Each}
use Rattle.std.proofs.lemmas.Bool.{cases_lt}
use Rattle.alg_core.specs.Rings.{Ring}
use Rattle.alg_core.specs.RingLaws as rings
use Rattle.alg_core.specs.ModuleLaws as modules
use Rattle.lin_algebra.specs.Vectors.{vectors, dot, unit}
use Rattle.alg_core.specs.Spans.{InSpan}
use Rattle.lin_algebra.specs.Echelons.{PivotRow, rows, IsReducedEchelon}
use Rattle.alg_core.proofs.SpanLaws.{span_zero, span_add, span_act}
use Rattle.lin_algebra.proofs.SpanLaws.{span_ind}
use Rattle.lin_algebra.proofs.DotLaws.{dot_zero, dot_add, dot_act, dot_comm, dot_add_right, dot_act_right, dot_unit, dot_unit_past, dot_same, unit_comm}
use Rattle.lin_algebra.proofs.EchelonLaws.{by_pivots, by_pivots_span}
use Rattle.lin_algebra.specs.Kernels.{particular, kernel_vector}

module _ {K : Type 0} (R : Ring K) where
  abbrev V : Type 0
  V = ℕ → K

  pub particular_append : (j : ℕ) (l r : List (PivotRow K)) → particular R j (l ++ r) ≡ (vectors R).◌+◌ (particular R j l) (particular R j r)
  particular_append j [] r = sym (modules.zero_add (vectors R) _)
  particular_append j (e ∷ l) r = ap ((vectors R).◌+◌ ((vectors R).◌·◌ (e.1 j) (unit R e.0))) (particular_append j l r) ∙ sym ((vectors R).add_assoc _ _ _)

  -- a row times the particular vector
  dot_particular_by : (n : ℕ) (u : V) (j : ℕ) (l : List (PivotRow K)) → Each (λ e. e.0 < n) l → dot R n u (particular R j l) ≡ by_pivots R u l j
  dot_particular_by n u j [] h = dot_comm R n u _ ∙ dot_zero R n _ u (λ i _. refl)
  dot_particular_by n u j (e ∷ l) h = dot_add_right R n u _ _ ∙ ap₂ R.◌+◌ (dot_act_right R n (e.1 j) u (unit R e.0) ∙ ap (R.◌*◌ (e.1 j)) (dot_unit R n u e.0 h.0) ∙ R.mul_comm _ _) (dot_particular_by n u j l h.1)

  pub dot_particular : (n : ℕ) (u : V) (j : ℕ) (l : List (PivotRow K)) → Each (λ e. e.0 < n) l → IsReducedEchelon R l → InSpan (vectors R) (rows R l) u → dot R n u (particular R j l) ≡ u j
  dot_particular n u j l h r s = dot_particular_by n u j l h ∙ ap (λ v. v j) (by_pivots_span R l r u s)

  -- a row of the span times a kernel vector is 0
  pub dot_kernel_vector : (n : ℕ) (u : V) (j : ℕ) (l : List (PivotRow K)) → j < n → Each (λ e. e.0 < n) l → IsReducedEchelon R l → InSpan (vectors R) (rows R l) u → dot R n u (kernel_vector R j l) ≡ R.zero
  dot_kernel_vector n u j l b h r s =
      dot_add_right R n u _ _ ∙ ap₂ R.◌+◌ (dot_unit R n u j b) (dot_act_right R n (R.neg R.one) u _ ∙ ap (R.◌*◌ (R.neg R.one)) (dot_particular n u j l h r s))
      ∙ ap (λ c. R.◌+◌ c (R.◌*◌ (R.neg R.one) (u j))) (sym (rings.one_mul R (u j))) ∙ sym (rings.add_mul R R.one (R.neg R.one) (u j)) ∙ ap (λ c. R.◌*◌ c (u j)) (R.add_neg R.one) ∙ rings.zero_mul R (u j)

  -- a vector that each row makes 0 is that combination of the kernel vectors whose coefficients are its entries
  dot_particulars : (n : ℕ) (v : V) (i : ℕ) (l : List (PivotRow K)) → Each (λ e. dot R n e.1 v ≡ R.zero) l → dot R n v (λ j. particular R j l i) ≡ R.zero
  dot_particulars n v i [] h = dot_comm R n v _ ∙ dot_zero R n _ v (λ j _. refl)
  dot_particulars n v i (e ∷ l) h =
      dot_add_right R n v (λ j. R.◌*◌ (e.1 j) (unit R e.0 i)) (λ j. particular R j l i)
      ∙ ap₂ R.◌+◌ (dot_same R n v v _ ((vectors R).◌·◌ (unit R e.0 i) e.1) (λ j _. refl) (λ j _. R.mul_comm _ _) ∙ dot_act_right R n (unit R e.0 i) v e.1 ∙ ap (R.◌*◌ (unit R e.0 i)) (dot_comm R n v e.1 ∙ h.0) ∙ rings.mul_zero R _) (dot_particulars n v i l h.1)
      ∙ R.add_zero R.zero

  pub kernel_combination : (n : ℕ) (v : V) (l : List (PivotRow K)) → ((j : ℕ) → n ≤ j → v j ≡ R.zero) → Each (λ e. dot R n e.1 v ≡ R.zero) l → (i : ℕ) → dot R n v (λ j. kernel_vector R j l i) ≡ v i
  kernel_combination n v l past h i =
      dot_add_right R n v (λ j. unit R j i) (λ j. R.◌*◌ (R.neg R.one) (particular R j l i))
      ∙ ap₂ R.◌+◌ (dot_same R n v v _ (unit R i) (λ j _. refl) (λ j _. unit_comm R j i) ∙ at (cases_lt i n)) (dot_act_right R n (R.neg R.one) v (λ j. particular R j l i) ∙ ap (R.◌*◌ (R.neg R.one)) (dot_particulars n v i l h) ∙ rings.mul_zero R _)
      ∙ R.add_zero (v i)
    where
      at : (i < n) ⊎ (n ≤ i) → dot R n v (unit R i) ≡ v i
      at (inl b) = dot_unit R n v i b
      at (inr b) = dot_unit_past R n v i b ∙ sym (past i b)

  -- sums of multiples stay in a span
  pub span_total : (ws : List V) (n : ℕ) (v : V) (f : ℕ → V) → ((j : ℕ) → j < n → InSpan (vectors R) ws (f j)) → InSpan (vectors R) ws (λ i. dot R n v (λ j. f j i))
  span_total ws zero v f h = span_zero (vectors R) ws
  span_total ws (suc n) v f h = span_add (vectors R) ws _ _ (span_total ws n v f (λ j b. h j (omega arith))) (span_act (vectors R) ws (v n) (f n) (h n (omega arith)))

  -- what a row makes 0, all combinations of the row make 0
  pub dot_span : (n : ℕ) (v : V) (ws : List V) → Each (λ w. dot R n w v ≡ R.zero) ws → (u : V) → InSpan (vectors R) ws u → dot R n u v ≡ R.zero
  dot_span n v ws = span_ind (vectors R) (λ u. dot R n u v ≡ R.zero) (dot_zero R n _ v (λ j _. refl))
      (λ u u' h g. dot_add R n u u' v ∙ ap₂ R.◌+◌ h g ∙ R.add_zero R.zero)
      (λ a u h. dot_act R n a u v ∙ ap (R.◌*◌ a) h ∙ rings.mul_zero R a) ws

  -- and a vector combined of such vectors is made 0 too
  pub dot_span_right : (n : ℕ) (u : V) (ws : List V) → Each (λ w. dot R n u w ≡ R.zero) ws → (v : V) → InSpan (vectors R) ws v → dot R n u v ≡ R.zero
  dot_span_right n u ws = span_ind (vectors R) (λ v. dot R n u v ≡ R.zero) (dot_comm R n u _ ∙ dot_zero R n _ u (λ j _. refl))
      (λ v v' h g. dot_add_right R n u v v' ∙ ap₂ R.◌+◌ h g ∙ R.add_zero R.zero)
      (λ a v h. dot_act_right R n a u v ∙ ap (R.◌*◌ a) h ∙ rings.mul_zero R a) ws
