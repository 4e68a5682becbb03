-- Linear systems by the reduced echelon form of the matrix and the right side.
use Rattle.std.proofs.Common.{◌≡◌, ◌≢◌, ℕ, suc, ◌<◌, ◌⊎◌, inl, inr, List, [], ◌∷◌, sym, ap, ap₂, ◌∙◌, refl, arith}
use Rattle.std.specs.List.{AllByRecursion as Each}
use native.Mathlib.Decide.{ℕ_discrete}
use Rattle.alg_core.specs.Rings.{Ring}
use Rattle.alg_core.specs.RingLaws as rings
use Rattle.lin_algebra.specs.Vectors.{vectors, dot}
use Rattle.alg_core.specs.Spans.{InSpan, SameSpan}
use Rattle.lin_algebra.specs.Matrices.{beside}
use Rattle.lin_algebra.specs.Echelons.{PivotRow, rows, IsPivotRow, IsReducedEchelon}
use Rattle.lin_algebra.specs.Kernels.{particular}
use Rattle.alg_core.specs.Lists.{In}
use Rattle.lin_algebra.proofs.EachLaws.{Each_at, Each_of_map}
use Rattle.lin_algebra.proofs.SpanLaws.{span_ind, span_member}
use Rattle.lin_algebra.proofs.DotLaws.{dot_same, dot_zero, dot_add, dot_act, unit_other}
use Rattle.lin_algebra.proofs.EchelonLaws.{each_pivot_row}
use Rattle.lin_algebra.proofs.KernelLaws.{dot_particular, dot_span}
use Rattle.lin_algebra.proofs.CutLaws.{listing}
use Rattle.lin_algebra.proofs.KernelOf.{Each_listing, span_listing}
use Rattle.lin_algebra.proofs.BesideLaws.{beside_left, beside_right}

module _ {K : Type 0} (R : Ring K) where
  abbrev V : Type 0
  V = ℕ → K

  -- the column is a pivot or is none
  pub pivot_or_not : (l : List (PivotRow K)) (j : ℕ) → ((e : PivotRow K) × In e l × (e.0 ≡ j)) ⊎ Each (λ e. e.0 ≢ j) l
  pivot_or_not [] j = inr tt
  pivot_or_not (e ∷ l) j = go (ℕ_discrete e.0 j) (pivot_or_not l j)
    where
      go : Dec (e.0 ≡ j) → ((f : PivotRow K) × In f l × (f.0 ≡ j)) ⊎ Each (λ f. f.0 ≢ j) l → ((f : PivotRow K) × In f (e ∷ l) × (f.0 ≡ j)) ⊎ Each (λ f. f.0 ≢ j) (e ∷ l)
      go (yes h) other = inl (e, inl refl, h)
      go (no n) (inl f) = inl (f.0, inr f.1, f.2)
      go (no n) (inr h) = inr (n, h)

  -- off the pivots the particular vector is 0
  pub particular_off : (c : ℕ) (l : List (PivotRow K)) (j : ℕ) → Each (λ e. e.0 ≢ j) l → particular R c l j ≡ R.zero
  particular_off c [] j h = refl
  particular_off c (e ∷ l) j h = ap₂ R.◌+◌ (ap (R.◌*◌ (e.1 c)) (unit_other R e.0 j h.0) ∙ rings.mul_zero R _) (particular_off c l j h.1) ∙ R.add_zero R.zero

  pivot_row_at : (l : List (PivotRow K)) → IsReducedEchelon R l → (e : PivotRow K) → In e l → IsPivotRow R e
  pivot_row_at l r e i = Each_at (IsPivotRow R) l (each_pivot_row R l r) e i

  pub pivot_row_in_span : (l : List (PivotRow K)) (e : PivotRow K) → In e l → InSpan (vectors R) (rows R l) e.1
  pivot_row_in_span l e i = Each_at (λ f. InSpan (vectors R) (rows R l) f.1) l (Each_of_map (InSpan (vectors R) (rows R l)) (λ f. f.1) l (span_member (vectors R) (rows R l))) e i

  neg_one_not_zero : ¬ (R.one ≡ R.zero) → ¬ (R.neg R.one ≡ R.zero)
  neg_one_not_zero n h = n (sym (R.add_zero R.one) ∙ ap (R.◌+◌ R.one) (sym h) ∙ R.add_neg R.one)

  -- the rows a i, each with the scalar b i in the column n
  module _ (a : ℕ → V) (b : ℕ → V) (m n : ℕ) (l : List (PivotRow K)) (r : IsReducedEchelon R l)
      (s : SameSpan (vectors R) (rows R l) (listing (λ i. beside n (a i) (b i)) m)) where
    last : (i : ℕ) → beside n (a i) (b i) n ≡ b i 0
    last i = beside_right n (a i) (b i) n (omega arith) ∙ ap (b i) (omega arith)

    -- with a pivot in the last column there is no solution
    pub no_solution : ¬ (R.one ≡ R.zero) → (e : PivotRow K) → In e l → e.0 ≡ n → (x : V) → ((i : ℕ) → i < m → dot R n (a i) x ≡ b i 0) → ⊥
    no_solution one_not_zero e i p x solves = neg_one_not_zero one_not_zero (sym at_pivot ∙ none)
      where
        y : V
        y = beside n x (λ _. R.neg R.one)

        y_last : y n ≡ R.neg R.one
        y_last = beside_right n x (λ _. R.neg R.one) n (omega arith)

        each : (i : ℕ) → i < m → dot R (suc n) (beside n (a i) (b i)) y ≡ R.zero
        each i h = ap₂ R.◌+◌ (dot_same R n _ (a i) _ x (λ j q. beside_left n (a i) (b i) j q) (λ j q. beside_left n x (λ _. R.neg R.one) j q) ∙ solves i h) (ap₂ R.◌*◌ (last i) y_last)
            ∙ ap (λ c. R.◌+◌ c (R.◌*◌ (b i 0) (R.neg R.one))) (sym (R.mul_one (b i 0))) ∙ sym (R.mul_add (b i 0) R.one (R.neg R.one)) ∙ ap (R.◌*◌ (b i 0)) (R.add_neg R.one) ∙ rings.mul_zero R (b i 0)

        none : dot R (suc n) e.1 y ≡ R.zero
        none = dot_span R (suc n) y (listing (λ i. beside n (a i) (b i)) m) (Each_listing (λ w. dot R (suc n) w y ≡ R.zero) (λ i. beside n (a i) (b i)) m each) e.1 ((s e.1).0 (pivot_row_in_span l e i))

        at_pivot : dot R (suc n) e.1 y ≡ R.neg R.one
        at_pivot = ap₂ R.◌+◌ (dot_zero R n e.1 y (λ j h. (pivot_row_at l r e i).before j (omega (arith, p)))) (ap₂ R.◌*◌ (ap e.1 (sym p) ∙ (pivot_row_at l r e i).at) y_last ∙ rings.one_mul R _) ∙ rings.zero_add R _

    -- without one the particular vector is a solution
    pub particular_solves : Each (λ e. e.0 < n) l → (i : ℕ) → i < m → dot R n (a i) (particular R n l) ≡ b i 0
    particular_solves inside i h =
        dot_same R n (a i) (beside n (a i) (b i)) _ _ (λ j q. sym (beside_left n (a i) (b i) j q)) (λ j q. refl)
        ∙ dot_particular R n (beside n (a i) (b i)) n l inside r ((s (beside n (a i) (b i))).1 (span_listing (vectors R) (λ i. beside n (a i) (b i)) m i h))
        ∙ last i

    -- and it is 0 at a column that is a combination of the columns before it
    pub particular_first : ¬ (R.one ≡ R.zero) → Each (λ e. e.0 < n) l → (j : ℕ) (c : V) → ((i : ℕ) → i < m → a i j ≡ dot R j (a i) c) → particular R n l j ≡ R.zero
    particular_first one_not_zero inside j c dependent = go (pivot_or_not l j)
      where
        pivot_dependent : (e : PivotRow K) → In e l → e.0 ≡ j → e.1 j ≡ dot R j e.1 c
        pivot_dependent e i p =
            let below : e.0 < n = Each_at (λ (f : PivotRow K). f.0 < n) l inside e i in
            span_ind (vectors R) (λ u. u j ≡ dot R j u c) (sym (dot_zero R j _ c (λ _ _. refl)))
            (λ u v h g. ap₂ R.◌+◌ h g ∙ sym (dot_add R j u v c))
            (λ d u h. ap (R.◌*◌ d) h ∙ sym (dot_act R j d u c))
            (listing (λ i. beside n (a i) (b i)) m)
            (Each_listing (λ u. u j ≡ dot R j u c) (λ i. beside n (a i) (b i)) m (λ i q. beside_left n (a i) (b i) j (omega (arith, p, below)) ∙ dependent i q
            ∙ dot_same R j (a i) (beside n (a i) (b i)) c c (λ t w. sym (beside_left n (a i) (b i) t (omega (arith, p, below)))) (λ t w. refl)))
            e.1 ((s e.1).0 (pivot_row_in_span l e i))

        go : ((e : PivotRow K) × In e l × (e.0 ≡ j)) ⊎ Each (λ e. e.0 ≢ j) l → particular R n l j ≡ R.zero
        go (inr h) = particular_off n l j h
        go (inl e) = absurd (one_not_zero (sym (ap e.0.1 (sym e.2) ∙ (pivot_row_at l r e.0 e.1).at) ∙ pivot_dependent e.0 e.1 e.2 ∙ dot_zero R j e.0.1 c (λ t h. (pivot_row_at l r e.0 e.1).before t (omega (arith, e.2)))))
