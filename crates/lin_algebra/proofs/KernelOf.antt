-- The kernel vectors of a reduced echelon list span the kernel of the matrix that it comes from.
use Rattle.std.proofs.Common.{◌≡◌, ℕ, zero, suc, ◌<◌, ◌≤◌, ◌⊎◌, inl, inr, ◌↔◌, List, [], ◌∷◌, ◌++◌, sym, ap, ap₂, ◌∙◌, refl, arith, subst}
use Rattle.std.specs.List.{AllByRecursion as Each}
use Rattle.std.proofs.lemmas.Bool.{cases_lt}
use Rattle.alg_core.specs.Rings.{Ring, Module}
use Rattle.alg_core.specs.RingLaws as rings
use Rattle.alg_core.specs.Fields.{FieldOn, Scalar, scalars}
use Rattle.lin_algebra.specs.declared.matrix.Matrix.{Matrix}
use Rattle.lin_algebra.specs.Vectors.{vectors, vector, dot, IsRow}
use Rattle.alg_core.specs.Spans.{InSpan, SameSpan}
use Rattle.lin_algebra.specs.Matrices.{rows_of, entries, vectors_of, IsMatrix, IsKernelVector}
use Rattle.lin_algebra.specs.Echelons.{PivotRow, rows, IsReducedEchelon}
use Rattle.lin_algebra.specs.Kernels.{kernel_vector}
use Rattle.lin_algebra.proofs.EachLaws.{Each_map, Each_of_map, Each_weaker, Each_append}
use Rattle.alg_core.proofs.SpanLaws.{span_head}
use Rattle.lin_algebra.proofs.SpanLaws.{span_ind, span_member, span_append_left, span_append_right}
use Rattle.lin_algebra.proofs.RowLaws.{vector_past}
use Rattle.lin_algebra.proofs.CutLaws.{listing, vectors_of_listing, IsRow_rows_of}
use Rattle.lin_algebra.proofs.KernelLaws.{dot_kernel_vector, kernel_combination, span_total, dot_span, dot_span_right}

pub Each_listing : {A : Type 0} (P : A → Type 0) (f : ℕ → A) (n : ℕ) → ((i : ℕ) → i < n → P (f i)) → Each P (listing f n)
Each_listing P f zero h = tt
Each_listing P f (suc n) h = Each_append P (listing f n) (f n ∷ []) (Each_listing P f n (λ i b. h i (omega arith))) (h n (omega arith), tt)

pub span_listing : {K : Type 0} {R : Ring K} {A : Type 0} (X : Module R A) (f : ℕ → A) (n i : ℕ) → i < n → InSpan X (listing f n) (f i)
span_listing X f zero i h = absurd (omega arith)
span_listing X f (suc n) i h = go (span_listing X f n i) (cases_lt i n)
  where
    go : (i < n → InSpan X (listing f n) (f i)) → (i < n) ⊎ (n ≤ i) → InSpan X (listing f n ++ f n ∷ []) (f i)
    go before (inl b) = span_append_left X (listing f n) (f n ∷ []) (f i) (before b)
    go before (inr b) = let same : n ≡ i = omega arith in span_append_right X (listing f n) (f n ∷ []) (f i) (subst (λ m. InSpan X (f m ∷ []) (f i)) (sym same) (span_head X (f i) []))

module _ {E : Type 0} (k : FieldOn E) where
  -- a row of a matrix is in the span of its rows
  pub entries_in_span : (m : Matrix E) (i : ℕ) → i < m.rows → InSpan (vectors (scalars k)) (vectors_of k m) (entries k m i)
  entries_in_span m i b = subst (λ l. InSpan (vectors (scalars k)) l (entries k m i)) (sym (vectors_of_listing k m)) (span_listing (vectors (scalars k)) (entries k m) m.rows i b)

  -- past its columns each combination of the rows is 0
  pub span_past : (m : Matrix E) → IsMatrix k m → (v : ℕ → Scalar k) → InSpan (vectors (scalars k)) (vectors_of k m) v → (j : ℕ) → m.cols ≤ j → v j ≡ (scalars k).zero
  span_past m h v s j b =
      span_ind (vectors (scalars k)) (λ u. u j ≡ (scalars k).zero) refl
      (λ u w p q. ap₂ (scalars k).◌+◌ p q ∙ (scalars k).add_zero _)
      (λ c u p. ap ((scalars k).◌*◌ c) p ∙ rings.mul_zero (scalars k) c)
      (vectors_of k m) (Each_map (λ u. u j ≡ (scalars k).zero) (vector k) (rows_of m) (Each_weaker (IsRow k m.cols) (λ r. vector k r j ≡ (scalars k).zero) (λ r p. vector_past k r j (let count = p.count in omega (arith, count))) (rows_of m) (IsRow_rows_of k m h))) v s

  module _ (a b : Matrix E) (l : List (PivotRow (Scalar k))) (b_is : IsMatrix k b) (same_cols : b.cols ≡ a.cols) (inside : Each (λ e. e.0 < a.cols) l) (r : IsReducedEchelon (scalars k) l)
      (s : SameSpan (vectors (scalars k)) (rows (scalars k) l) (vectors_of k a)) (t : SameSpan (vectors (scalars k)) (vectors_of k b) (listing (λ j. kernel_vector (scalars k) j l) a.cols)) where
    kernel_there : (v : ℕ → Scalar k) → InSpan (vectors (scalars k)) (vectors_of k b) v → IsKernelVector k a v
    kernel_there v h = record {
      past = λ j p. span_past b b_is v h j (omega arith);
      zero = λ i p. dot_span_right (scalars k) a.cols (entries k a i) (listing (λ j. kernel_vector (scalars k) j l) a.cols)
          (Each_listing (λ w. dot (scalars k) a.cols (entries k a i) w ≡ (scalars k).zero) (λ j. kernel_vector (scalars k) j l) a.cols
          (λ j q. dot_kernel_vector (scalars k) a.cols (entries k a i) j l q inside r ((s (entries k a i)).1 (entries_in_span a i p))))
          v ((t v).0 h);
    }

    kernel_back : (v : ℕ → Scalar k) → IsKernelVector k a v → InSpan (vectors (scalars k)) (vectors_of k b) v
    kernel_back v h =
        let each_row : Each (λ w. dot (scalars k) a.cols w v ≡ (scalars k).zero) (vectors_of k a) = subst (Each (λ w. dot (scalars k) a.cols w v ≡ (scalars k).zero)) (sym (vectors_of_listing k a)) (Each_listing (λ w. dot (scalars k) a.cols w v ≡ (scalars k).zero) (entries k a) a.rows h.zero) in
        let each_pivot_row : Each (λ e. dot (scalars k) a.cols e.1 v ≡ (scalars k).zero) l = Each_of_map (λ w. dot (scalars k) a.cols w v ≡ (scalars k).zero) (λ (e : PivotRow (Scalar k)). e.1) l
        (Each_weaker (InSpan (vectors (scalars k)) (rows (scalars k) l)) (λ w. dot (scalars k) a.cols w v ≡ (scalars k).zero) (λ w q. dot_span (scalars k) a.cols v (vectors_of k a) each_row w ((s w).0 q)) (rows (scalars k) l) (span_member (vectors (scalars k)) (rows (scalars k) l))) in
        subst (InSpan (vectors (scalars k)) (vectors_of k b)) (λ x i. kernel_combination (scalars k) a.cols v l h.past each_pivot_row i x)
        (span_total (scalars k) (vectors_of k b) a.cols v (λ j. kernel_vector (scalars k) j l) (λ j q. (t (kernel_vector (scalars k) j l)).1 (span_listing (vectors (scalars k)) (λ j. kernel_vector (scalars k) j l) a.cols j q)))

    -- the kernel of a
    pub kernel_of : (v : ℕ → Scalar k) → InSpan (vectors (scalars k)) (vectors_of k b) v ↔ IsKernelVector k a v
    kernel_of v = (kernel_there v, kernel_back v)
