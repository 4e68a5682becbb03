-- The product of matrices, row by row.
use Rattle.std.proofs.Common.{◌≡◌, ℕ, suc, ◌+◌, ◌<◌, ◌≤◌, ◌⊎◌, inl, inr, List, [], length, get_or, sym, ap, ap₂, ◌∙◌, arith}
use Rattle.std.proofs.lemmas.Bool.{cases_lt}
use Rattle.std.proofs.lemmas.List.{get_or_read}
use Rattle.alg_core.specs.Fields.{FieldOn, Scalar, scalars, scalar}
use Rattle.lin_algebra.specs.declared.matrix.Matrix.{Matrix}
use Rattle.lin_algebra.specs.Vectors.{vectors, dot, vector}
use Rattle.lin_algebra.specs.Matrices.{rows_of, entries, vectors_of, product}
use Rattle.lin_algebra.proofs.DotLaws.{dot_zero}
use Rattle.lin_algebra.proofs.CutLaws.{listing, entries_below, entries_of_listing}

module _ {E : Type 0} (k : FieldOn E) (b : Matrix E) where
  -- a row times the first n rows of b
  abbrev pub times : ℕ → (ℕ → Scalar k) → ℕ → Scalar k
  times n u j = dot (scalars k) n u (λ l. entries k b l j)

  -- one row of b more is added
  pub times_more : (row old new seen : List E) (l : ℕ) (x : E) → l < length row → x ≡ get_or row l x → seen ≡ get_or (rows_of b) l []
      → vector k new ≡ (vectors (scalars k)).◌+◌ (vector k old) ((vectors (scalars k)).◌·◌ (scalar k x) (vector k seen))
      → vector k old ≡ times l (vector k row) → vector k new ≡ times (l + 1) (vector k row)
  times_more row old new seen l x inside read is sum was =
      let X = vectors (scalars k) in
      sum ∙ ap₂ (λ u v. X.◌+◌ u v) was (ap₂ (λ c r. X.◌·◌ (scalar k c) (vector k r)) (get_or_read row l x inside read k.zero) is) ∙ ap (λ n. times n (vector k row)) one
    where
      one : suc l ≡ l + 1
      one = omega arith

-- a matrix whose rows are the rows of a times b is the product
pub product_of_rows : {E : Type 0} (k : FieldOn E) (a b p : Matrix E) → p.rows ≡ a.rows → a.cols ≡ b.rows → vectors_of k p ≡ listing (λ i. times k b b.rows (entries k a i)) p.rows
    → entries k p ≡ product (scalars k) a.cols (entries k a) (entries k b)
product_of_rows k a b p same fit h = λ t i j. (at i j (cases_lt i p.rows)) t
  where
    at : (i j : ℕ) → (i < p.rows) ⊎ (p.rows ≤ i) → entries k p i j ≡ product (scalars k) a.cols (entries k a) (entries k b) i j
    at i j (inl inside) = ap (λ u. u j) (entries_of_listing k p (λ i. times k b b.rows (entries k a i)) h i inside) ∙ ap (λ n. times k b n (entries k a i) j) (sym fit)
    at i j (inr past) = entries_below k p i j past ∙ sym (dot_zero (scalars k) a.cols (entries k a i) (λ l. entries k b l j) (λ l _. entries_below k a i l (omega arith)))
