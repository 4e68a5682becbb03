-- Rows of values: a row written entry by entry, and what becomes of its vector.
use Rattle.std.proofs.Common.{◌≡◌, ◌≢◌, ℕ, ◌+◌, ◌<◌, ◌≤◌, ◌⊎◌, inl, inr, List, length, get_or, set, All, sym, ap, ap₂, ◌∙◌, refl, arith}
use Rattle.std.proofs.lemmas.Bool.{cases_lt}
use Rattle.std.proofs.lemmas.List.{get_or_read, get_or_past, get_or-set_same, get_or-set_other}
use Rattle.std.proofs.lemmas.List.Elements.{All-weaker}
use native.Mathlib.Decide.{ℕ_discrete}
use Rattle.alg_core.specs.RingLaws as rings
use Rattle.alg_core.specs.Fields.{FieldOn, Has, scalars, scalar, scalar_zero, scalar_add, scalar_mul, scalar_injective}
use Rattle.lin_algebra.specs.Vectors.{vectors, vector, unit, IsRow}
use Rattle.lin_algebra.proofs.DotLaws.{unit_at, unit_other}

-- the first i entries are F of what they were, the others as they were
pub record Written {E : Type 0} (z : E) (F : ℕ → E → E) (old row : List E) (i : ℕ) : Type 0 where
  pub done : (j : ℕ) → j < i → get_or row j z ≡ F j (get_or old j z)
  pub rest : (j : ℕ) → i ≤ j → get_or row j z ≡ get_or old j z

module _ {E : Type 0} (z : E) (F : ℕ → E → E) (old : List E) where
  pub written_none : Written z F old old 0
  written_none = record { done = λ j h. absurd (omega arith); rest = λ j h. refl }

  pub written_more : (row : List E) (i : ℕ) (x y : E) → i < length row → Written z F old row i → x ≡ get_or row i x → y ≡ F i x → Written z F old (set row i y) (i + 1)
  written_more row i x y inside w read made = record { done = λ j h. done j h (ℕ_discrete j i); rest = λ j h. rest j h }
    where
      was : x ≡ get_or old i z
      was = get_or_read row i x inside read z ∙ w.rest i (omega arith)

      done : (j : ℕ) → j < i + 1 → Dec (j ≡ i) → get_or (set row i y) j z ≡ F j (get_or old j z)
      done j h (yes e) = ap (λ n. get_or (set row i y) n z) e ∙ get_or-set_same row i y z inside ∙ made ∙ ap (F i) was ∙ ap (λ n. F n (get_or old n z)) (sym e)
      done j h (no n) = get_or-set_other row i j y z n ∙ w.done j (omega (arith, n))

      rest : (j : ℕ) → i + 1 ≤ j → get_or (set row i y) j z ≡ get_or old j z
      rest j h = get_or-set_other row i j y z (λ e. absurd (omega arith)) ∙ w.rest j (omega arith)

module _ {E : Type 0} (k : FieldOn E) where
  pub same_vector : {K : Type 0} (u v : ℕ → K) → ((j : ℕ) → u j ≡ v j) → u ≡ v
  same_vector u v h i j = h j i

  -- a value is 0 where its scalar is
  pub zero_of_scalar : (a : E) → Has k a → scalar k a ≡ (scalars k).zero → a ≡ k.zero
  zero_of_scalar a h e = scalar_injective k a k.zero h k.has_zero (e ∙ sym (scalar_zero k))

  -- past its end a row is 0
  pub vector_past : (xs : List E) (j : ℕ) → length xs ≤ j → vector k xs j ≡ (scalars k).zero
  vector_past xs j h = ap (scalar k) (get_or_past xs j k.zero h) ∙ scalar_zero k

  pub vector_zero : (xs : List E) → All (λ x. x ≡ k.zero) xs → vector k xs ≡ (vectors (scalars k)).zero
  vector_zero xs h = same_vector _ _ (λ j. at j (cases_lt j (length xs)))
    where
      at : (j : ℕ) → (j < length xs) ⊎ (length xs ≤ j) → vector k xs j ≡ (scalars k).zero
      at j (inl b) = ap (scalar k) (h j k.zero b) ∙ scalar_zero k
      at j (inr b) = vector_past xs j b

  pub IsRow_zeros : (n : ℕ) (xs : List E) → length xs ≡ n → All (λ x. x ≡ k.zero) xs → IsRow k n xs
  IsRow_zeros n xs c h = record { count = c; has = All-weaker (λ x. x ≡ k.zero) (Has k) (λ x e. ap k.has e ∙ k.has_zero) xs h }

  -- each entry with c times the entry of another row
  pub vector_sum : (old new by : List E) (c : E) → length new ≡ length old → length old ≡ length by → Has k c → All (Has k) old → All (Has k) by
      → ((j : ℕ) → j < length old → get_or new j k.zero ≡ k.add (get_or old j k.zero) (k.mul c (get_or by j k.zero)))
      → vector k new ≡ (vectors (scalars k)).◌+◌ (vector k old) ((vectors (scalars k)).◌·◌ (scalar k c) (vector k by))
  vector_sum old new by c same same' has_c has_old has_by h = same_vector _ _ (λ j. at j (cases_lt j (length old)))
    where
      at : (j : ℕ) → (j < length old) ⊎ (length old ≤ j) → vector k new j ≡ (scalars k).◌+◌ (vector k old j) ((scalars k).◌*◌ (scalar k c) (vector k by j))
      at j (inl b) =
          let there = has_old j k.zero b in
          let by_there = has_by j k.zero (omega arith) in
          ap (scalar k) (h j b) ∙ scalar_add k _ _ there (k.has_mul _ _ has_c by_there) ∙ ap ((scalars k).◌+◌ (vector k old j)) (scalar_mul k _ _ has_c by_there)
      at j (inr b) = vector_past new j (omega arith) ∙ sym (ap₂ (scalars k).◌+◌ (vector_past old j b) (ap ((scalars k).◌*◌ (scalar k c)) (vector_past by j (omega arith)) ∙ rings.mul_zero (scalars k) _) ∙ (scalars k).add_zero _)

  -- a multiple of a row adds nothing at a column where that row is 0
  pub nothing_added : (row by : List E) (c : E) (j : ℕ) → Has k c → All (Has k) row → All (Has k) by → vector k by j ≡ (scalars k).zero
      → k.add (get_or row j k.zero) (k.mul c (get_or by j k.zero)) ≡ get_or row j k.zero
  nothing_added row by c j has_c has_row has_by none =
      ap (k.add (get_or row j k.zero)) nothing ∙ k.add_zero _ (has_or row has_row)
    where
      has_or : (xs : List E) → All (Has k) xs → Has k (get_or xs j k.zero)
      has_or xs h = at (cases_lt j (length xs))
        where
          at : (j < length xs) ⊎ (length xs ≤ j) → Has k (get_or xs j k.zero)
          at (inl b) = h j k.zero b
          at (inr b) = ap k.has (get_or_past xs j k.zero b) ∙ k.has_zero

      nothing : k.mul c (get_or by j k.zero) ≡ k.zero
      nothing = zero_of_scalar _ (k.has_mul _ _ has_c (has_or by has_by)) (scalar_mul k _ _ has_c (has_or by has_by) ∙ ap ((scalars k).◌*◌ (scalar k c)) none ∙ rings.mul_zero (scalars k) _)

  -- c times each entry
  pub vector_multiple : (old new : List E) (c : E) → length new ≡ length old → Has k c → All (Has k) old
      → ((j : ℕ) → j < length old → get_or new j k.zero ≡ k.mul c (get_or old j k.zero))
      → vector k new ≡ (vectors (scalars k)).◌·◌ (scalar k c) (vector k old)
  vector_multiple old new c same has_c has_old h = same_vector _ _ (λ j. at j (cases_lt j (length old)))
    where
      at : (j : ℕ) → (j < length old) ⊎ (length old ≤ j) → vector k new j ≡ (scalars k).◌*◌ (scalar k c) (vector k old j)
      at j (inl b) = ap (scalar k) (h j b) ∙ scalar_mul k _ _ has_c (has_old j k.zero b)
      at j (inr b) = vector_past new j (omega arith) ∙ sym (ap ((scalars k).◌*◌ (scalar k c)) (vector_past old j b) ∙ rings.mul_zero (scalars k) _)

  -- a value more at one column
  pub vector_set : (xs : List E) (j : ℕ) (x c : E) → j < length xs → All (Has k) xs → Has k c → x ≡ get_or xs j x
      → vector k (set xs j (k.add x c)) ≡ (vectors (scalars k)).◌+◌ (vector k xs) ((vectors (scalars k)).◌·◌ (scalar k c) (unit (scalars k) j))
  vector_set xs j x c inside has has_c read = same_vector _ _ (λ i. at i (ℕ_discrete j i))
    where
      was : x ≡ get_or xs j k.zero
      was = get_or_read xs j x inside read k.zero

      at : (i : ℕ) → Dec (j ≡ i) → vector k (set xs j (k.add x c)) i ≡ (scalars k).◌+◌ (vector k xs i) ((scalars k).◌*◌ (scalar k c) (unit (scalars k) j i))
      at i (yes e) =
          ap (λ n. scalar k (get_or (set xs j (k.add x c)) n k.zero)) (sym e) ∙ ap (scalar k) (get_or-set_same xs j (k.add x c) k.zero inside ∙ ap (λ a. k.add a c) was)
          ∙ scalar_add k _ c (has j k.zero inside) has_c
          ∙ ap₂ (scalars k).◌+◌ (ap (λ n. vector k xs n) e) (sym (ap ((scalars k).◌*◌ (scalar k c)) (unit_at (scalars k) j i e) ∙ (scalars k).mul_one _))
      at i (no n) =
          ap (scalar k) (get_or-set_other xs j i (k.add x c) k.zero (λ e. n (sym e)))
          ∙ sym (ap ((scalars k).◌+◌ (vector k xs i)) (ap ((scalars k).◌*◌ (scalar k c)) (unit_other (scalars k) j i n) ∙ rings.mul_zero (scalars k) _) ∙ (scalars k).add_zero _)

  -- where the other row is 0 before a column but at one place, that place alone is written
  pub added_at : (row by : List E) (c y : E) (column from : ℕ) → column < length row → Has k c → All (Has k) row → All (Has k) by → ((j : ℕ) → j < from → j ≢ column → vector k by j ≡ (scalars k).zero)
      → y ≡ k.add (get_or row column k.zero) (k.mul c (get_or by column k.zero))
      → (j : ℕ) → j < from → get_or (set row column y) j k.zero ≡ k.add (get_or row j k.zero) (k.mul c (get_or by j k.zero))
  added_at row by c y column from inside has has_row has_by none is j low = go (ℕ_discrete j column)
    where
      go : Dec (j ≡ column) → get_or (set row column y) j k.zero ≡ k.add (get_or row j k.zero) (k.mul c (get_or by j k.zero))
      go (yes e) = ap (λ i. get_or (set row column y) i k.zero) e ∙ get_or-set_same row column y k.zero inside ∙ is ∙ ap (λ i. k.add (get_or row i k.zero) (k.mul c (get_or by i k.zero))) (sym e)
      go (no n) = get_or-set_other row column j y k.zero n ∙ sym (nothing_added row by c j has has_row has_by (none j low n))
