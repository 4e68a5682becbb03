-- The solution that uses no column which is a combination of those before it is the greedy choice of the columns, and of any
-- vectors that have these columns as their coordinates.
use Rattle.std.proofs.Common.{◌≡◌, ℕ, zero, suc, ◌<◌, ◌≤◌, ◌⊎◌, inl, inr, List, [], ◌∷◌, ◌++◌, map, length, take, get_or, sym, ap, ap₂, ◌∙◌, refl, arith, subst}
use Rattle.std.proofs.lemmas.Bool.{cases_lt}
use Rattle.std.proofs.lemmas.List.{length-map, get_or-map, take-map, take-append-le, take_all, ext_get_or}
use Rattle.alg_core.specs.Rings.{Ring, Module, Linear}
use Rattle.alg_core.specs.ModuleLaws as modules
use Rattle.alg_core.specs.Fields.{FieldOn, Scalar, scalar, scalars}
use Rattle.alg_core.specs.Spans.{combine, InSpan, Greedy}
use Rattle.alg_core.proofs.SpanLaws.{span_map}
use Rattle.lin_algebra.specs.declared.matrix.Matrix.{Matrix}
use Rattle.lin_algebra.specs.Vectors.{vectors, dot, unit, vector, IsRow}
use Rattle.lin_algebra.specs.Matrices.{entries, first_columns, columns_of, IsSolution, IsDependent}
use Rattle.lin_algebra.proofs.SpanLaws.{span_ind}
use Rattle.lin_algebra.proofs.DotLaws.{dot_zero, dot_comm, dot_add_right, dot_act_right, dot_unit}
use Rattle.lin_algebra.proofs.CutLaws.{listing, length_listing, get_or-listing}
use Rattle.lin_algebra.proofs.KernelOf.{Each_listing}

take_listing : {A : Type 0} (f : ℕ → A) (n i : ℕ) → i ≤ n → take i (listing f n) ≡ listing f i
take_listing f zero i h = let none : i ≡ 0 = omega arith in ap (λ j. take j (listing f 0)) none ∙ ap (listing f) (sym none)
take_listing f (suc n) i h = go (take_listing f n i) (cases_lt n i)
  where
    go : (i ≤ n → take i (listing f n) ≡ listing f i) → (n < i) ⊎ (i ≤ n) → take i (listing f n ++ f n ∷ []) ≡ listing f i
    go before (inr b) = take-append-le i (listing f n) (f n ∷ []) (omega (arith, length_listing f n)) ∙ before b
    go before (inl b) = let all : i ≡ suc n = omega arith in take_all i (listing f (suc n)) (omega (arith, length_listing f (suc n))) ∙ ap (listing f) (sym all)

module _ {K : Type 0} {R : Ring K} {A : Type 0} (X : Module R A) where
  combine_last : (cs : List K) (ws : List A) (c : K) (w : A) → length cs ≡ length ws → combine X (cs ++ c ∷ []) (ws ++ w ∷ []) ≡ X.◌+◌ (combine X cs ws) (X.◌·◌ c w)
  combine_last [] [] c w e = X.add_zero _ ∙ sym (modules.zero_add X _)
  combine_last [] (x ∷ ws) c w e = absurd (omega arith)
  combine_last (d ∷ cs) [] c w e = absurd (omega arith)
  combine_last (d ∷ cs) (x ∷ ws) c w e = ap (X.◌+◌ (X.◌·◌ d x)) (combine_last cs ws c w (omega arith)) ∙ sym (X.add_assoc _ _ _)

module _ {K : Type 0} (R : Ring K) where
  abbrev V : Type 0
  V = ℕ → K

  combine_listing : (f : ℕ → V) (g : V) (n i : ℕ) → combine (vectors R) (listing g n) (listing f n) i ≡ dot R n (λ j. f j i) g
  combine_listing f g zero i = refl
  combine_listing f g (suc n) i =
      ap (λ u. u i) (combine_last (vectors R) (listing g n) (listing f n) (g n) (f n) (length_listing g n ∙ sym (length_listing f n)))
      ∙ ap₂ R.◌+◌ (combine_listing f g n i) (R.mul_comm (g n) (f n i))

  -- an element of the span of the first n is the same sum of multiples at each place
  span_dot : (f : ℕ → V) (n : ℕ) (v : V) → InSpan (vectors R) (listing f n) v → (c : V) × ((i : ℕ) → v i ≡ dot R n (λ j. f j i) c)
  span_dot f n = span_ind (vectors R) (λ v. (c : V) × ((i : ℕ) → v i ≡ dot R n (λ j. f j i) c))
      (λ _. R.zero, λ i. sym (dot_comm R n (λ j. f j i) (λ _. R.zero) ∙ dot_zero R n (λ _. R.zero) (λ j. f j i) (λ _ _. refl)))
      (λ u v h g. ((vectors R).◌+◌ h.0 g.0, λ i. ap₂ R.◌+◌ (h.1 i) (g.1 i) ∙ sym (dot_add_right R n (λ j. f j i) h.0 g.0)))
      (λ a u h. ((vectors R).◌·◌ a h.0, λ i. ap (R.◌*◌ a) (h.1 i) ∙ sym (dot_act_right R n a (λ j. f j i) h.0)))
      (listing f n) (Each_listing (λ v. (c : V) × ((i : ℕ) → v i ≡ dot R n (λ j. f j i) c)) f n (λ t h. (unit R t, λ i. sym (dot_unit R n (λ j. f j i) t h))))

module _ {E : Type 0} (k : FieldOn E) (a : Matrix E) where
  column : ℕ → ℕ → Scalar k
  column j i = entries k a i j

  columns_listing : (n : ℕ) → first_columns k a n ≡ listing column n
  unfolding column
  columns_listing zero = refl
  columns_listing (suc n) = ap (λ l. l ++ column n ∷ []) (columns_listing n)

  module _ (xs : List E) (row : IsRow k a.cols xs) where
    coefficients : map (scalar k) xs ≡ listing (vector k xs) a.cols
    coefficients = ext_get_or (scalars k).zero (map (scalar k) xs) (listing (vector k xs) a.cols) (length-map xs (scalar k) ∙ row.count ∙ sym (length_listing (vector k xs) a.cols))
        (λ i h. let inside : i < length xs = omega (arith, length-map xs (scalar k)) in
        get_or-map (scalar k) xs i k.zero (scalars k).zero inside ∙ sym (get_or-listing (vector k xs) a.cols i (scalars k).zero (omega (arith, row.count))))

    -- the sum of the multiples of the columns
    pub solution_combines : (b : ℕ → Scalar k) → IsSolution k a b (vector k xs) → (i : ℕ) → i < a.rows → combine (vectors (scalars k)) (map (scalar k) xs) (columns_of k a) i ≡ b i
    unfolding column
    solution_combines b solves i h =
        ap₂ (λ cs ws. combine (vectors (scalars k)) cs ws i) coefficients (columns_listing a.cols) ∙ combine_listing (scalars k) column (vector k xs) a.cols i ∙ solves i h

    -- what has the columns as coordinates is chosen as they are
    module _ {A : Type 0} (X : Module (scalars k) A) (f : A → ℕ → Scalar k) (linear : Linear X (vectors (scalars k)) f) (ws : List A) (coordinates : map f ws ≡ columns_of k a)
        (first : (j : ℕ) → IsDependent k a j → vector k xs j ≡ (scalars k).zero) where
      count : length ws ≡ a.cols
      count = sym (length-map ws f) ∙ ap length (coordinates ∙ columns_listing a.cols) ∙ length_listing column a.cols

      dependent : (i : ℕ) → i < length ws → InSpan X (take i ws) (get_or ws i X.zero) → IsDependent k a i
      unfolding column
      dependent i h s =
          let columns : map f ws ≡ listing column a.cols = coordinates ∙ columns_listing a.cols in
          let before : map f (take i ws) ≡ listing column i = sym (take-map f i ws) ∙ ap (take i) columns ∙ take_listing column a.cols i (omega (arith, count)) in
          let there : f (get_or ws i X.zero) ≡ column i = sym (get_or-map f ws i X.zero (vectors (scalars k)).zero h) ∙ ap (λ l. get_or l i (vectors (scalars k)).zero) columns ∙ get_or-listing column a.cols i (vectors (scalars k)).zero (omega (arith, count)) in
          let down : InSpan (vectors (scalars k)) (map f (take i ws)) (f (get_or ws i X.zero)) = span_map X (vectors (scalars k)) f linear (take i ws) (get_or ws i X.zero) s in
          let found = span_dot (scalars k) column i (column i) (subst (λ l. InSpan (vectors (scalars k)) l (column i)) before (subst (InSpan (vectors (scalars k)) (map f (take i ws))) there down)) in
          (found.0, λ r _. found.1 r)

      pub solution_greedy : Greedy X ws (map (scalar k) xs)
      solution_greedy = record {
        each = length-map xs (scalar k) ∙ row.count ∙ sym count;
        skips = λ i h s. get_or-map (scalar k) xs i k.zero (scalars k).zero (omega (arith, row.count, count)) ∙ first i (dependent i h s);
      }

  identity_linear : Linear (vectors (scalars k)) (vectors (scalars k)) (λ v. v)
  identity_linear = record { add = λ u v. refl; act = λ c u. refl }

  map_same : {B : Type 0} (l : List B) → map (λ x. x) l ≡ l
  map_same [] = refl
  map_same (x ∷ l) = ap (λ m. x ∷ m) (map_same l)

  -- the columns themselves
  pub columns_greedy : (xs : List E) → IsRow k a.cols xs → ((j : ℕ) → IsDependent k a j → vector k xs j ≡ (scalars k).zero) → Greedy (vectors (scalars k)) (columns_of k a) (map (scalar k) xs)
  columns_greedy xs row first = solution_greedy xs row (vectors (scalars k)) (λ v. v) identity_linear (columns_of k a) (map_same (columns_of k a)) first
