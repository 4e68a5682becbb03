-- From a reduced echelon list to a matrix, and to its kernel vectors.
use Rattle.std.proofs.Common.{◌≡◌, ℕ, zero, suc, ◌+◌, ◌*◌, ◌<◌, List, [], ◌∷◌, ◌++◌, map, length, take, drop, get_or, All, Vec, Global, sym, ap, ap₂, ◌∙◌, refl, arith, subst}
use Rattle.std.specs.List.{flat_map, zip, AllByRecursion as Each}
use Rattle.std.proofs.lemmas.List.{take_more, map-append, length-map, get_or_read, take-append-drop, length-drop}
use Rattle.std.proofs.lemmas.List.Elements.{recursion_from_All, All-from_recursion, All-append}
use Rattle.alg_core.specs.Fields.{FieldOn, Has, Scalar, scalars, scalar, scalar_one, scalar_neg}
use Rattle.lin_algebra.specs.declared.elimination.BasisRow.{BasisRow}
use Rattle.lin_algebra.specs.declared.matrix.Matrix.{Matrix}
use Rattle.lin_algebra.specs.Vectors.{vectors, vector, unit, IsRow}
use Rattle.lin_algebra.specs.Matrices.{cut, rows_of, vectors_of, IsMatrix}
use Rattle.lin_algebra.specs.Echelons.{PivotRow}
use Rattle.lin_algebra.specs.Bases.{basis_rows, rows_of_basis}
use Rattle.lin_algebra.specs.Kernels.{particular, kernel_vector}
use Rattle.lin_algebra.proofs.EachLaws.{Each_map, Each_of_map, Each_weaker}
use Rattle.lin_algebra.proofs.CutLaws.{cut_flat, length_flat}
use Rattle.lin_algebra.proofs.KernelLaws.{particular_append}

module _ {E : Type 0} (f : BasisRow E → List E) where
  flat_of_map : (basis : List (BasisRow E)) → flat_map f basis ≡ flat_map (λ x. x) (map f basis)
  flat_of_map [] = refl
  flat_of_map (e ∷ l) = ap (λ r. f e ++ r) (flat_of_map l)

  lengths : (c : ℕ) (basis : List (BasisRow E)) → All (λ e. length (f e) ≡ c) basis → Each (λ r. length r ≡ c) (map f basis)
  lengths c basis h = Each_map (λ (r : List E). length r ≡ c) f basis (recursion_from_All (λ (e : BasisRow E). length (f e) ≡ c) basis h)

  pub rows_of_flat : (c : ℕ) (basis : List (BasisRow E)) (cells : List E) → All (λ e. length (f e) ≡ c) basis → cells ≡ flat_map f basis → cut (length basis) c cells ≡ map f basis
  rows_of_flat c basis cells h is = ap₂ (λ n l. cut n c l) (sym (length-map basis f)) (is ∙ flat_of_map basis) ∙ cut_flat c (map f basis) (lengths c basis h)

  pub whole_of_flat : (c : ℕ) (basis : List (BasisRow E)) (cells : List E) → All (λ e. length (f e) ≡ c) basis → cells ≡ flat_map f basis → length cells ≡ length basis * c
  whole_of_flat c basis cells h is = ap length (is ∙ flat_of_map basis) ∙ length_flat c (map f basis) (lengths c basis h) ∙ ap (λ n. n * c) (length-map basis f)

module _ {E : Type 0} (k : FieldOn E) where
  -- one row more of a particular vector
  pub particular_more : (basis : List (BasisRow E)) (i j : ℕ) (x : BasisRow E) (a : E) (old new : List E) → i < length basis → x ≡ get_or basis i x → j < length x.entries.items → a ≡ get_or x.entries.items j a
      → vector k new ≡ (vectors (scalars k)).◌+◌ (vector k old) ((vectors (scalars k)).◌·◌ (scalar k a) (unit (scalars k) x.pivot))
      → vector k old ≡ particular (scalars k) j (basis_rows k (take i basis)) → vector k new ≡ particular (scalars k) j (basis_rows k (take (i + 1) basis))
  particular_more basis i j x a old new inside read j_inside a_read sum was =
      let X = vectors (scalars k) in
      let R = scalars k in
      let split : take (i + 1) basis ≡ take i basis ++ x ∷ [] = take_more basis i x inside ∙ ap (λ (y : BasisRow E). take i basis ++ y ∷ []) (sym read) in
      sum ∙ ap₂ X.◌+◌ was (ap (λ c. X.◌·◌ (scalar k c) (unit R x.pivot)) (get_or_read x.entries.items j a j_inside a_read k.zero) ∙ sym (X.add_zero _))
      ∙ sym (particular_append R j (basis_rows k (take i basis)) (basis_rows k (x ∷ [])))
      ∙ ap (particular R j) (sym (map-append (λ (e : BasisRow E). (let r : PivotRow (Scalar k) = (e.pivot, vector k e.entries.items) in r)) (take i basis) (x ∷ [])))
      ∙ ap (λ l. particular R j (basis_rows k l)) (sym split)

  -- the vectors of rows of values, and of their lists of values
  pub vectors_of_rows : (rs : List (Vec E Global)) → map (λ r. vector k r.items) rs ≡ map (vector k) (map (λ r. r.items) rs)
  vectors_of_rows [] = refl
  vectors_of_rows (r ∷ rs) = ap (λ l. vector k r.items ∷ l) (vectors_of_rows rs)

  pub rows_of_basis_is : (basis : List (BasisRow E)) → rows_of_basis k basis ≡ map (vector k) (map (λ e. e.entries.items) basis)
  rows_of_basis_is [] = refl
  rows_of_basis_is (e ∷ l) = ap (λ r. vector k e.entries.items ∷ r) (rows_of_basis_is l)

  pub zip_of_basis : (basis : List (BasisRow E)) → zip (map (λ e. e.pivot) basis) (map (vector k) (map (λ e. e.entries.items) basis)) ≡ basis_rows k basis
  zip_of_basis [] = refl
  zip_of_basis (e ∷ l) = ap (λ r. (let x : PivotRow (Scalar k) = (e.pivot, vector k e.entries.items) in x) ∷ r) (zip_of_basis l)

  -- what holds of the rows holds of the vectors of values that are equal to them
  pub All_of_rows : (P : List E → Type 0) (rs : List (Vec E Global)) (rows : List (List E)) → map (λ r. r.items) rs ≡ rows → Each P rows → All (λ r. P r.items) rs
  All_of_rows P rs rows is h = All-from_recursion (λ (r : Vec E Global). P r.items) rs (Each_of_map P (λ (r : Vec E Global). r.items) rs (subst (Each P) (sym is) h))

  -- rows of values make a matrix of the field
  pub IsMatrix_of_basis : (f : BasisRow E → List E) (basis : List (BasisRow E)) (m : Matrix E) → All (λ e. IsRow k m.cols (f e)) basis → length m.cells.items ≡ m.rows * m.cols → rows_of m ≡ map f basis → IsMatrix k m
  IsMatrix_of_basis f basis m h whole is =
      record {
        whole = whole;
        has = All_of_cut m.rows m.cols m.cells.items whole (subst (Each (λ r. All (Has k) r)) (sym is)
            (Each_map (λ (r : List E). All (Has k) r) f basis (Each_weaker (λ (e : BasisRow E). IsRow k m.cols (f e)) (λ e. All (Has k) (f e)) (λ e r. r.has) basis (recursion_from_All (λ (e : BasisRow E). IsRow k m.cols (f e)) basis h))));
      }
    where
      All_of_cut : (n c : ℕ) (xs : List E) → length xs ≡ n * c → Each (λ r. All (Has k) r) (cut n c xs) → All (Has k) xs
      All_of_cut zero c [] whole h = λ i d b. absurd (omega arith)
      All_of_cut zero c (x ∷ xs) whole h = absurd (omega arith)
      All_of_cut (suc n) c xs whole h = subst (All (Has k)) (take-append-drop c xs) (All-append (Has k) (take c xs) (drop c xs) h.0 (All_of_cut n c (drop c xs) (length-drop c xs ∙ omega (arith, whole)) h.1))

  -- the kernel vector, as it is made
  pub kernel_vector_made : (l : List (PivotRow (Scalar k))) (j : ℕ) (a b : E) (made scaled old : ℕ → Scalar k) → b ≡ k.one → a ≡ k.neg k.one
      → old ≡ particular (scalars k) j l → scaled ≡ (vectors (scalars k)).◌·◌ (scalar k a) old → made ≡ (vectors (scalars k)).◌+◌ scaled ((vectors (scalars k)).◌·◌ (scalar k b) (unit (scalars k) j))
      → made ≡ kernel_vector (scalars k) j l
  kernel_vector_made l j a b made scaled old b_is a_is old_is scaled_is made_is =
      let X = vectors (scalars k) in
      let R = scalars k in
      made_is ∙ ap₂ X.◌+◌ (scaled_is ∙ ap₂ X.◌·◌ (ap (scalar k) a_is ∙ scalar_neg k k.one k.has_one ∙ ap R.neg (scalar_one k)) old_is) (ap (λ c. X.◌·◌ c (unit R j)) (ap (scalar k) b_is ∙ scalar_one k) ∙ X.one_act _) ∙ X.add_comm _ _

  pub vectors_of_made : (basis : List (BasisRow E)) (m : Matrix E) → rows_of m ≡ map (λ e. e.entries.items) basis → vectors_of k m ≡ rows_of_basis k basis
  vectors_of_made basis m is = ap (map (vector k)) is ∙ sym (rows_of_basis_is basis)

  pub pivot_rows_made : (basis : List (BasisRow E)) (m : Matrix E) (ps : List ℕ) → ps ≡ map (λ e. e.pivot) basis → rows_of m ≡ map (λ e. e.entries.items) basis → zip ps (vectors_of k m) ≡ basis_rows k basis
  pivot_rows_made basis m ps pivots is = ap₂ (λ (qs : List ℕ) (l : List (List E)). zip qs (map (vector k) l)) pivots is ∙ zip_of_basis basis
