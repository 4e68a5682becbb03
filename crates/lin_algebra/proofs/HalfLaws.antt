-- From the list that elimination keeps to the inverse matrix.
use Rattle.std.proofs.Common.{◌≡◌, ℕ, zero, suc, ◌+◌, ◌<◌, List, [], ◌∷◌, map, length, drop, get_or, sym, ap, ap₂, ◌∙◌, refl, arith, subst}
use Rattle.std.proofs.lemmas.List.{get_or-drop, length-drop}
use Rattle.std.proofs.lemmas.List.Elements.{All-drop}
use Rattle.alg_core.specs.Rings.{Ring}
use Rattle.alg_core.specs.Fields.{FieldOn, Has, Scalar, scalars, scalar}
use Rattle.lin_algebra.specs.declared.elimination.BasisRow.{BasisRow}
use Rattle.lin_algebra.specs.declared.matrix.Matrix.{Matrix}
use Rattle.lin_algebra.specs.Vectors.{vectors, vector, unit, IsRow}
use Rattle.alg_core.specs.Spans.{SameSpan}
use Rattle.lin_algebra.specs.Matrices.{rows_of, joined, beside, entries, IsMatrix, IsInverse}
use Rattle.lin_algebra.specs.Echelons.{PivotRow}
use Rattle.lin_algebra.specs.Bases.{basis_rows, rows_of_basis}
use Rattle.lin_algebra.proofs.DotLaws.{dot_same}
use Rattle.lin_algebra.proofs.BasisLaws.{no_row}
use Rattle.lin_algebra.proofs.CutLaws.{listing, listing_same}
use Rattle.lin_algebra.proofs.BesideLaws.{vectors_beside}
use Rattle.lin_algebra.proofs.InverseLaws.{augmented}

-- two views of the elements of a list, at one place
pub get_or_maps : {A B C D : Type 0} (f : A → B) (g : A → C) (h : B → D) (F : C → D) → ((x : A) → h (f x) ≡ F (g x)) → (l : List A) (i : ℕ) (d : B) (e : C) → i < length l → h (get_or (map f l) i d) ≡ F (get_or (map g l) i e)
get_or_maps f g h F same [] i d e inside = absurd (omega arith)
get_or_maps f g h F same (x ∷ l) zero d e inside = same x
get_or_maps f g h F same (x ∷ l) (suc i) d e inside = get_or_maps f g h F same l i d e (omega arith)

-- an inverse matters in its first rows alone
pub IsInverse_same : {K : Type 0} (R : Ring K) (n : ℕ) (a b b' : ℕ → ℕ → K) → ((i : ℕ) → i < n → b i ≡ b' i) → IsInverse R n a b → IsInverse R n a b'
IsInverse_same R n a b b' same h = record {
  right = λ i j p q. dot_same R n (a i) (a i) (λ l. b' l j) (λ l. b l j) (λ _ _. refl) (λ l t. sym (ap (λ u. u j) (same l t))) ∙ h.right i j p q;
  left = λ i j p q. dot_same R n (b' i) (b i) (λ l. a l j) (λ l. a l j) (λ l _. sym (ap (λ u. u l) (same i p))) (λ _ _. refl) ∙ h.left i j p q;
}

module _ {E : Type 0} (k : FieldOn E) where
  -- the rows of a with those of the identity
  pub augmented_span : (a right : Matrix E) (basis : List (BasisRow E)) → IsMatrix k a → a.rows ≡ a.cols → right.rows ≡ a.rows → ((i : ℕ) → i < a.rows → entries k right i ≡ unit (scalars k) i)
      → SameSpan (vectors (scalars k)) (rows_of_basis k basis) (map (vector k) (joined (rows_of a) (rows_of right)))
      → SameSpan (vectors (scalars k)) (rows_of_basis k basis) (listing (augmented (scalars k) a.rows (entries k a)) a.rows)
  augmented_span a right basis h square same units s =
      subst (SameSpan (vectors (scalars k)) (rows_of_basis k basis))
      (vectors_beside k a right h same ∙ listing_same _ _ a.rows (λ i b. ap₂ (λ n u. beside n (entries k a i) u) (sym square) (units i b))) s

  -- the pivots by the rows of values
  pub pivots_of_rows : (n : ℕ) (basis : List (BasisRow E)) → length basis ≡ n → ((i : ℕ) (d : PivotRow (Scalar k)) → i < n → (get_or (basis_rows k basis) i d).0 ≡ i) → (i : ℕ) (d : BasisRow E) → i < n → (get_or basis i d).pivot ≡ i
  pivots_of_rows n basis count h i d b =
      ap (λ l. (get_or l i d).pivot) (sym (map_same basis)) ∙ get_or_maps (λ x. x) (λ e. (let r : PivotRow (Scalar k) = (e.pivot, vector k e.entries.items) in r)) (λ e. e.pivot) (λ r. r.0) (λ _. refl) basis i d (no_row k) (omega (arith, count)) ∙ h i (no_row k) b
    where
      map_same : (l : List (BasisRow E)) → map (λ x. x) l ≡ l
      map_same [] = refl
      map_same (x ∷ l) = ap (λ r. x ∷ r) (map_same l)

  pub rows_of_pivots : (n : ℕ) (basis : List (BasisRow E)) → length basis ≡ n → ((i : ℕ) (d : BasisRow E) → i < n → (get_or basis i d).pivot ≡ i) → (i : ℕ) → i < n → (get_or (basis_rows k basis) i (no_row k)).0 ≡ i
  rows_of_pivots n basis count h i b = go basis i (omega (arith, count)) (λ d. h i d b)
    where
      go : (l : List (BasisRow E)) (i : ℕ) → i < length l → {m : ℕ} → ((d : BasisRow E) → (get_or l i d).pivot ≡ m) → (get_or (basis_rows k l) i (no_row k)).0 ≡ m
      go [] i inside p = absurd (omega arith)
      go (x ∷ l) zero inside p = p x
      go (x ∷ l) (suc i) inside p = go l i (omega arith) p

  -- the right halves of the rows
  pub entries_of_half : (n : ℕ) (basis : List (BasisRow E)) (m : Matrix E) → rows_of m ≡ map (λ e. drop n e.entries.items) basis → (i : ℕ) → i < length basis → (λ j. (get_or (basis_rows k basis) i (no_row k)).1 (n + j)) ≡ entries k m i
  entries_of_half n basis m is i inside =
      sym (get_or_maps (λ (e : BasisRow E). drop n e.entries.items) (λ e. (let r : PivotRow (Scalar k) = (e.pivot, vector k e.entries.items) in r)) (vector k) (λ r j. r.1 (n + j)) (λ e x j. scalar k (get_or-drop n e.entries.items j k.zero x)) basis i [] (no_row k) inside)
      ∙ ap (λ l. vector k (get_or l i [])) (sym is)

  pub IsRow_half : (n : ℕ) (xs : List E) → IsRow k (n + n) xs → IsRow k n (drop n xs)
  IsRow_half n xs h = record { count = length-drop n xs ∙ (let count = h.count in omega (arith, count)); has = All-drop (Has k) n xs h.has }
