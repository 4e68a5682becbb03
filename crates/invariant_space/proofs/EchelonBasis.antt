-- The kernel of the equations gives the echelon basis of the invariants, and there is one such basis.
use Rattle.invariant_space.proofs.Common.{◌≡◌, ◌↔◌, ℕ, ◌≤◌, List, [], ◌∷◌, length, map, replicate, sym, ap, ◌∙◌, refl, subst, arith, length-map, Each, Ring, FieldOn, Scalar, scalars, Key, SpaceOver, key_order, Vect, vectors, IsSubspace, In, Supp, supp_zero, supp_plus, supp_act, OfDegree, Matrix, vector, columns, InSpan, PivotRow, rows, IsReducedEchelon, rows_of, vectors_of, IsKernelVector, span_member, Each_weaker, Each_of_map, length_cut, Invariant, act_linear, IsInvariantForm, IsEchelonBasis, IsMonomialList, row_polynomial, coordinates, AreEquations}
use Rattle.std.specs.List.{zip}
use Rattle.poly_module.proofs.Echelon.{echelon_unique}
use Rattle.matrix_group.proofs.InvariantLaws.{invariant_zero, invariant_plus}
use Rattle.invariant_space.proofs.EchelonRows.{echelon_rows}
use Rattle.invariant_space.proofs.EquationLaws.{kernel_solves}
use Rattle.invariant_space.proofs.ImageLaws.{invariant_keys, keys_form, keys_variables}

-- the rows of a list of pivots and rows
rows_zip : {K : Type 0} (R : Ring K) (ps : List ℕ) (vs : List (ℕ → K)) → length ps ≡ length vs → rows R (zip ps vs) ≡ vs
rows_zip R [] [] e = refl
rows_zip R [] (v ∷ vs) e = absurd (omega arith)
rows_zip R (p ∷ ps) [] e = absurd (omega arith)
rows_zip R (p ∷ ps) (v ∷ vs) e = ap (λ l. v ∷ l) (rows_zip R ps vs (omega arith))

length_vectors : {E : Type 0} (k : FieldOn E) (b : Matrix E) → length (vectors_of k b) ≡ b.rows
length_vectors k b = length-map (rows_of b) (vector k) ∙ length_cut b.rows b.cols b.cells.items

module _ {E : Type 0} (k : FieldOn E) (n : ℕ) (gens : List (Matrix E)) (d : ℕ) where
  -- sums and multiples of invariant forms of one degree are such forms
  pub invariant_subspace : IsSubspace k (IsInvariantForm k n gens d)
  invariant_subspace = record {
    zero = record { form = supp_zero k (OfDegree k (replicate n 1) d); variables = supp_zero k (λ t. length t.1.0 ≤ n); invariant = invariant_zero k gens };
    plus = λ u v h g. record {
      form = supp_plus k (OfDegree k (replicate n 1) d) u v h.form g.form;
      variables = supp_plus k (λ t. length t.1.0 ≤ n) u v h.variables g.variables;
      invariant = invariant_plus k gens u v h.invariant g.invariant;
    };
    act = λ c u h. record {
      form = supp_act k (OfDegree k (replicate n 1) d) c u h.form;
      variables = supp_act k (λ t. length t.1.0 ≤ n) c u h.variables;
      invariant = λ i m l. (act_linear k _ _).act c u ∙ ap ((vectors k).◌·◌ c) (h.invariant i m l);
    };
  }

module _ {E : Type 0} (S : SpaceOver E) (gens : List (Matrix E)) (d : ℕ) where
  abbrev k : FieldOn E
  k = S.field

  -- there is at most one echelon basis
  pub echelon_basis_unique : (vs ws : List (Vect S.field)) → IsEchelonBasis S gens d vs → IsEchelonBasis S gens d ws → vs ≡ ws
  echelon_basis_unique = echelon_unique S.field (key_order S) (IsInvariantForm S.field (length S.weights) gens d) (invariant_subspace S.field (length S.weights) gens d)

  -- The rows of a matrix in reduced echelon form that span the kernel of the equations are the echelon basis.
  pub basis_of_kernel : (ts : List Key) → IsMonomialList (key_order S) (length S.weights) d ts → (a b : Matrix E) → AreEquations S.field ts (Invariant S.field gens) a
      → (ps : List ℕ) × (length ps ≡ b.rows) × IsReducedEchelon (scalars S.field) (zip ps (vectors_of S.field b))
      → ((v : ℕ → Scalar S.field) → InSpan (columns (scalars S.field)) (vectors_of S.field b) v ↔ IsKernelVector S.field a v)
      → IsEchelonBasis S gens d (map (row_polynomial S.field ts) (vectors_of S.field b))
  basis_of_kernel ts monomials a b equations pivots kernel = subst (λ vs. IsEchelonBasis S gens d (map (row_polynomial k ts) vs)) rows_are
      (echelon_rows k (key_order S) ts monomials.falls l pivots.2 past (IsInvariantForm k n gens d) (invariant_keys k n (key_order S) d ts monomials gens) same)
    where
      n : ℕ
      n = length S.weights

      l : List (PivotRow (Scalar k))
      l = zip pivots.0 (vectors_of k b)

      rows_are : rows (scalars k) l ≡ vectors_of k b
      rows_are = rows_zip (scalars k) pivots.0 (vectors_of k b) (pivots.1 ∙ sym (length_vectors k b))

      Past : (ℕ → Scalar k) → Type 0
      Past w = (j : ℕ) → length ts ≤ j → w j ≡ (scalars k).zero

      past : Each (λ e. (j : ℕ) → length ts ≤ j → e.1 j ≡ (scalars k).zero) l
      past = Each_of_map Past (λ e. e.1) l (subst (Each Past) (sym rows_are)
          (Each_weaker (InSpan (columns (scalars k)) (vectors_of k b)) Past (λ w s j h. ((kernel w).0 s).past j (omega (arith, equations.cols))) (vectors_of k b) (span_member (columns (scalars k)) (vectors_of k b))))

      same : (f : Vect k) → Supp k (λ t. In t ts) f → (IsInvariantForm k n gens d f ↔ InSpan (columns (scalars k)) (rows (scalars k) l) (coordinates k ts f))
      same f keys =
          let rows = kernel_solves k a ts f equations.cols in
          let fixed = equations.solves f keys in
          let solves = kernel (coordinates k ts f) in
          subst (λ vs. IsInvariantForm k n gens d f ↔ InSpan (columns (scalars k)) vs (coordinates k ts f)) (sym rows_are)
          (λ h. solves.1 (rows.1 (fixed.1 h.invariant)), λ h. record { form = keys_form k n (key_order S) d ts monomials f keys; variables = keys_variables k n (key_order S) d ts monomials f keys; invariant = fixed.0 (rows.0 (solves.0 h)) })
