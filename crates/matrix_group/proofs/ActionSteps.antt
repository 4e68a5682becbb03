-- Steps of the computation of an image: cells of a matrix, and variables and linear forms as lists of terms.
use Rattle.matrix_group.proofs.Common.{◌≡◌, ℕ, zero, suc, ◌+◌, ◌*◌, ◌<◌, ◌≤◌, List, [], ◌∷◌, ◌++◌, length, get_or, sym, ap, ap₂, subst, ◌∙◌, arith, map-append, get_or-take, get_or-drop, get_or_default, FieldOn, Has, Scalar, scalars, scalar, mono, key, key_same, vectors, vec, plus, Term, entries, variable, single_vector, variable_vector, Matrix, cut_at, IsSquare, linear_form, mul-le-mul}
use Rattle.alg_core.specs.FreeModules.{single}
use Rattle.alg_core.specs.Spaces.{entry}
use Rattle.alg_core.proofs.VectorLaws.{vec_append, vec_nothing, vec_single}
use Rattle.lin_algebra.specs.Matrices.{entries as cells_of}

-- the key of a variable
pub key_variable : (a b : List ℕ) (i : ℕ) → a ≡ b → mono b ≡ variable i → key (0, a) ≡ (0, variable i)
unfolding key
key_variable a b i e is = ap (λ m. (0, m)) (ap mono e ∙ is)

-- the cell of a square matrix, as it is read from the list of cells
pub cell_inside : (n i j : ℕ) → i < n → j < n → i * n + j < n * n
cell_inside n i j h l = let same : n ≤ n = omega arith in let r : suc i * n ≤ n * n = mul-le-mul h same in omega arith

module _ {E : Type 0} (k : FieldOn E) (m : Matrix E) (square : IsSquare k m.rows m) where
  pub cells_many : length m.cells.items ≡ m.rows * m.rows
  cells_many = square.matrix.whole ∙ ap (λ n. m.rows * n) square.cols

  pub cell_within : (n i j : ℕ) → n ≡ m.rows → i < m.rows → j < n → i * n + j < length m.cells.items
  cell_within n i j e h l = subst (λ n. i * n + j < length m.cells.items) (sym e) (let r = cell_inside m.rows i j h (omega arith) in let s = cells_many in omega arith)

  pub cell_has : (n i j : ℕ) (x : E) → n ≡ m.rows → i < m.rows → j < n → x ≡ get_or m.cells.items (i * n + j) x → Has k x
  cell_has n i j x e h l is = subst (Has k) (sym is) (square.matrix.has (i * n + j) x (cell_within n i j e h l))

  pub cell_entry : (n i j : ℕ) (x : E) → n ≡ m.rows → i < m.rows → j < n → x ≡ get_or m.cells.items (i * n + j) x → scalar k x ≡ cells_of k m i j
  cell_entry n i j x e h l is = ap (scalar k) (is ∙ get_or_default m.cells.items (i * n + j) x k.zero (cell_within n i j e h l)
      ∙ ap (λ c. get_or m.cells.items (i * c + j) k.zero) (e ∙ sym square.cols)
      ∙ sym (get_or-drop (i * m.cols) m.cells.items j k.zero) ∙ sym (get_or-take m.cols _ j k.zero (omega (arith, square.cols)))
      ∙ ap (λ r. get_or r j k.zero) (sym (cut_at m.rows m.cols i m.cells.items [] h)))

module _ {E M : Type 0} (k : FieldOn E) (exps : M → List ℕ) where
  abbrev Terms : Type 0
  Terms = List (Term E M)

  -- a multiple of a variable
  vec_variable : (t : Term E M) (i : ℕ) → key (entry exps t).0 ≡ (0, variable i) → vec k (entries exps (t ∷ [])) ≡ (vectors k).◌·◌ (scalar k t.coef) (variable_vector k i)
  unfolding variable_vector single_vector
  vec_variable t i e = vec_single k (entry exps t) ∙ ap (λ s. (vectors k).◌·◌ (scalar k t.coef) (single (scalars k) key_same s)) e

  -- the first terms of a linear form
  pub form_start : (terms : Terms) (c : ℕ → Scalar k) → terms ≡ [] → vec k (entries exps terms) ≡ linear_form k 0 c
  form_start terms c none = ap (λ l. vec k (entries exps l)) none ∙ vec_nothing k

  pub form_step : (terms new : Terms) (t : Term E M) (x : E) (c : ℕ → Scalar k) (j : ℕ) → new ≡ terms ++ (t ∷ []) → vec k (entries exps terms) ≡ linear_form k j c
      → t.coef ≡ x → key (entry exps t).0 ≡ (0, variable j) → scalar k x ≡ c j → vec k (entries exps new) ≡ linear_form k (j + 1) c
  form_step terms new t x c j more was same e is =
      ap (λ l. vec k (entries exps l)) more ∙ ap (vec k) (map-append (entry exps) terms (t ∷ [])) ∙ vec_append k (entries exps terms) (entries exps (t ∷ []))
      ∙ ap₂ (plus k) was (vec_variable t j e ∙ ap (λ d. (vectors k).◌·◌ d (variable_vector k j)) (ap (scalar k) same ∙ is)) ∙ ap (λ n. linear_form k n c) one
    where
      one : suc j ≡ j + 1
      one = omega arith
