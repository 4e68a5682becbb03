-- Values of polynomials in variables and marks, values of combinations, and what is a combination over given polynomials.
--
--   mark_value k n θ u            the value of u where the variables after the first n, the marks, have the values θ
--   combination_value k θ S c     the value of a combination: the sum of c · m(θ) · s over its terms, where s is the member
--                                 of S that stands at the position of the term, from 0, and m(θ) its monomial at θ
--   IsCombination k r m c         c has only the first r variables and only positions below m
--   Over k θ S f                  f is the value of a combination over θ and S
--   combination_degree ds es t    the degree of a key of a combination, where θ has the degrees ds and S the degrees es
use Rattle.std.specs.Prelude.{◌≡◌, ℕ, ◌+◌, ◌<◌, ◌≤◌, List, ◌++◌, length}
use Rattle.alg_core.specs.Fields.{FieldOn, scalars}
use Rattle.alg_core.specs.FreeModules.{extend}
use Rattle.alg_core.specs.Keys.{Key, key_same}
use Rattle.alg_core.specs.Vectors.{Vect, vectors}
use Rattle.alg_core.specs.SpaceGrading.{weight, height}
use Rattle.poly_module.specs.Polynomials.{product, vector_ring}
use Rattle.poly_module.specs.Substitutions.{monomial_value, substitute}
use Rattle.poly_module.specs.Parts.{Supp}
use Rattle.poly_module.specs.Variables.{variables}
use Rattle.poly_module.specs.Modules.{listed}

-- the degree of its monomial by the degrees ds, and the degree that stands at its position
abbrev pub combination_degree : List ℕ → List ℕ → Key → ℕ
combination_degree ds es t = weight ds 0 t.1.0 + height es t.0

module _ {E : Type 0} (k : FieldOn E) where
  -- the first n variables stay, those after them have the values θ
  abbrev pub mark_value : ℕ → List (Vect k) → Vect k → Vect k
  mark_value n θ u = substitute k (variables k n ++ θ) u

  -- the value of a key: its monomial at θ times the member of S at its position
  abbrev pub term_value : List (Vect k) → List (Vect k) → Key → Vect k
  term_value θ S t = product k (monomial_value (vector_ring k) θ t.1.0) (listed k S t.0)

  -- the value of a combination
  unfoldable pub combination_value : List (Vect k) → List (Vect k) → Vect k → Vect k
  combination_value θ S = extend (scalars k) key_same (vectors k) (term_value θ S)

  -- in the first r variables, at positions below m
  abbrev pub IsCombination : ℕ → ℕ → Vect k → Type 0
  IsCombination r m c = Supp k (λ t. (length t.1.0 ≤ r) × (t.0 < m)) c

  -- the value of a combination over θ and S
  abbrev pub Over : List (Vect k) → List (Vect k) → Vect k → Type 0
  Over θ S f = (c : Vect k) × IsCombination (length θ) (length S) c × (combination_value θ S c ≡ f)
