-- Polynomials in n variables and marks, one mark for each of some polynomials in the variables alone.
--
--   IsMixed k n r u           u is a polynomial in n variables and r marks
--   in_marks k n u            the vector u, where each variable j stands as the j-th mark
--   from_marks k n u          the vector u without its variables, where the j-th mark stands as variable j
--   relation k n f j          the polynomial f less the j-th mark
--   relations_from k n j θ    for each member of θ its relation, where the first has the j-th mark
--   relations k n θ           for each member of θ its relation, where the first has the mark 0
--   IsRelation k n θ u        u is a polynomial in n variables and a mark for each member of θ whose value at θ is 0
use Rattle.std.specs.Prelude.{◌≡◌, ℕ, suc, ◌+◌, List, [], ◌∷◌, length}
use Rattle.alg_core.specs.Fields.{FieldOn, scalars}
use Rattle.alg_core.specs.FreeModules.{extend}
use Rattle.alg_core.specs.Keys.{key_same}
use Rattle.alg_core.specs.MonomialParts.{mark_part, key_as_marks}
use Rattle.alg_core.specs.Vectors.{Vect, vectors, zero_vector}
use Rattle.poly_module.specs.Signs.{minus}
use Rattle.poly_module.specs.Polynomials.{single_vector}
use Rattle.poly_module.specs.Substitutions.{variable_vector}
use Rattle.poly_module.specs.Parts.{IsPolynomial, InVariables}
use Rattle.poly_module.specs.Combinations.{mark_value}

module _ {E : Type 0} (k : FieldOn E) (n : ℕ) where
  pub record IsMixed (r : ℕ) (u : Vect k) : Type 0 where
    pub polynomial : IsPolynomial k u
    pub variables : InVariables k (n + r) u

  -- variables as marks
  unfoldable pub in_marks : Vect k → Vect k
  in_marks = extend (scalars k) key_same (vectors k) (λ t. single_vector k (key_as_marks n t))

  -- marks as variables, and each variable as 1
  unfoldable pub from_marks : Vect k → Vect k
  from_marks = extend (scalars k) key_same (vectors k) (λ t. single_vector k (t.0, mark_part n t.1))

  abbrev pub relation : Vect k → ℕ → Vect k
  relation f j = minus k f (variable_vector k (n + j))

  abbrev pub relations_from : ℕ → List (Vect k) → List (Vect k)
  relations_from j [] = []
  relations_from j (f ∷ fs) = relation f j ∷ relations_from (suc j) fs

  abbrev pub relations : List (Vect k) → List (Vect k)
  relations θ = relations_from 0 θ

  -- The value of a variable past the marks is 1, so the value 0 alone does not tell the relations.
  pub record IsRelation (θ : List (Vect k)) (u : Vect k) : Type 0 where
    pub mixed : IsMixed (length θ) u
    pub value : mark_value k n θ u ≡ zero_vector k
