-- Vectors with a part for each polynomial of a list, at the positions of the parts of the graph.
--
--   block_space field s      the space that a space of the program with an elimination order stands for
--   HasPlaces k n r B p      the terms p are those of a polynomial in n variables and r marks, whose parts in the variables are in B
--   AreAllDifferences S n θ B gens pss   for each of the matrices gens there is a list of such differences of the monomials of B
--   raised k q v             the vector v with q added to each position
--   stacked k n B i us       the sum of the vectors of the polynomials us, where a position stands for each monomial of B: the first
--                            at the positions of the part i, from 0, each next one at those of the next part
--   graph_vector k n B us j  the vectors of the polynomials us from the first part on, and 1 at the place j of the part after them
use Rattle.std.specs.Prelude.{◌≡◌, ℕ, suc, All, ◌+◌, ◌*◌, List, [], ◌∷◌, length}
use Rattle.alg_core.specs.Fields.{FieldOn, Has}
use Rattle.alg_core.specs.EliminationOrder.{elimination_order}
use Rattle.alg_core.specs.MonomialParts.{variable_part}
use Rattle.alg_core.specs.Monomials.{monomials, mono}
use Rattle.alg_core.specs.Spaces.{SpaceOver, over, entries}
use Rattle.alg_core.specs.declared.elimination_order.ElimOrder.{ElimOrder}
use Rattle.alg_core.specs.declared.space.Space.{Space}
use Rattle.alg_core.specs.declared.term.Term.{Term}
use Rattle.alg_core.specs.Vectors.{Vect, plus, zero_vector}
use Rattle.poly_module.specs.Polynomials.{single_vector, product}
use Rattle.lin_algebra.specs.declared.matrix.Matrix.{Matrix}
use Rattle.secondary_gens.specs.Lists.{Each}
use Rattle.primary_module.specs.PrimaryModules.{AreStandardDifferences}
use Rattle.primary_module.specs.Positions.{IsPart, at_positions}

abbrev pub block_space : {F E : Type 0} → (F → FieldOn E) → Space F ElimOrder → SpaceOver E
block_space field s = over field (λ o. elimination_order o.first o.weights.items) s

module _ {E : Type 0} (S : SpaceOver E) (n : ℕ) (θ : List (Vect S.field)) (B : List (List ℕ)) where
  abbrev pub AreAllDifferences : List (Matrix E) → List (List (List (Term E (List ℕ)))) → Type 0
  AreAllDifferences = Each (λ m ps. AreStandardDifferences S n θ m B ps)

module _ {E : Type 0} (k : FieldOn E) where
  pub record HasPlaces (n r : ℕ) (B : List (List ℕ)) (p : List (Term E (List ℕ))) : Type 0 where
    pub values : All (λ e. Has k e.1) (entries (λ m. m) p)
    pub wide : All (λ e. length e.0.1 ≡ n + r) (entries (λ m. m) p)
    pub position : All (λ e. e.0.0 ≡ 0) (entries (λ m. m) p)
    pub parts : All (λ e. IsPart B (variable_part n (mono e.0.1))) (entries (λ m. m) p)

  abbrev pub raised : ℕ → Vect k → Vect k
  raised q v = product k v (single_vector k (q, monomials.one))

  module _ (n : ℕ) (B : List (List ℕ)) where
    abbrev pub stacked : ℕ → List (Vect k) → Vect k
    stacked i [] = zero_vector k
    stacked i (u ∷ us) = plus k (raised (i * length B) (at_positions k n B u)) (stacked (suc i) us)

    abbrev pub graph_vector : List (Vect k) → ℕ → Vect k
    graph_vector us j = plus k (stacked 0 us) (single_vector k (length us * length B + j, monomials.one))
