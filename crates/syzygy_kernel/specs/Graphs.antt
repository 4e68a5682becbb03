-- The graph of the differences f∘M - f. θ are polynomials of the degrees ds in some variables, B monomials in these, by their
-- exponents. A vector w has a part for each generator M, and a last part for f. Each part stands for a combination over θ and the
-- monomials of B: it has a position for each of them, and the parts follow one another.
--
--   copies c xs               c copies of the list xs, one after another
--   nothings k B              0 for each monomial of B
--   part_values k B c i       what stands at the positions of c parts for the value of part i, from 0: the monomials of B at its own,
--                             0 at the others
--   part_value k θ gens B i w the value of part i of w
--   last_value k θ gens B w   the value of the last part
--   InGraph k θ gens B w      w is an element of the graph: the value of its part for the generator M is f∘M - f, where f is the value
--                             of its last part
--   AreGenerators k θ gens B vs   vs are elements of the graph, one for each monomial of B, whose last parts have these as values
--   first_block gens B        the number of the positions before those of the last part
--   graph_space k ds c B      the space of the graph of c generators: the elimination order whose first block are the positions of
--                             all parts but the last, and which compares monomials of one block without shifts; the position of a
--                             member of B has its degree as shift, in each part
--   last_part k n gens B w    the last part of w as a polynomial in n variables and marks for θ, where a position stands as its monomial
use Rattle.std.specs.Prelude.{◌≡◌, ◌<◌, ◌-◌, ◌*◌, ℕ, zero, suc, List, [], ◌++◌, length, map, slice_get, Some, nat_lt, if◌then◌else◌}
use Rattle.alg_core.specs.EliminationOrder.{elimination_order}
use Rattle.alg_core.specs.Fields.{FieldOn, scalars}
use Rattle.alg_core.specs.FreeModules.{extend}
use Rattle.alg_core.specs.Keys.{Key, key_same}
use Rattle.alg_core.specs.Monomials.{mono}
use Rattle.alg_core.specs.Spaces.{SpaceOver}
use Rattle.alg_core.specs.Vectors.{Vect, vectors, plus, zero_vector}
use Rattle.poly_module.specs.Combinations.{IsCombination, combination_value}
use Rattle.poly_module.specs.GreatestExponents.{total}
use Rattle.poly_module.specs.Modules.{listed}
use Rattle.poly_module.specs.Polynomials.{single_vector}
use Rattle.lin_algebra.specs.declared.matrix.Matrix.{Matrix}
use Rattle.matrix_group.specs.Actions.{act_by}
use Rattle.primary_module.specs.Positions.{part_at, key_from_position}

abbrev pub copies : {A : Type 0} → ℕ → List A → List A
copies zero xs = []
copies (suc c) xs = xs ++ copies c xs

abbrev pub first_block : {E : Type 0} → List (Matrix E) → List (List ℕ) → ℕ
first_block gens B = length gens * length B

module _ {E : Type 0} (k : FieldOn E) where
  abbrev pub graph_space : List ℕ → ℕ → List (List ℕ) → SpaceOver E
  graph_space ds c B =
      record { field = k; order = elimination_order (c * length B) ds; weights = ds; shifts = copies (suc c) (map total B) }

  module _ (B : List (List ℕ)) where
    abbrev pub nothings : List (Vect k)
    nothings = map (λ b. zero_vector k) B

    abbrev pub part_values : ℕ → ℕ → List (Vect k)
    part_values zero i = []
    part_values (suc c) zero = map (λ b. single_vector k (0, mono b)) B ++ copies c nothings
    part_values (suc c) (suc i) = nothings ++ part_values c i

  module _ (θ : List (Vect k)) (gens : List (Matrix E)) (B : List (List ℕ)) where
    abbrev pub part_value : ℕ → Vect k → Vect k
    part_value i w = combination_value k θ (part_values B (suc (length gens)) i) w

    abbrev pub last_value : Vect k → Vect k
    last_value w = part_value (length gens) w

    -- the value of each part, and that of the last, add up to the image of the last
    pub record InGraph (w : Vect k) : Type 0 where
      pub positions : IsCombination k (length θ) (suc (length gens) * length B) w
      pub differences : (i : ℕ) (m : Matrix E) → slice_get gens i ≡ Some m
          → plus k (part_value i w) (last_value w) ≡ act_by k m (last_value w)

    pub record AreGenerators (vs : List (Vect k)) : Type 0 where
      pub count : length vs ≡ length B
      pub inside : (j : ℕ) → j < length B → InGraph (listed k vs j)
      pub values : (j : ℕ) → j < length B → last_value (listed k vs j) ≡ single_vector k (0, part_at B j)

  module _ (n : ℕ) (gens : List (Matrix E)) (B : List (List ℕ)) where
    abbrev pub last_term : Key → Vect k
    last_term t =
        if nat_lt t.0 (first_block gens B) then zero_vector k else single_vector k (key_from_position k n B (t.0 - first_block gens B, t.1))

    unfoldable pub last_part : Vect k → Vect k
    last_part = extend (scalars k) key_same (vectors k) last_term
