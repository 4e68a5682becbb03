-- Kernel evidence: the reduced basis of the graph of the differences f∘M - f, of which the last parts are listed. θ are polynomials
-- of the degrees ds in n variables, M the matrices gens, B the standard monomials of the ideal of θ, by their exponents.
--
--   polynomial_of k m             the polynomial of the member m
--   IsListedAs k n gens B w m     the member m has the last part of w as its polynomial, and is named fixed exactly where w has no
--                                 other part
--   AreListedAs k n gens B ws ms  the members ms list the vectors ws, one after another
--   AreKernel k n ds θ gens B ms  the members list the reduced basis of the graph, by falling lead in the order of its space
--   fixed_values k n θ ms         the values of the members that are named fixed
use Rattle.std.specs.Prelude.{◌≡◌, ◌↔◌, ℕ, IsTrue, List, [], ◌∷◌, length, if◌then◌else◌}
use Rattle.alg_core.specs.Fields.{FieldOn}
use Rattle.alg_core.specs.Spaces.{entries}
use Rattle.alg_core.specs.Vectors.{Vect, vec}
use Rattle.poly_module.specs.Combinations.{mark_value}
use Rattle.poly_module.specs.ReducedLists.{IsReducedBasisOf}
use Rattle.lin_algebra.specs.declared.matrix.Matrix.{Matrix}
use Rattle.module_groebner.specs.Eliminations.{IsEliminated}
use Rattle.secondary_gens.specs.Lists.{Each}
use Rattle.syzygy_kernel.specs.Graphs.{InGraph, first_block, graph_space, last_part}
use Rattle.syzygy_kernel.specs.declared.member.Member.{Member}

module _ {E : Type 0} (k : FieldOn E) where
  abbrev pub polynomial_of : Member E → Vect k
  polynomial_of m = vec k (entries (λ a. a) m.u)

  -- the values of the members that are named fixed
  abbrev pub fixed_values : ℕ → List (Vect k) → List (Member E) → List (Vect k)
  fixed_values n θ [] = []
  fixed_values n θ (m ∷ ms) =
      if m.is_fixed then mark_value k n θ (polynomial_of m) ∷ fixed_values n θ ms else fixed_values n θ ms

  module _ (n : ℕ) where
    module _ (gens : List (Matrix E)) (B : List (List ℕ)) where
      pub record IsListedAs (w : Vect k) (m : Member E) : Type 0 where
        pub last : polynomial_of m ≡ last_part k n gens B w
        pub fixed : IsTrue m.is_fixed ↔ IsEliminated k (first_block gens B) w

      abbrev pub AreListedAs : List (Vect k) → List (Member E) → Type 0
      AreListedAs = Each IsListedAs

    -- the last parts of the reduced basis of the graph
    pub record AreKernel (ds : List ℕ) (θ : List (Vect k)) (gens : List (Matrix E)) (B : List (List ℕ)) (ms : List (Member E))
        : Type 0 where
      pub basis : List (Vect k)
      pub reduced : IsReducedBasisOf (graph_space k ds (length gens) B) (InGraph k θ gens B) basis
      pub listed_as : AreListedAs gens B basis ms
