-- What the calls that make the vectors over the standard monomials ask for, and what they give, in the space of the graph.
use Rattle.std.proofs.Common.{◌≡◌, ◌∙◌, ◌*◌, ◌<◌, ℕ, suc, List, [], length, map, get_or, sym, ap, subst, arith}
use Rattle.std.specs.Prelude.{All}
use Rattle.alg_core.specs.Spaces.{SpaceOver}
use Rattle.alg_core.specs.declared.term.Term.{Term}
use Rattle.poly_module.specs.SpaceVectors.{vectors_of}
use Rattle.lin_algebra.specs.declared.matrix.Matrix.{Matrix}
use Rattle.module_groebner.specs.HomogeneousLists.{degree_limit, AreHomogeneousUpTo}
use Rattle.module_groebner.proofs.Families.{length_map}
use Rattle.primary_module.specs.PrimaryModules.{Primaries, StandsOver}
use Rattle.syzygy_kernel.specs.Graphs.{AreGenerators, first_block, graph_space}
use Rattle.syzygy_kernel.specs.GraphVectors.{AreAllDifferences, HasPlaces}
use Rattle.syzygy_kernel.proofs.GivenDifferences.{all_counted, all_items, all_places}
use Rattle.syzygy_kernel.proofs.GraphLists.{AreOver, over_generators, over_homogeneous, graph_shifts}

module _ {E A : Type 0} (S : SpaceOver E) (n : ℕ) (ds : List ℕ) (P : Primaries E) (stands : StandsOver S n ds P) (gens : List (Matrix E)) (differences : List A) (items : A → List (List (Term E (List ℕ))))
    (given : AreAllDifferences S n (vectors_of S (λ m. m) P.theta) P.monomials gens (map items differences))
    (T : SpaceOver E) (is : T ≡ graph_space S.field ds (length gens) P.monomials) (ms : List (List ℕ)) (same : ms ≡ P.monomials) where
  counted : (seen : List A) → seen ≡ differences → length seen ≡ length gens
  counted seen e = ap length e ∙ sym (length_map items differences) ∙ all_counted S n ds P stands gens (map items differences) given

  pub call_first : (seen : List A) → seen ≡ differences → (first : ℕ) → first ≡ first_block gens P.monomials → first ≡ length seen * length ms
  call_first seen e first f = f ∙ ap (λ (c : ℕ). c * length P.monomials) (sym (counted seen e)) ∙ ap (λ (B : List (List ℕ)). length seen * length B) (sym same)

  pub call_shifts : (seen : List A) → seen ≡ differences → length T.shifts ≡ suc (length seen) * length ms
  call_shifts seen e = graph_shifts S.field ds (length gens) P.monomials T is
      ∙ ap (λ (c : ℕ). suc c * length P.monomials) (sym (counted seen e)) ∙ ap (λ (B : List (List ℕ)). suc (length seen) * length B) (sym same)

  pub call_places : (seen : List A) → seen ≡ differences → (j : ℕ) → j < length ms
      → All (λ x. (length (items x) ≡ length ms) × HasPlaces T.field n (length T.weights) ms (get_or (items x) j [])) seen
  call_places seen e j l =
      let inside : j < length P.monomials = let s = ap length same in omega arith in
      subst (λ (X : SpaceOver E). All (λ x. (length (items x) ≡ length ms) × HasPlaces X.field n (length X.weights) ms (get_or (items x) j [])) seen) (sym is)
      (subst (λ (B : List (List ℕ)). All (λ x. (length (items x) ≡ length B) × HasPlaces S.field n (length ds) B (get_or (items x) j [])) seen) (sym same)
      (subst (λ (xs : List A). All (λ x. (length (items x) ≡ length P.monomials) × HasPlaces S.field n (length ds) P.monomials (get_or (items x) j [])) xs) (sym e)
      (all_items items (λ ps. (length ps ≡ length P.monomials) × HasPlaces S.field n (length ds) P.monomials (get_or ps j [])) differences
      (all_places S n ds P stands j inside gens (map items differences) given))))

  module _ (place : ℕ) (all : place ≡ length ms) (vs : List (List (Term E (List ℕ)))) (over : AreOver T n ms differences items place vs) where
    moved : AreOver (graph_space S.field ds (length gens) P.monomials) n P.monomials differences items (length P.monomials) vs
    moved = subst (λ (X : SpaceOver E). AreOver X n P.monomials differences items (length P.monomials) vs) is
        (subst (λ (B : List (List ℕ)). AreOver T n B differences items (length B) vs) same (subst (λ (j : ℕ). AreOver T n ms differences items j vs) all over))

    pub end_generators : AreGenerators S.field (vectors_of S (λ m. m) P.theta) gens P.monomials (vectors_of S (λ m. m) vs)
    end_generators = over_generators S n ds P stands gens differences items given vs moved

    pub end_homogeneous : AreHomogeneousUpTo T degree_limit (vectors_of T (λ m. m) vs)
    end_homogeneous = subst (λ (X : SpaceOver E). AreHomogeneousUpTo X degree_limit (vectors_of X (λ m. m) vs)) (sym is)
        (over_homogeneous S n ds P stands gens differences items given vs moved)
