-- There is one kernel list.
use Rattle.std.proofs.Common.{◌≡◌, ◌∙◌, ◌↔◌, ◌⊎◌, ℕ, Bool, true, false, List, [], ◌∷◌, length, map, refl, sym, ap₂, subst, inl, inr}
use Rattle.std.specs.Prelude.{All, IsTrue}
use Rattle.alg_core.specs.Fields.{FieldOn}
use Rattle.alg_core.specs.Vectors.{Vect}
use Rattle.alg_core.proofs.PolynomialSpaces.{marked_positive}
use Rattle.poly_module.proofs.Reduced.{reduced_basis_unique}
use Rattle.lin_algebra.specs.declared.matrix.Matrix.{Matrix}
use Rattle.matrix_group.specs.Actions.{IsSquare, Invariant}
use Rattle.finite_certificate.specs.MarkSpaces.{ArePositiveForms}
use Rattle.finite_certificate.specs.StandardMonomials.{AreStandardMonomials}
use Rattle.syzygy_kernel.specs.Graphs.{InGraph, graph_space}
use Rattle.syzygy_kernel.specs.Kernels.{AreKernel, AreListedAs, polynomial_of}
use Rattle.syzygy_kernel.specs.declared.member.Member.{Member}
use Rattle.syzygy_kernel.proofs.FixedMembers.{equal_test, is_true, not_true, bool_cases}
use Rattle.syzygy_kernel.proofs.GraphModules.{graph_restricted}
use Rattle.syzygy_kernel.proofs.RestrictedModules.{element, reduced_restricted}

same_test : {P : Type 0} (a b : Bool) → IsTrue a ↔ P → IsTrue b ↔ P → a ≡ b
same_test {P} a b h g = go (bool_cases a) (bool_cases b)
  where
    go : (a ≡ true) ⊎ (a ≡ false) → (b ≡ true) ⊎ (b ≡ false) → a ≡ b
    go (inl p) (inl q) = p ∙ sym q
    go (inl p) (inr q) = absurd (not_true b q (g.1 (h.0 (is_true a p))))
    go (inr p) (inl q) = absurd (not_true a p (h.1 (g.0 (is_true b q))))
    go (inr p) (inr q) = p ∙ sym q

module _ {E : Type 0} (k : FieldOn E) (n : ℕ) (gens : List (Matrix E)) (B : List (List ℕ)) where
  abbrev Same : List (Member E) → List (Member E) → Type 0
  Same ms ls = (map (polynomial_of k) ms ≡ map (polynomial_of k) ls) × (map (λ (m : Member E). m.is_fixed) ms ≡ map (λ (m : Member E). m.is_fixed) ls)

  same_lists : (ws : List (Vect k)) (ms ls : List (Member E)) → AreListedAs k n gens B ws ms → AreListedAs k n gens B ws ls → Same ms ls
  same_lists [] [] [] h g = (refl, refl)
  same_lists [] [] (l ∷ ls) h g = absurd g
  same_lists [] (m ∷ ms) ls h g = absurd h
  same_lists (w ∷ ws) [] ls h g = absurd h
  same_lists (w ∷ ws) (m ∷ ms) [] h g = absurd g
  same_lists (w ∷ ws) (m ∷ ms) (l ∷ ls) h g =
      let rest = same_lists ws ms ls h.1 g.1 in
      (ap₂ ◌∷◌ (h.0.last ∙ sym g.0.last) rest.0, ap₂ ◌∷◌ (same_test m.is_fixed l.is_fixed h.0.fixed g.0.fixed) rest.1)

  pub one_kernel : (ds : List ℕ) (θ : List (Vect k)) → ArePositiveForms k n ds θ → All (Invariant k gens) θ → All (IsSquare k n) gens → AreStandardMonomials k n θ B
      → (ms ls : List (Member E)) → AreKernel k n ds θ gens B ms → AreKernel k n ds θ gens B ls
      → (map (polynomial_of k) ms ≡ map (polynomial_of k) ls) × (map (λ (m : Member E). m.is_fixed) ms ≡ map (λ (m : Member E). m.is_fixed) ls)
  one_kernel ds θ primaries fixed square standard ms ls a b =
      let S = graph_space k ds (length gens) B in
      let U = InGraph k θ gens B in
      let R = graph_restricted k n ds θ primaries B standard.wide gens fixed square in
      let same = reduced_basis_unique S (element S (length θ) U) (marked_positive k n ds primaries.positive).0 (λ x t c. equal_test (length ds)) a.basis b.basis
      (reduced_restricted S (length θ) U R a.basis a.reduced) (reduced_restricted S (length θ) U R b.basis b.reduced) in
      same_lists b.basis ms ls (subst (λ ws. AreListedAs k n gens B ws ms) same a.listed_as) b.listed_as
