-- Kernel evidence from the reduced basis of the graph and its members.
use Rattle.std.proofs.Common.{◌≡◌, ◌≤◌, ℕ, List, length, replicate, sym, subst, arith}
use Rattle.std.specs.Prelude.{All}
use Rattle.alg_core.specs.Spaces.{SpaceOver}
use Rattle.alg_core.specs.declared.term.Term.{Term}
use Rattle.poly_module.specs.GreatestExponents.{total}
use Rattle.poly_module.specs.ReducedLists.{IsReducedBasisOf}
use Rattle.poly_module.specs.SpaceVectors.{vectors_of}
use Rattle.lin_algebra.specs.declared.matrix.Matrix.{Matrix}
use Rattle.matrix_group.specs.Actions.{IsSquare, Invariant}
use Rattle.secondary_gens.specs.Secondaries.{IsComplete}
use Rattle.module_groebner.proofs.Families.{all_in, in_all}
use Rattle.module_groebner.specs.HomogeneousLists.{AreHomogeneousUpTo, IsHomogeneousUpTo}
use Rattle.finite_certificate.specs.MarkSpaces.{IsMarkSpace}
use Rattle.finite_certificate.proofs.PowerForms.{forms_count}
use Rattle.primary_module.specs.PrimaryModules.{Primaries, StandsOver, rank_limit}
use Rattle.primary_module.proofs.StandardDegrees.{total_below}
use Rattle.syzygy_kernel.specs.Graphs.{InGraph, graph_space}
use Rattle.syzygy_kernel.specs.Kernels.{AreKernel, AreListedAs, fixed_values, polynomial_of}
use Rattle.syzygy_kernel.specs.declared.member.Member.{Member}
use Rattle.syzygy_kernel.proofs.FixedMembers.{values_complete}
use Rattle.syzygy_kernel.proofs.KernelDegrees.{listed_degrees}

module _ {E : Type 0} (S : SpaceOver E) (n : ℕ) (ds : List ℕ) (P : Primaries E) (stands : StandsOver S n ds P) (ms : List (List ℕ)) (same : ms ≡ P.monomials) where
  pub low_monomials : All (λ a. total a ≤ rank_limit) ms
  low_monomials = subst (All (λ a. total a ≤ rank_limit)) (sym same)
      (in_all (λ a. total a ≤ rank_limit) P.monomials (λ a i.
      let low = total_below S.field n (vectors_of S (λ m. m) P.theta) P.monomials stands.monomials a i in let few = stands.few in omega arith))

  module _ (gens : List (Matrix E)) (basis : List (List (Term E (List ℕ))))
      (reduced : IsReducedBasisOf (graph_space S.field ds (length gens) P.monomials) (InGraph S.field (vectors_of S (λ m. m) P.theta) gens P.monomials) (vectors_of S (λ m. m) basis))
      (seen : List (List (Term E (List ℕ)))) (is : seen ≡ basis) (members : List (Member E)) (listed : AreListedAs S.field n gens ms (vectors_of S (λ m. m) seen) members) where
    pub kernel_given : AreKernel S.field n ds (vectors_of S (λ m. m) P.theta) gens P.monomials members
    kernel_given = record {
      basis = vectors_of S (λ m. m) basis;
      reduced = reduced;
      listed_as = subst (λ l. AreListedAs S.field n gens P.monomials (vectors_of S (λ m. m) l) members) is
          (subst (λ B. AreListedAs S.field n gens B (vectors_of S (λ m. m) seen) members) same listed);
    }

    pub kernel_complete : All (IsSquare S.field n) gens → All (Invariant S.field gens) (vectors_of S (λ m. m) P.theta)
        → IsComplete S.field n gens (vectors_of S (λ m. m) P.theta) (fixed_values S.field n (vectors_of S (λ m. m) P.theta) members)
    kernel_complete square fixed = values_complete S.field (vectors_of S (λ m. m) P.theta) gens P.monomials n ds stands.is.forms fixed square stands.monomials members kernel_given

    pub kernel_homogeneous : (cap : ℕ) → IsMarkSpace S n ds → (T : SpaceOver E) → T ≡ graph_space S.field ds (length gens) P.monomials
        → AreHomogeneousUpTo T cap (vectors_of T (λ m. m) basis) → All (λ (m : Member E). IsHomogeneousUpTo S cap (polynomial_of S.field m)) members
    unfolding kernel_given
    kernel_homogeneous cap space T e low =
        let moved = subst (λ (X : SpaceOver E). AreHomogeneousUpTo X cap (vectors_of X (λ m. m) basis)) e low in
        let count = forms_count S.field (replicate n 1) ds (vectors_of S (λ m. m) P.theta) stands.is.forms.forms in
        listed_degrees S n ds space gens P.monomials stands.monomials.wide cap (vectors_of S (λ m. m) basis) members kernel_given.listed_as (λ w i. (
          (λ t c. let p = (reduced.reduced.inside w i).positions t c in let l = p.0 in ((omega arith), p.1)),
          all_in (IsHomogeneousUpTo (graph_space S.field ds (length gens) P.monomials) cap) (vectors_of S (λ m. m) basis) moved w i,
        ))
