-- Whether a list is kernel evidence: what the computed evidence, and an element of the graph above the degrees of the list, say of it.
use Rattle.std.proofs.Common.{◌≡◌, ◌↔◌, Bool, false, ℕ, List, length, sym, subst}
use Rattle.std.specs.Prelude.{All, IsTrue}
use Rattle.alg_core.specs.Spaces.{SpaceOver}
use Rattle.poly_module.specs.SpaceVectors.{vectors_of, vector_of}
use Rattle.lin_algebra.specs.declared.matrix.Matrix.{Matrix}
use Rattle.matrix_group.specs.Actions.{IsSquare, Invariant}
use Rattle.module_groebner.specs.BasisBounds.{IsBasisBound}
use Rattle.module_groebner.specs.declared.bound.BasisBound.{BasisBound}
use Rattle.module_groebner.specs.declared.bound.Which.{Which}
use Rattle.module_groebner.proofs.BasisSteps.{never}
use Rattle.module_groebner.proofs.Families.{all_in}
use Rattle.primary_module.specs.PrimaryModules.{Primaries, StandsOver}
use Rattle.primary_module.proofs.LiftLaws.{unique}
use Rattle.syzygy_kernel.specs.Graphs.{InGraph, graph_space}
use Rattle.syzygy_kernel.specs.Kernels.{AreKernel}
use Rattle.syzygy_kernel.specs.declared.member.Member.{Member}
use Rattle.syzygy_kernel.proofs.GreatestDegrees.{HasDegrees}
use Rattle.syzygy_kernel.proofs.KernelDegrees.{nothing_over}
use Rattle.syzygy_kernel.proofs.OneKernel.{one_kernel}
use Rattle.syzygy_kernel.proofs.SameMembers.{Same, same_kernel}

module _ {E : Type 0} (S : SpaceOver E) (n : ℕ) (ds : List ℕ) (P : Primaries E) (stands : StandsOver S n ds P) (gens : List (Matrix E))
    (square : All (IsSquare S.field n) gens) (fixed : All (Invariant S.field gens) (vectors_of S (λ m. m) P.theta)) (list : List (Member E)) where
  pub same_exact : (members seen : List (Member E)) (b : Bool) → seen ≡ members → AreKernel S.field n ds (vectors_of S (λ m. m) P.theta) gens P.monomials members → IsTrue b ↔ Same S.field list seen
      → IsTrue b ↔ AreKernel S.field n ds (vectors_of S (λ m. m) P.theta) gens P.monomials list
  same_exact members seen b e kernel same =
      let given = subst (λ l. AreKernel S.field n ds (vectors_of S (λ m. m) P.theta) gens P.monomials l) (sym e) kernel in (
        λ t. let s = same.0 t in same_kernel S.field n gens P.monomials ds (vectors_of S (λ m. m) P.theta) seen list (sym s.0, sym s.1) given,
        λ h. same.1 (one_kernel S.field n gens P.monomials ds (vectors_of S (λ m. m) P.theta) stands.is.forms fixed square stands.monomials list seen h given),
      )

  pub above_exact : (cap : ℕ) (w : Which) (bound : BasisBound E) → All (HasDegrees S cap) list
      → IsBasisBound (graph_space S.field ds (length gens) P.monomials) (InGraph S.field (vectors_of S (λ m. m) P.theta) gens P.monomials) cap w bound
      → IsTrue false ↔ AreKernel S.field n ds (vectors_of S (λ m. m) P.theta) gens P.monomials list
  above_exact cap w bound low is = (
    λ t. absurd (never t),
    λ h. absurd (nothing_over S n ds stands.is.space (vectors_of S (λ m. m) P.theta) gens P.monomials stands.is.forms fixed square stands.monomials (unique S n ds P.theta P.lifts stands.is) list h cap
        (all_in (HasDegrees S cap) list low) (vector_of S (λ m. m) bound.vector) is.lead is.above),
  )
