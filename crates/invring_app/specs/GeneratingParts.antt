-- Invariants over which all others are combinations, and what is written of them. θ are the primary invariants of a script, B the
-- standard monomials of their ideal, fs and T invariants, all of them terms over the space S; gens are the generators, N is the number of
-- elements of their group, and p the characteristic.
--
--   AreFixedBy S cap gens θ B fs ms   the members ms are the kernel evidence, of polynomials in the variables and marks, and the graph has
--                             no element above the cap; fs are the values of those that are named fixed
--   IsSourceOf S p N cap gens θ B fs o   where o is none, p does not divide N and fs are the averages of B, else it divides N and fs are so by
--                             the members o
--   AreGenerating S p N cap gens θ B fs o   it is so, fs are homogeneous and fixed by gens, and each invariant is a combination of them over θ
--   IsEvidenceOver S θ T B fs o e   the evidence e has lines for the members o, or for B, with the printed combinations of fs by T
--   AreGeneratorParts S gens θ B fs o T e Q us   T are the secondary invariants, e the evidence, Q the irreducible generators, and us the
--                             printed words of T
use Rattle.std.specs.Prelude.{◌≡◌, ℕ, List, Option, None, Some, All, length}
use Rattle.std.specs.Int.{◌∣◌}
use Rattle.alg_core.specs.Monomials.{mono}
use Rattle.alg_core.specs.PolynomialSpaces.{marked_space}
use Rattle.alg_core.specs.Spaces.{SpaceOver}
use Rattle.alg_core.specs.declared.term.Term.{Term}
use Rattle.poly_module.specs.declared.vector.Comb.{Comb}
use Rattle.poly_module.specs.Polynomials.{single_vector}
use Rattle.poly_module.specs.SpaceVectors.{IsPoly, ArePolys, vector_of, vectors_of}
use Rattle.lin_algebra.specs.declared.matrix.Matrix.{Matrix}
use Rattle.matrix_group.specs.Actions.{Invariant}
use Rattle.reynolds_op.specs.Averages.{IsAverage}
use Rattle.module_groebner.specs.BasisBounds.{NothingAbove}
use Rattle.secondary_gens.specs.Combined.{IsCombined}
use Rattle.secondary_gens.specs.Forms.{IsSmallForm, degrees_of}
use Rattle.secondary_gens.specs.Lists.{Each}
use Rattle.secondary_gens.specs.Secondaries.{AreSecondaries, IsComplete}
use Rattle.syzygy_kernel.specs.Graphs.{InGraph, graph_space}
use Rattle.syzygy_kernel.specs.Kernels.{AreKernel, fixed_values}
use Rattle.syzygy_kernel.specs.declared.member.Member.{Member}
use Rattle.certificate_io.specs.Certificates.{EvidenceOf}
use Rattle.invring_app.specs.EvidenceLines.{IsEvidenceWith}
use Rattle.invring_app.specs.WrittenParts.{AreChosen}

module _ (S : SpaceOver ℕ) where
  abbrev Terms : Type 0
  Terms = List (Term ℕ (List ℕ))

  pub record AreFixedBy (cap : ℕ) (gens : List (Matrix ℕ)) (θ : List Terms) (B : List (List ℕ)) (fs : List Terms) (ms : List (Member ℕ)) : Type 0 where
    pub polynomials : All (λ m. IsPoly (marked_space S.field (length S.weights) (degrees_of θ)) (λ a. a) m.u) ms
    pub kernel : AreKernel S.field (length S.weights) (degrees_of θ) (vectors_of S (λ m. m) θ) gens B ms
    pub within : NothingAbove (graph_space S.field (degrees_of θ) (length gens) B) (InGraph S.field (vectors_of S (λ m. m) θ) gens B) cap
    pub values : vectors_of S (λ m. m) fs ≡ fixed_values S.field (length S.weights) (vectors_of S (λ m. m) θ) ms

  abbrev pub IsSourceOf : (p N cap : ℕ) (gens : List (Matrix ℕ)) (θ : List Terms) (B : List (List ℕ)) (fs : List Terms) → Option (List (Member ℕ)) → Type 0
  IsSourceOf p N cap gens θ B fs None = (¬ (p ∣ N)) × Each (λ b f. IsAverage S.field gens (single_vector S.field (0, mono b)) (vector_of S (λ m. m) f)) B fs
  IsSourceOf p N cap gens θ B fs (Some ms) = (p ∣ N) × AreFixedBy cap gens θ B fs ms

  pub record AreGenerating (p N cap : ℕ) (gens : List (Matrix ℕ)) (θ : List Terms) (B : List (List ℕ)) (fs : List Terms) (o : Option (List (Member ℕ))) : Type 0 where
    pub source : IsSourceOf p N cap gens θ B fs o
    pub forms : All (IsSmallForm S) fs
    pub fixed : All (λ f. Invariant S.field gens (vector_of S (λ m. m) f)) fs
    pub complete : IsComplete S.field (length S.weights) gens (vectors_of S (λ m. m) θ) (vectors_of S (λ m. m) fs)

  abbrev pub IsEvidenceOver : (θ T : List Terms) (B : List (List ℕ)) (fs : List Terms) → Option (List (Member ℕ)) → EvidenceOf ℕ → Type 0
  IsEvidenceOver θ T B fs o e = (cs : List (Comb ℕ)) × IsEvidenceWith B o cs e × Each (λ f c. IsCombined S θ T f (Some c)) fs cs

  pub record AreGeneratorParts (gens : List (Matrix ℕ)) (θ : List Terms) (B : List (List ℕ)) (fs : List Terms) (o : Option (List (Member ℕ))) (T : List Terms) (e : EvidenceOf ℕ) (Q us : List Terms) : Type 0 where
    pub polynomials : ArePolys S (λ m. m) T
    pub secondaries : AreSecondaries S gens (vectors_of S (λ m. m) θ) (vectors_of S (λ m. m) T)
    pub evidence : IsEvidenceOver θ T B fs o e
    pub chosen : AreChosen S θ T Q us
