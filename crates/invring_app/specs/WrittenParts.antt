-- What is written of primary invariants θ, secondary invariants T and forms fs that generate, all of them terms over the space S.
--
--   AreWritable S θ fs T      θ are homogeneous of positive degrees; fs and T are homogeneous, T of rising degrees; each of fs
--                             is a combination of T over θ
--   AreChosen S θ T Q us      Q are the irreducible generators; us are the printed words of T
--   AreWritten S θ fs T cs Q us   it is so, and cs are the printed combinations of fs
use Rattle.std.specs.Prelude.{◌≡◌, ◌≤◌, ◌<◌, ℕ, List, All, Some, length}
use Rattle.alg_core.specs.SpaceGrading.{height}
use Rattle.alg_core.specs.Spaces.{SpaceOver}
use Rattle.alg_core.specs.declared.term.Term.{Term}
use Rattle.poly_module.specs.declared.vector.Comb.{Comb}
use Rattle.poly_module.specs.Combinations.{Over}
use Rattle.poly_module.specs.SpaceVectors.{ArePolys, vector_of, vectors_of}
use Rattle.secondary_gens.specs.Combined.{IsCombined}
use Rattle.secondary_gens.specs.Forms.{IsPositiveForm, IsSmallForm, degrees_of}
use Rattle.secondary_gens.specs.Lists.{Each}
use Rattle.irreducible_gens.specs.Irreducibles.{AreIrreducibles, members}
use Rattle.irreducible_gens.specs.Words.{IsWordOf}

module _ {E : Type 0} (S : SpaceOver E) (θ : List (List (Term E (List ℕ)))) where
  pub record AreWritable (fs T : List (List (Term E (List ℕ)))) : Type 0 where
    pub primaries : All (IsPositiveForm S) θ
    pub forms : All (IsSmallForm S) fs
    pub secondaries : All (IsSmallForm S) T
    pub rise : (i j : ℕ) → i ≤ j → j < length (degrees_of T) → height (degrees_of T) i ≤ height (degrees_of T) j
    pub over : All (λ f. Over S.field (vectors_of S (λ m. m) θ) (vectors_of S (λ m. m) T) (vector_of S (λ m. m) f)) fs

  pub record AreChosen (T Q us : List (List (Term E (List ℕ)))) : Type 0 where
    pub polynomials : ArePolys S (λ m. m) Q
    pub places : List ℕ
    pub chosen : AreIrreducibles S.field (vectors_of S (λ m. m) θ) (vectors_of S (λ m. m) T) places
    pub irreducible : vectors_of S (λ m. m) Q ≡ members S.field (vectors_of S (λ m. m) T) places
    pub words : Each (λ f w. IsWordOf S θ Q f (Some w)) T us

  pub record AreWritten (fs T : List (List (Term E (List ℕ)))) (cs : List (Comb E)) (Q us : List (List (Term E (List ℕ)))) : Type 0 where
    pub combinations : Each (λ f c. IsCombined S θ T f (Some c)) fs cs
    pub chosen : AreChosen T Q us
