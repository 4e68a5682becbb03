-- From the invariants that generate to what is written of the generators.
use Rattle.std.proofs.Common.{◌≡◌, ◌∙◌, ℕ, suc, Bool, true, false, List, [], ◌∷◌, Option, None, Some, length, refl, sym, ap}
use Rattle.std.specs.Prelude.{if◌then◌else◌}
use Rattle.std.proofs.lemmas.List.{length-map}
use Rattle.alg_core.specs.Fields.{FieldOn}
use Rattle.alg_core.specs.Spaces.{SpaceOver}
use Rattle.alg_core.specs.Vectors.{Vect}
use Rattle.alg_core.specs.declared.term.Term.{Term}
use Rattle.poly_module.specs.declared.vector.Comb.{Comb}
use Rattle.poly_module.specs.Combinations.{mark_value}
use Rattle.poly_module.specs.SpaceVectors.{vector_of}
use Rattle.lin_algebra.specs.declared.matrix.Matrix.{Matrix}
use Rattle.syzygy_kernel.specs.Kernels.{polynomial_of, fixed_values}
use Rattle.syzygy_kernel.specs.declared.member.Member.{Member}
use Rattle.invring_app.specs.EvidenceLines.{ForEach, fixed_count}
use Rattle.invring_app.specs.GeneratingParts.{IsSourceOf}
use Rattle.invring_app.proofs.WritableForms.{each_length}

abbrev Terms : Type 0
Terms = List (Term ℕ (List ℕ))

module _ (k : FieldOn ℕ) (n : ℕ) (θ : List (Vect k)) where
  fixed_length : (ms : List (Member ℕ)) → length (fixed_values k n θ ms) ≡ fixed_count ms
  fixed_length [] = refl
  fixed_length (m ∷ ms) = by m.is_fixed (fixed_length ms)
    where
      by : (b : Bool) → length (fixed_values k n θ ms) ≡ fixed_count ms
          → length (if b then mark_value k n θ (polynomial_of k m) ∷ fixed_values k n θ ms else fixed_values k n θ ms) ≡ (if b then suc (fixed_count ms) else fixed_count ms)
      by true e = ap suc e
      by false e = e

-- there is a combination for each monomial, or for each fixed member
pub for_each : (S : SpaceOver ℕ) (p N cap : ℕ) (gens : List (Matrix ℕ)) (θ : List Terms) (B : List (List ℕ)) (fs : List Terms) (o : Option (List (Member ℕ))) → IsSourceOf S p N cap gens θ B fs o
    → (cs : List (Comb ℕ)) → length fs ≡ length cs → ForEach B o cs
for_each S p N cap gens θ B fs None s cs e = each_length _ B fs s.1 ∙ e
for_each S p N cap gens θ B fs (Some ms) s cs e =
    sym (fixed_length S.field (length S.weights) _ ms) ∙ ap length (sym s.1.values) ∙ length-map fs (vector_of S (λ m. m)) ∙ e
