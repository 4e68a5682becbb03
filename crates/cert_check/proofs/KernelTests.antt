-- The test of a line of the kernel.
use Rattle.std.proofs.Common.{◌≡◌, ◌∙◌, ℕ, Bool, List, sym}
use Rattle.std.specs.Prelude.{◌↔◌, IsTrue}
use Rattle.alg_core.specs.Spaces.{SpaceOver}
use Rattle.alg_core.specs.declared.term.Term.{Term}
use Rattle.poly_module.specs.Combinations.{combination_value}
use Rattle.poly_module.specs.SpaceVectors.{IsPolyOf, vector_of, vectors_of}
use Rattle.poly_module.specs.Substitutions.{substitute}
use Rattle.cert_check.specs.EvidenceLines.{HasValue}

-- by polynomials that are compared
pub value_exact : (S : SpaceOver ℕ) (images θ secs : List (List (Term ℕ (List ℕ)))) (u v value wanted : List (Term ℕ (List ℕ))) (t : Bool)
    → IsPolyOf S (λ m. m) (combination_value S.field (vectors_of S (λ m. m) θ) (vectors_of S (λ m. m) secs) (vector_of S (λ m. m) v)) value
    → IsPolyOf S (λ m. m) (substitute S.field (vectors_of S (λ m. m) images) (vector_of S (λ m. m) u)) wanted
    → IsTrue t ↔ (vector_of S (λ m. m) value ≡ vector_of S (λ m. m) wanted) → IsTrue t ↔ HasValue S images θ secs u v
value_exact S images θ secs u v value wanted t made given exact = (λ e. sym made.is ∙ exact.0 e ∙ given.is, λ e. exact.1 (made.is ∙ e ∙ sym given.is))
