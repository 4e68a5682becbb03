-- The test of a line of the averages.
use Rattle.std.proofs.Common.{◌≡◌, ◌∙◌, ℕ, Bool, List, sym, ap}
use Rattle.std.specs.Prelude.{◌↔◌, IsTrue}
use Rattle.alg_core.specs.Monomials.{mono}
use Rattle.alg_core.specs.Spaces.{SpaceOver}
use Rattle.alg_core.specs.declared.term.Term.{Term}
use Rattle.poly_module.specs.Combinations.{combination_value}
use Rattle.poly_module.specs.Polynomials.{single_vector}
use Rattle.poly_module.specs.SpaceVectors.{IsPolyOf, vector_of, vectors_of}
use Rattle.matrix_group.specs.Groups.{size}
use Rattle.reynolds_op.specs.Averages.{Averaging, reynolds}
use Rattle.certificate_io.specs.declared.evidence.Image.{Image}
use Rattle.cert_check.specs.EvidenceLines.{IsAveraged}

-- by polynomials that are compared
pub average_exact : (S : SpaceOver ℕ) (R : Averaging ℕ) (θ secs : List (List (Term ℕ (List ℕ)))) (x : Image ℕ) (b average value : List (Term ℕ (List ℕ))) (t : Bool)
    → IsPolyOf S (λ m. m) (single_vector S.field (0, mono x.mono)) b
    → IsPolyOf S (λ m. m) (reynolds S.field (size R.elements) R (vector_of S (λ m. m) b)) average
    → IsPolyOf S (λ m. m) (combination_value S.field (vectors_of S (λ m. m) θ) (vectors_of S (λ m. m) secs) (vector_of S (λ m. m) x.comb.vector)) value
    → IsTrue t ↔ (vector_of S (λ m. m) average ≡ vector_of S (λ m. m) value) → IsTrue t ↔ IsAveraged S R θ secs x
average_exact S R θ secs x b average value t monomial mean made exact =
    let left = mean.is ∙ ap (reynolds S.field (size R.elements) R) monomial.is in
    (λ e. sym left ∙ exact.0 e ∙ made.is, λ e. exact.1 (left ∙ e ∙ sym made.is))
