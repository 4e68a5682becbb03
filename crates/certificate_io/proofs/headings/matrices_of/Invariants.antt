use Rattle.std.proofs.Common.{◌≡◌, List, map}
use Rattle.std.specs.Prelude.{All}
use Rattle.certificate_io.specs.Certificates.{matrix_of}
use Rattle.certificate_io.specs.Conditions.{IsSquare}
use Rattle.certificate_io.specs.Parts.{IsSomeOf}
use Rattle.certificate_io.specs.Readings.{tails, matrix_cells, matrix_kind, matrix_text}
use Rattle.certificate_io.specs.Syntax.{IsCell}
use Rattle.certificate_io.specs.declared.words.Cell.{Cell}
use Rattle.certificate_io.proofs.ReadingRuns.{ReadsLines}
use Rattle.certificate_io.proofs.headings.matrices_of.Given as goal

abbrev pub invariant-loop-i : goal.invariant-loop-i
invariant-loop-i l =
    (xs : List (List Cell)) → All (IsSomeOf IsCell) xs → tails l.lines ≡ map matrix_text xs
    → ReadsLines (λ m. IsSquare l.p l.n (matrix_of m)) (λ m. matrix_cells l.p (matrix_of m)) (λ x. x) (λ _ cs. matrix_kind l.p l.n cs) l.first xs l.i l.matrices.items
