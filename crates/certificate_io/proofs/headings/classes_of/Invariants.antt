use Rattle.std.proofs.Common.{◌≡◌, List, length}
use Rattle.certificate_io.specs.Lines.{after, bytes_at}
use Rattle.certificate_io.specs.Parts.{IsSomeOf}
use Rattle.certificate_io.specs.Readings.{matrix_text}
use Rattle.certificate_io.specs.Syntax.{IsCell}
use Rattle.certificate_io.specs.declared.words.Cell.{Cell}
use Rattle.certificate_io.proofs.ClassRuns.{CellsLeft}
use Rattle.certificate_io.proofs.headings.classes_of.Given as goal

abbrev pub invariant-loop-rest : goal.invariant-loop-rest
invariant-loop-rest l = (cs : List Cell) → IsSomeOf IsCell cs → matrix_text cs ≡ l.fn.text → CellsLeft l.fn.p cs l.classes.items (bytes_at l.rest)

abbrev pub decreases-loop-rest : goal.decreases-loop-rest
decreases-loop-rest l = length (after 32 (bytes_at l.rest))
