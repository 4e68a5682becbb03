use Rattle.std.proofs.Common.{length}
use Rattle.std.specs.Prelude.{◌↔◌}
use Rattle.certificate_io.specs.Lines.{bytes_at, after}
use Rattle.certificate_io.proofs.WordSteps.{AreCells, cells_left}
use Rattle.certificate_io.proofs.words.are_cells.Given as goal

abbrev pub invariant-loop-rest : goal.invariant-loop-rest
invariant-loop-rest l = AreCells l.fn.text ↔ cells_left (bytes_at l.rest)

abbrev pub decreases-loop-rest : goal.decreases-loop-rest
decreases-loop-rest l = length (after 32 (bytes_at l.rest))
