use Rattle.std.proofs.Common.{length}
use Rattle.std.specs.Prelude.{◌↔◌}
use Rattle.certificate_io.specs.Lines.{bytes_at, after}
use Rattle.certificate_io.proofs.WordSteps.{AreNames, names_left}
use Rattle.certificate_io.proofs.words.are_names.Given as goal

abbrev pub invariant-loop-rest : goal.invariant-loop-rest
invariant-loop-rest l = AreNames l.fn.text ↔ names_left (bytes_at l.rest)

abbrev pub decreases-loop-rest : goal.decreases-loop-rest
decreases-loop-rest l = length (after 32 (bytes_at l.rest))
