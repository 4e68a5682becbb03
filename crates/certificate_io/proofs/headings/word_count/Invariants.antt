use Rattle.std.proofs.Common.{length}
use Rattle.certificate_io.specs.Lines.{after, bytes_at}
use Rattle.certificate_io.proofs.WordRuns.{CountsWords}
use Rattle.certificate_io.proofs.headings.word_count.Given as goal

abbrev pub invariant-loop-rest : goal.invariant-loop-rest
invariant-loop-rest l = CountsWords l.fn.text l.count (bytes_at l.rest)

abbrev pub decreases-loop-rest : goal.decreases-loop-rest
decreases-loop-rest l = length (after 32 (bytes_at l.rest))
