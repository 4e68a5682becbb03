use Rattle.std.proofs.Common.{length, map}
use Rattle.certificate_io.specs.Lines.{line_of}
use Rattle.certificate_io.proofs.Shapes.{IsBegun}
use Rattle.certificate_io.proofs.shape.lines_of.Given as goal

abbrev pub invariant-loop-rest : goal.invariant-loop-rest
invariant-loop-rest l = IsBegun l.bytes (map line_of l.lines.items) l.before l.rest

abbrev pub decreases-loop-rest : goal.decreases-loop-rest
decreases-loop-rest l = length l.rest
