use Rattle.std.proofs.Common.{take}
use Rattle.std.specs.Prelude.{All}
use Rattle.certificate_io.specs.Sections.{IsIn}
use Rattle.certificate_io.proofs.sections.run_length.Given as goal

abbrev pub invariant-loop-i : goal.invariant-loop-i
invariant-loop-i l = All (IsIn l.fn.kind) (take l.i l.fn.lines)
