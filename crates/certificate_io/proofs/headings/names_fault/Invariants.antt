use Rattle.std.proofs.Common.{◌≡◌, drop}
use Rattle.certificate_io.specs.Values.{are_distinct}
use Rattle.certificate_io.proofs.headings.names_fault.Given as goal

abbrev pub invariant-loop-i : goal.invariant-loop-i
invariant-loop-i l = are_distinct (drop l.i l.names) ≡ are_distinct l.names
