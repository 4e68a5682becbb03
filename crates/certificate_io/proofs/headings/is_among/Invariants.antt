use Rattle.std.proofs.Common.{◌≡◌, drop}
use Rattle.certificate_io.specs.Values.{is_among}
use Rattle.certificate_io.proofs.headings.is_among.Given as goal

abbrev pub invariant-loop-i : goal.invariant-loop-i
invariant-loop-i l = is_among l.name (drop l.i l.names) ≡ is_among l.name l.names
