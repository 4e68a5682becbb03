use Rattle.std.proofs.Common.{◌≡◌, drop}
use Rattle.std.specs.Prelude.{max}
use Rattle.certificate_io.specs.Conditions.{degree_of}
use Rattle.certificate_io.proofs.values.degree.Given as goal

abbrev pub invariant-loop-i : goal.invariant-loop-i
invariant-loop-i l = max l.greatest (degree_of (drop l.i l.fn.p)) ≡ degree_of l.fn.p
