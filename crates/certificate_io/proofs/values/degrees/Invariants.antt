use Rattle.std.proofs.Common.{◌≡◌, map, take}
use Rattle.certificate_io.specs.Conditions.{degree_of}
use Rattle.certificate_io.proofs.values.degrees.Given as goal

abbrev pub invariant-loop-i : goal.invariant-loop-i
invariant-loop-i l = l.degrees.items ≡ map degree_of (take l.i l.ps)
