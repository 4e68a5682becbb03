use Rattle.std.proofs.Common.{List, ℕ, ◌++◌, map, take}
use Rattle.poly_text.specs.Outputs.{Says}
use Rattle.std.specs.List.{zip}
use Rattle.certificate_io.specs.Texts.{ended, power_line}
use Rattle.certificate_io.proofs.lines.put_power_lines.Given as goal

abbrev pub invariant-loop-i : goal.invariant-loop-i
invariant-loop-i l = (w : List ℕ) → Says l.initial.output w → Says l.output (w ++ ended (map (λ x. power_line l.p l.names l.primaries x.0 x.1) (take l.i (zip l.names l.powers))))
