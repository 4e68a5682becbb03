use Rattle.std.proofs.Common.{List, ℕ, ◌++◌, map, take}
use Rattle.poly_text.specs.Outputs.{Says}
use Rattle.certificate_io.specs.Texts.{spaced}
use Rattle.certificate_io.proofs.lines.put_names.Given as goal

abbrev pub invariant-loop-i : goal.invariant-loop-i
invariant-loop-i l = (w : List ℕ) → Says l.initial.output w → Says l.output (w ++ spaced (map (λ n. n) (take l.i l.names)))
