use Rattle.std.proofs.Common.{List, ℕ, ◌++◌, map, take}
use Rattle.poly_text.specs.Outputs.{Says}
use Rattle.certificate_io.specs.Certificates.{matrix_of}
use Rattle.certificate_io.specs.Texts.{ended, matrix_line}
use Rattle.certificate_io.proofs.lines.put_matrix_lines.Given as goal

abbrev pub invariant-loop-i : goal.invariant-loop-i
invariant-loop-i l = (w : List ℕ) → Says l.initial.output w → Says l.output (w ++ ended (map (λ m. matrix_line l.p (matrix_of m)) (take l.i l.matrices)))
