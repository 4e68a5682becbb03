use Rattle.std.proofs.Common.{List, ℕ, ◌++◌, map, take}
use Rattle.poly_text.specs.Outputs.{Says}
use Rattle.certificate_io.specs.Texts.{ended, image_line}
use Rattle.certificate_io.proofs.lines.put_image_lines.Given as goal

abbrev pub invariant-loop-i : goal.invariant-loop-i
invariant-loop-i l = (w : List ℕ) → Says l.initial.output w → Says l.output (w ++ ended (map (image_line l.p l.names l.count) (take l.i l.images)))
