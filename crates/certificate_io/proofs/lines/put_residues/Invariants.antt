use Rattle.std.proofs.Common.{List, ℕ, ◌++◌, map, take}
use Rattle.poly_text.specs.Outputs.{Says}
use Rattle.poly_text.specs.Texts.{residue_text}
use Rattle.certificate_io.specs.Texts.{spaced}
use Rattle.certificate_io.proofs.lines.put_residues.Given as goal

abbrev pub invariant-loop-i : goal.invariant-loop-i
invariant-loop-i l = (w : List ℕ) → Says l.initial.output w → Says l.output (w ++ spaced (map (residue_text l.p) (take l.i l.cells)))
