use Rattle.std.proofs.Common.{List, ℕ, ◌++◌, map, take}
use Rattle.std.specs.Prelude.{decimal}
use Rattle.poly_text.specs.Outputs.{Says}
use Rattle.certificate_io.specs.Texts.{spaced}
use Rattle.invring_app.proofs.commands.summary.put_numbers.Given as goal

abbrev pub invariant-loop-i : goal.invariant-loop-i
invariant-loop-i l = (w : List ℕ) → Says l.initial.output w → Says l.output (w ++ spaced (map decimal (take l.i l.numbers)))
