use Rattle.std.proofs.Common.{◌++◌, map, take, List, ℕ, true}
use Rattle.alg_core.specs.Spaces.{entry}
use Rattle.poly_text.specs.Outputs.{Says}
use Rattle.poly_text.specs.Texts.{term_in}
use Rattle.poly_text.specs.Printing.{led}
use Rattle.poly_text.proofs.print.put_poly.Given as goal

abbrev pub invariant-loop-i : goal.invariant-loop-i
invariant-loop-i l = (w : List ℕ) → Says l.initial.output w → Says l.output (w ++ led true (map (λ t. term_in l.names l.primaries l.p (entry (λ m. m) t)) (take l.i l.terms)))
