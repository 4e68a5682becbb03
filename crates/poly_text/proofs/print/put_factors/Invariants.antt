use Rattle.std.proofs.Common.{◌≡◌, ◌++◌, ◌||◌, not, take, List, ℕ}
use Rattle.poly_text.specs.Outputs.{Says}
use Rattle.poly_text.specs.Texts.{variable_in, factors_from}
use Rattle.poly_text.specs.Printing.{joined, is_none}
use Rattle.poly_text.proofs.print.put_factors.Given as goal

abbrev pub invariant-loop-i : goal.invariant-loop-i
invariant-loop-i l =
    let fs = factors_from (variable_in l.names l.primaries) 0 (take l.i l.mono) in
    record { text : (w : List ℕ) → Says l.initial.output w → Says l.output (w ++ joined l.initial.begun fs); begun : l.begun ≡ (l.initial.begun || not (is_none fs)) }
