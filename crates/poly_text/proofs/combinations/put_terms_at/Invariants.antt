use Rattle.std.proofs.Common.{◌≡◌, ◌++◌, ◌&&◌, ◌==◌, map, take, length, List, ℕ}
use Rattle.alg_core.specs.Spaces.{entries}
use Rattle.poly_text.specs.Outputs.{Says}
use Rattle.poly_text.specs.Texts.{at_position, combination_term}
use Rattle.poly_text.specs.Printing.{led}
use Rattle.poly_text.proofs.combinations.put_terms_at.Given as goal

abbrev pub invariant-loop-i : goal.invariant-loop-i
invariant-loop-i l =
    let es = at_position l.position (entries (λ m. m) (take l.i l.terms)) in
    record { text : (w : List ℕ) → Says l.initial.output w → Says l.output (w ++ led l.initial.first (map (combination_term l.p) es)); first : l.first ≡ (l.initial.first && (length es == 0)) }
