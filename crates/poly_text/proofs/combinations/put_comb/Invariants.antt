use Rattle.std.proofs.Common.{◌≡◌, ◌++◌, ◌==◌, ◌-◌, ◌^◌, map, length, List, ℕ, true}
use Rattle.alg_core.specs.Spaces.{entries}
use Rattle.poly_text.specs.Outputs.{Says}
use Rattle.poly_text.specs.Texts.{by_position, combination_term}
use Rattle.poly_text.specs.Printing.{led}
use Rattle.poly_text.proofs.combinations.put_comb.Given as goal

abbrev pub invariant-loop-position : goal.invariant-loop-position
invariant-loop-position l =
    let es = by_position l.from (entries (λ m. m) l.terms) in
    record { text : (w : List ℕ) → Says l.initial.output w → Says l.output (w ++ led true (map (combination_term l.p) es)); first : l.is_first ≡ (length es == 0) }

abbrev pub decreases-loop-position : goal.decreases-loop-position
decreases-loop-position l = 2 ^ 64 - l.from
