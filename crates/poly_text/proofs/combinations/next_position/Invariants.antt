use Rattle.std.proofs.Common.{take}
use Rattle.alg_core.specs.Spaces.{entries}
use Rattle.poly_text.specs.Printing.{IsFirstPosition}
use Rattle.poly_text.proofs.combinations.next_position.Given as goal

abbrev pub invariant-loop-i : goal.invariant-loop-i
invariant-loop-i l = IsFirstPosition (entries (λ m. m) (take l.i l.terms)) l.from l.next
