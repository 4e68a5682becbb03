use Rattle.std.proofs.Common.{◌≡◌, List, map}
use Rattle.std.specs.Prelude.{All}
use Rattle.alg_core.specs.Spaces.{over}
use Rattle.poly_text.proofs.EntrySteps.{field_of}
use Rattle.certificate_io.specs.LineReadings.{power_kind, power_parts, power_said, IsPowerIn}
use Rattle.certificate_io.specs.Parts.{PowerTree, IsPowerTree}
use Rattle.certificate_io.specs.Readings.{tails, power_text}
use Rattle.certificate_io.proofs.ReadingRuns.{ReadsLines}
use Rattle.certificate_io.proofs.polynomials.powers_of.Given as goal

abbrev pub invariant-loop-i : goal.invariant-loop-i
invariant-loop-i g l =
    let S = over field_of g.O.TermOrder.order l.space in
    (xs : List PowerTree) → All IsPowerTree xs → tails l.lines ≡ map power_text xs
    → ReadsLines (IsPowerIn S l.names) (power_parts S l.names) power_said (power_kind S l.names) l.first xs l.i l.powers.items
