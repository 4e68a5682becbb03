use Rattle.std.proofs.Common.{◌≡◌, List, map}
use Rattle.std.specs.Prelude.{All}
use Rattle.alg_core.specs.Spaces.{over}
use Rattle.poly_text.proofs.EntrySteps.{field_of}
use Rattle.certificate_io.specs.LineReadings.{image_kind, image_tree, IsImageIn}
use Rattle.certificate_io.specs.Parts.{ImageTree, IsImageTree}
use Rattle.certificate_io.specs.Readings.{tails, image_text}
use Rattle.certificate_io.proofs.ReadingRuns.{ReadsLines}
use Rattle.certificate_io.proofs.polynomials.images_of.Given as goal

abbrev pub invariant-loop-i : goal.invariant-loop-i
invariant-loop-i g l =
    let S = over field_of g.O.TermOrder.order l.plain in
    let T = over field_of g.P.TermOrder.order l.combined in
    (xs : List ImageTree) → All IsImageTree xs → tails l.lines ≡ map image_text xs
    → ReadsLines (IsImageIn S T l.names) (image_tree T l.names) (λ x. x) (λ _ x. image_kind S T l.names x) l.first xs l.i l.images.items
