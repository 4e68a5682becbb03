use Rattle.std.proofs.Common.{◌≡◌, List, map}
use Rattle.std.specs.Prelude.{All}
use Rattle.alg_core.specs.Spaces.{over}
use Rattle.poly_text.proofs.EntrySteps.{field_of}
use Rattle.certificate_io.specs.LineReadings.{member_kind, member_tree, IsMemberIn}
use Rattle.certificate_io.specs.Parts.{MemberTree, IsMemberTree}
use Rattle.certificate_io.specs.Readings.{tails, member_text}
use Rattle.certificate_io.proofs.ReadingRuns.{ReadsLines}
use Rattle.certificate_io.proofs.polynomials.members_of.Given as goal

abbrev pub invariant-loop-i : goal.invariant-loop-i
invariant-loop-i g l =
    let S = over field_of g.O.TermOrder.order l.marked in
    let T = over field_of g.P.TermOrder.order l.combined in
    (xs : List MemberTree) → All IsMemberTree xs → tails l.lines ≡ map member_text xs
    → ReadsLines (IsMemberIn S T l.names) (member_tree S T l.names) (λ x. x) (λ _ x. member_kind S T l.names x) l.first xs l.i l.members.items
