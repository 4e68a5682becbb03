use Rattle.std.proofs.Common.{◌≡◌, ◌++◌, length}
use Rattle.std.specs.Vec.Iter.{into_iter_items, into_iter_len}
use Rattle.invring_app.proofs.EvidenceSteps.{Lined}
use Rattle.invring_app.proofs.commands.ring.evidence.member_lines.Given as goal

abbrev pub invariant-loop-member : goal.invariant-loop-member
invariant-loop-member l =
    (l.yielded ++ into_iter_items l.member-iterator ≡ l.fn.members.items) × (into_iter_len l.member-iterator ≡ length (into_iter_items l.member-iterator)) × Lined l.fn.combs.items l.yielded l.lines.items (into_iter_items l.rest)
    × (into_iter_len l.rest ≡ length (into_iter_items l.rest))
