use Rattle.std.proofs.Common.{take}
use Rattle.finite_certificate.specs.MarkSpaces.{mark_space}
use Rattle.syzygy_kernel.proofs.MemberLists.{AreMembers}
use Rattle.syzygy_kernel.proofs.last_parts.members.Given as goal

abbrev pub invariant-loop-i : goal.invariant-loop-i
invariant-loop-i g l =
    let S = mark_space g.F.Field.field l.space in
    AreMembers S l.space.order.vars l.space.order.weights.items l.gens l.monomials (take l.i l.basis) l.members.items
