use Rattle.std.proofs.Common.{take}
use Rattle.syzygy_kernel.proofs.SameMembers.{Same}
use Rattle.syzygy_kernel.proofs.list_test.are_same.Given as goal

abbrev pub invariant-loop-i : goal.invariant-loop-i
invariant-loop-i g l = Same (g.F.Field.field l.space.field) (take l.i l.a) (take l.i l.b)
