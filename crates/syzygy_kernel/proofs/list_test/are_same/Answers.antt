use Rattle.std.proofs.Common.{arith}
use Rattle.module_groebner.proofs.BasisSteps.{never}
use Rattle.module_groebner.proofs.ReductionSteps.{not_both}
use Rattle.syzygy_kernel.proofs.SameMembers.{same_at}
use Rattle.syzygy_kernel.proofs.list_test.are_same.Goals as goal

pub returns-then-not-are_alike : goal.returns-then-not-are_alike
returns-then-not-are_alike g c =
    record {
      exact = (
        λ t. absurd (never t),
        λ e. absurd (not_both c.are_alike.result (c.are_alike.ensures.exact.1
            (same_at (g.F.Field.field c.args.space.now.field) c.args.a.now c.args.b.now c.loop-i.i c.index-a-i.result c.index-b-i.result c.loop-i-test.true
            (omega (arith, c.if-a-b.false, c.loop-i-test.true)) c.index-a-i.is c.index-b-i.is e)) c.if-not-are_alike.true),
      );
    }
