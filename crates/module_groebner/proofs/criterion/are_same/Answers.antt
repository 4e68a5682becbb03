use Rattle.std.proofs.Common.{true, refl, arith}
use Rattle.alg_core.specs.Spaces.{over}
use Rattle.module_groebner.proofs.BasisSteps.{never, same_all, same_at}
use Rattle.module_groebner.proofs.CriterionSteps.{true_of}
use Rattle.module_groebner.proofs.ReductionSteps.{not_both}
use Rattle.module_groebner.proofs.criterion.are_same.Goals as goal

pub returns-then-not-are_equal : goal.returns-then-not-are_equal
returns-then-not-are_equal g c =
    let S = over g.F.Field.field g.O.TermOrder.order c.args.space.now in
    record {
      exact = (
        λ t. absurd (never t),
        λ e. absurd (not_both c.are_equal.result (c.are_equal.ensures.exact.1
            (same_at S (λ m. m) c.args.a.now c.args.b.now c.loop-i.i c.index-a-i.result c.index-b-i.result c.loop-i-test.true (omega (arith, c.if-a-b.false, c.loop-i-test.true)) c.index-a-i.is c.index-b-i.is e)) c.if-not-are_equal.true),
      );
    }

pub returns : goal.returns
returns g c =
    let S = over g.F.Field.field g.O.TermOrder.order c.args.space.now in
    record { exact = (λ t. same_all S (λ m. m) c.args.a.now c.args.b.now c.loop-i.i c.if-a-b.false c.loop-i-test.false c.loop-i.invariant, λ e. true_of true refl) }
