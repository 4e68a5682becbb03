use Rattle.reynolds_op.proofs.Common.{length, sym, subst, refl, IsNone, exactly_divided}
use Rattle.reynolds_op.proofs.reynolds.Reynolds.of.Goals as goal

pub returns-in_err-factor-clause-none : goal.returns-in_err-factor-clause-none
returns-in_err-factor-clause-none g c =
    let k = g.F.Field.field c.args.field.now in
    let exact = exactly_divided k c.sum_of_ones-ones.result c.order.result (length c.args.group.now) c.sum_of_ones-ones.ensures.is c.order.ensures.is c.in_err-factor.ensures.none in
    (λ _. exact.0 refl, λ _. subst IsNone (sym c.from_residual.ensures) refl)

pub returns-clause-none : goal.returns-clause-none
returns-clause-none g c =
    exactly_divided (g.F.Field.field c.args.field.now) c.sum_of_ones-ones.result c.order.result (length c.args.group.now) c.sum_of_ones-ones.ensures.is c.order.ensures.is c.in_ok-factor.ensures.none
