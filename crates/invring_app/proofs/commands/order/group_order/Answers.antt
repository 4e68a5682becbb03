use Rattle.prime_field.specs.PrimeFields.{gfp}
use Rattle.matrix_group.specs.Groups.{size}
use Rattle.std.proofs.Common.{ap, ◌∙◌, Err}
use Rattle.std.proofs.Common.{subst, sym}
use Rattle.finvar_text.specs.Problems.{problem_in}
use Rattle.invring_app.specs.Commands.Orders.{IsOrderOf, IsGroupTold}
use Rattle.invring_app.proofs.FaultLaws.{handed-on}
use Rattle.invring_app.proofs.GeneratorLaws.{squares, inverses, size-is}
use Rattle.invring_app.proofs.OrderLaws.{order_is, over_is}
use Rattle.invring_app.proofs.commands.order.group_order.Goals as goal

pub enumerate-requires-clause-square : goal.enumerate-requires-clause-square
enumerate-requires-clause-square c =
    let f = c.field_of-field.result in
    squares c.args.script.now (gfp f.p f.listed) _ _ c.requires.sound c.field_of-field.ensures.is (ap size c.deref.ensures.value ∙ size-is c.args.script.now c.requires.sound) c.deref.ensures.value

pub enumerate-requires-clause-invertible : goal.enumerate-requires-clause-invertible
enumerate-requires-clause-invertible c =
    let f = c.field_of-field.result in
    inverses c.args.script.now (gfp f.p f.listed) _ c.requires.sound c.field_of-field.ensures.is c.deref.ensures.value

pub returns-in_err-group-clause-bound : goal.returns-in_err-group-clause-bound
returns-in_err-group-clause-bound c =
    let f = c.field_of-field.result in
    let s = c.args.script.now in
    handed-on (IsGroupTold c.args.max_order (problem_in s)) c.from_residual.result c.in_err-group.field-0.0 c.from_residual.ensures.1
    (over_is s (gfp f.p f.listed) _ c.requires.sound c.field_of-field.ensures.is c.deref.ensures.value c.args.max_order c.in_err-group.field-0.0 (λ counted is. c.in_err-group.ensures.bound counted (ap (λ e. Err e) is)))

pub returns-clause-order : goal.returns-clause-order
returns-clause-order c =
    let f = c.field_of-field.result in
    let s = c.args.script.now in
    subst (IsOrderOf (problem_in s)) (sym c.order.ensures.is)
    (order_is s (gfp f.p f.listed) _ c.requires.sound c.field_of-field.ensures.is c.deref.ensures.value c.in_ok-group.group c.in_ok-group.ensures.elements)
