use Rattle.std.proofs.Common.{◌∙◌, ap, subst, sym}
use Rattle.std.specs.Prelude.{Err}
use Rattle.matrix_group.specs.Groups.{IsNonsingular}
use Rattle.cert_check.specs.Endings.{IsFirstFailing, ending_of_group}
use Rattle.cert_check.specs.Parts.{At, size}
use Rattle.cert_check.proofs.CheckSpaces.{plain_of}
use Rattle.cert_check.proofs.GivenParts.{given_square}
use Rattle.cert_check.proofs.CheckedGroup.{own_squares, none_fails, each_invertible, squares_given, singular_told, over_told, order_told, group_holds, group_of, fault_told}
use Rattle.cert_check.proofs.group.check_group.Goals as goal

pub first_singular-requires : goal.first_singular-requires
first_singular-requires c =
    let S = plain_of c.args.space.now in
    record { square = own_squares S.field (size c.args.cert.now) c.args.gens.now (given_square S c.args.gens.now c.args.cert.now c.requires.given) }

pub returns-in-Some-clause-told : goal.returns-in-Some-clause-told
returns-in-Some-clause-told c =
    let S = plain_of c.args.space.now in
    singular_told S c.args.gens.now c.args.cert.now c.args.limits.now c.requires.given c.in-Some.item
    (subst (IsFirstFailing (λ i. (m : _) → At c.args.gens.now i m → IsNonsingular S.field m)) c.in-Some.is c.in_ok-item.ensures.first)

pub enumerate-requires-clause-square : goal.enumerate-requires-clause-square
enumerate-requires-clause-square c = squares_given (plain_of c.args.space.now) c.args.gens.now c.args.cert.now c.args.limits.now c.requires.given

pub enumerate-requires-clause-invertible : goal.enumerate-requires-clause-invertible
enumerate-requires-clause-invertible c =
    let S = plain_of c.args.space.now in
    each_invertible S.field (size c.args.cert.now) c.args.gens.now
    (none_fails (λ i. (m : _) → At c.args.gens.now i m → IsNonsingular S.field m) c.in_ok-item.field-0 c.in_default.not-Some c.in_ok-item.ensures.first)

pub returns-in_err-group-clause-told : goal.returns-in_err-group-clause-told
returns-in_err-group-clause-told c =
    let S = plain_of c.args.space.now in
    let e = c.in_err-group.field-0.0 in
    fault_told c.args.cert.now c.args.limits.now c.from_residual-in_err-group.result (ending_of_group e) c.from_residual-in_err-group.ensures.1
    (over_told S c.args.gens.now c.args.cert.now c.args.limits.now c.requires.given
    (none_fails (λ i. (m : _) → At c.args.gens.now i m → IsNonsingular S.field m) c.in_ok-item.field-0 c.in_default.not-Some c.in_ok-item.ensures.first)
    e (λ counted is. c.in_err-group.ensures.bound counted (ap (λ x. Err x) is)))

pub returns-then-order-cert-clause-told : goal.returns-then-order-cert-clause-told
returns-then-order-cert-clause-told c =
    let S = plain_of c.args.space.now in
    order_told S c.args.gens.now c.args.cert.now c.args.limits.now c.requires.given
    (none_fails (λ i. (m : _) → At c.args.gens.now i m → IsNonsingular S.field m) c.in_ok-item.field-0 c.in_default.not-Some c.in_ok-item.ensures.first)
    c.in_ok-group.group c.in_ok-group.ensures.elements c.in_ok-group.ensures.within c.order.result c.order.ensures.is
    (λ same. c.if-order-cert.true (same ∙ sym (ap (λ x. x.order) c.cert.view_is)))

pub returns-clause-reached : goal.returns-clause-reached
returns-clause-reached c =
    let S = plain_of c.args.space.now in
    group_holds S c.args.gens.now c.args.cert.now c.args.limits.now c.requires.given
    (none_fails (λ i. (m : _) → At c.args.gens.now i m → IsNonsingular S.field m) c.in_ok-item.field-0 c.in_default.not-Some c.in_ok-item.ensures.first)
    c.in_ok-group.group c.in_ok-group.ensures.elements c.in_ok-group.ensures.within c.order.result c.order.ensures.is
    (c.if-order-cert.false ∙ ap (λ x. x.order) c.cert.view_is)

pub returns-clause-group : goal.returns-clause-group
returns-clause-group c =
    group_of (plain_of c.args.space.now) c.args.gens.now c.args.cert.now c.args.limits.now c.requires.given c.in_ok-group.group c.in_ok-group.ensures.square
    c.in_ok-group.ensures.size c.in_ok-group.ensures.elements c.in_ok-group.ensures.group
