use Rattle.std.proofs.Common.{◌∙◌, ℕ, arith}
use Rattle.alg_core.specs.DpOrder.{dp_order}
use Rattle.alg_core.specs.Spaces.{SpaceOver, over}
use Rattle.alg_core.specs.declared.block_order.BlockOrder.{BlockOrder}
use Rattle.alg_core.specs.declared.dp.Dp.{Dp}
use Rattle.alg_core.specs.declared.space.Space.{Space}
use Rattle.finite_certificate.specs.MarkSpaces.{mark_space}
use Rattle.prime_field.specs.PrimeFields.{gfp}
use Rattle.prime_field.specs.declared.gfp.PrimeField.{PrimeField}
use Rattle.invring_app.proofs.FixedValues.{plain_polynomials, low_member, is_narrow, value_form, value_down}
use Rattle.invring_app.proofs.commands.ring.kernels.value_of.Goals as goal

abbrev plain : Space PrimeField Dp → SpaceOver ℕ
plain s = over (λ (f : PrimeField). gfp f.p f.listed) (λ (o : Dp). dp_order o.weights.items) s

abbrev marked : Space PrimeField BlockOrder → SpaceOver ℕ
marked s = mark_space (λ (f : PrimeField). gfp f.p f.listed) s

pub value-requires-clause-u : goal.value-requires-clause-u
value-requires-clause-u c = low_member (marked c.args.marked.now) c.args.member.now c.requires.member

pub without_marks-requires-clause-polynomials : goal.without_marks-requires-clause-polynomials
without_marks-requires-clause-polynomials c = plain_polynomials (plain c.args.space.now) c.requires.plain

pub without_marks-requires-clause-narrow : goal.without_marks-requires-clause-narrow
without_marks-requires-clause-narrow c =
    let made = c.in_ok-value.ensures in
    is_narrow (plain c.args.space.now) (marked c.args.marked.now) c.args.marked.now.order.vars c.args.marked.now.order.weights.items c.requires.beside c.in_ok-value.value made.fits made.variables

pub returns-clause-form : goal.returns-clause-form
returns-clause-form c =
    let made = c.in_ok-value.ensures in
    let h = c.requires.member.homogeneous in
    let low = h.1 in
    value_form (plain c.args.space.now) (marked c.args.marked.now) c.args.marked.now.order.vars c.args.marked.now.order.weights.items c.requires.beside c.in_ok-value.value made.fits made.variables
    h.0 (omega arith) (made.homogeneous h.0 h.2) c.in_ok-unmarked.unmarked c.in_ok-unmarked.ensures.same

pub returns-clause-value : goal.returns-clause-value
returns-clause-value c =
    let made = c.in_ok-value.ensures in
    c.in_ok-unmarked.ensures.same.is
    ∙ value_down (plain c.args.space.now) (marked c.args.marked.now) c.args.marked.now.order.vars c.args.marked.now.order.weights.items c.requires.beside c.in_ok-value.value made.fits made.variables
    c.args.free_module.now.theta c.args.member.now.u made.value
