use Rattle.std.proofs.Common.{◌≡◌, ◌∙◌, ℕ, Err, length, ap, ap₂, arith}
use Rattle.alg_core.specs.DpOrder.{dp_order}
use Rattle.alg_core.specs.PolynomialSpaces.{marked_space}
use Rattle.alg_core.specs.Spaces.{SpaceOver, over}
use Rattle.alg_core.specs.declared.dp.Dp.{Dp}
use Rattle.alg_core.specs.declared.space.Space.{Space}
use Rattle.alg_core.specs.declared.block_order.BlockOrder.{BlockOrder}
use Rattle.finite_certificate.specs.MarkSpaces.{mark_space}
use Rattle.primary_module.specs.declared.fault.RankFault.TheVariants.{RankBound}
use Rattle.prime_field.specs.PrimeFields.{gfp}
use Rattle.prime_field.specs.declared.gfp.PrimeField.{PrimeField}
use Rattle.invring_app.proofs.AverageSteps.{told}
use Rattle.invring_app.proofs.OverPlain.{space_is, unmarked_is, found_over, bound_is, over_is, free_is}
use Rattle.invring_app.proofs.commands.ring.over.over_primaries.Goals as goal

abbrev plain : Space PrimeField Dp → SpaceOver ℕ
plain s = over (λ (f : PrimeField). gfp f.p f.listed) (λ (o : Dp). dp_order o.weights.items) s

abbrev marked : Space PrimeField BlockOrder → SpaceOver ℕ
marked s = mark_space (λ (f : PrimeField). gfp f.p f.listed) s

pub all_with_marks-requires-clause-space : goal.all_with_marks-requires-clause-space
all_with_marks-requires-clause-space c =
    let S = plain c.args.space.now in
    let made = c.in_ok-marked.ensures in
    let few = c.requires.found.few in
    let many : c.len-variables.result ≡ length S.weights = omega arith in
    let marks = c.as_slice.ensures.value ∙ c.in_ok-degrees.ensures.are in
    space_is S c.args.max_basis c.args.primaries.now c.requires.found (marked c.in_ok-marked.marked) c.in_ok-marked.marked.order.vars c.in_ok-marked.marked.order.weights.items
    (made.is ∙ ap₂ (λ i ws. marked_space S.field i ws) many marks) (made.variables ∙ many) (made.marks ∙ marks)

pub all_with_marks-requires-clause-unmarked : goal.all_with_marks-requires-clause-unmarked
all_with_marks-requires-clause-unmarked c =
    let S = plain c.args.space.now in
    let made = c.in_ok-marked.ensures in
    let few = c.requires.found.few in
    let many : c.len-variables.result ≡ length S.weights = omega arith in
    let marks = c.as_slice.ensures.value ∙ c.in_ok-degrees.ensures.are in
    unmarked_is S c.args.max_basis c.args.primaries.now c.requires.found (marked c.in_ok-marked.marked) c.in_ok-marked.marked.order.vars c.in_ok-marked.marked.order.weights.items
    (made.is ∙ ap₂ (λ i ws. marked_space S.field i ws) many marks) (made.variables ∙ many) (made.marks ∙ marks)

pub over_theta-requires-clause-found : goal.over_theta-requires-clause-found
over_theta-requires-clause-found c =
    let S = plain c.args.space.now in
    let made = c.in_ok-marked.ensures in
    let few = c.requires.found.few in
    let many : c.len-variables.result ≡ length S.weights = omega arith in
    let marks = c.as_slice.ensures.value ∙ c.in_ok-degrees.ensures.are in
    found_over S c.args.max_basis c.args.primaries.now c.requires.found (marked c.in_ok-marked.marked) c.in_ok-marked.marked.order.vars c.in_ok-marked.marked.order.weights.items
    (made.is ∙ ap₂ (λ i ws. marked_space S.field i ws) many marks) (made.variables ∙ many) (made.marks ∙ marks)
    c.in_ok-theta.theta.items c.in_ok-theta.ensures.polynomials c.in_ok-theta.ensures.same

pub returns-in_err-made-clause-bound : goal.returns-in_err-made-clause-bound
returns-in_err-made-clause-bound c = λ counted e.
    let S = plain c.args.space.now in
    let made = c.in_ok-marked.ensures in
    let few = c.requires.found.few in
    let many : c.len-variables.result ≡ length S.weights = omega arith in
    let marks = c.as_slice.ensures.value ∙ c.in_ok-degrees.ensures.are in
    let above = c.in_err-made.ensures.bound counted (ap Err (told c.from_residual-in_err-made.result c.in_err-made.field-0.0 c.from_residual-in_err-made.ensures.1 (RankBound counted) e)) in (
      above.0,
      bound_is S c.args.max_basis c.args.primaries.now c.requires.found (marked c.in_ok-marked.marked) c.in_ok-marked.marked.order.vars c.in_ok-marked.marked.order.weights.items
          (made.is ∙ ap₂ (λ i ws. marked_space S.field i ws) many marks) (made.variables ∙ many) (made.marks ∙ marks)
          c.in_ok-theta.theta.items c.in_ok-theta.ensures.same c.args.max_rank above.1,
    )

pub returns-clause-is : goal.returns-clause-is
returns-clause-is c =
    let S = plain c.args.space.now in
    let made = c.in_ok-marked.ensures in
    let few = c.requires.found.few in
    let many : c.len-variables.result ≡ length S.weights = omega arith in
    let marks = c.as_slice.ensures.value ∙ c.in_ok-degrees.ensures.are in
    let low = c.requires.rank in
    let within = c.in_ok-made.ensures.within in
    over_is S c.args.max_basis c.args.primaries.now c.requires.found (marked c.in_ok-marked.marked) c.in_ok-marked.marked.order.vars c.in_ok-marked.marked.order.weights.items
    (made.is ∙ ap₂ (λ i ws. marked_space S.field i ws) many marks) (made.variables ∙ many) (made.marks ∙ marks)
    c.in_ok-theta.theta.items c.in_ok-theta.ensures.same c.in_ok-made.made.free_module c.in_ok-made.made.powers.items c.in_ok-made.ensures.stands c.in_ok-made.ensures.theta
    c.in_ok-made.ensures.low (omega arith) c.in_ok-made.ensures.fit c.in_ok-made.ensures.least

pub returns-clause-free : goal.returns-clause-free
returns-clause-free c =
    let S = plain c.args.space.now in
    let made = c.in_ok-marked.ensures in
    let few = c.requires.found.few in
    let many : c.len-variables.result ≡ length S.weights = omega arith in
    let marks = c.as_slice.ensures.value ∙ c.in_ok-degrees.ensures.are in
    free_is S c.args.max_basis c.args.primaries.now c.requires.found (marked c.in_ok-marked.marked) c.in_ok-marked.marked.order.vars c.in_ok-marked.marked.order.weights.items
    (made.is ∙ ap₂ (λ i ws. marked_space S.field i ws) many marks) (made.variables ∙ many) (made.marks ∙ marks)
    c.in_ok-theta.theta.items c.in_ok-theta.ensures.same c.in_ok-made.made.free_module c.in_ok-made.ensures.stands c.in_ok-made.ensures.theta
