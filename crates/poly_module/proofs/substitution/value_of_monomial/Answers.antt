use Rattle.std.proofs.Common.{◌≡◌, ◌<◌, ◌-◌, suc, length, get_or, refl, subst, arith}
use Rattle.alg_core.specs.Spaces.{over}
use Rattle.poly_module.proofs.ValueSteps.{positions, start, skip, step, power_zeros, step_small}
use Rattle.poly_module.proofs.TableSteps.{table_power}
use Rattle.poly_module.proofs.substitution.value_of_monomial.Goals as goal

pub loop-i-init : goal.loop-i-init
loop-i-init g c =
    let S = over g.F.Field.field g.O.TermOrder.order c.args.space.now in
    let exps = g.M.Monomial.exps in
    (omega arith, start S exps c.args.images.now (exps c.args.mono.now) (length c.args.images.now) _ c.args.one.now refl c.requires.variables c.in_ok-value.ensures.same c.requires.one)

pub mul-requires-clause-polynomial : goal.mul-requires-clause-polynomial
mul-requires-clause-polynomial g c =
    let S = over g.F.Field.field g.O.TermOrder.order c.args.space.now in
    let exps = g.M.Monomial.exps in
    let within : c.loop-i.i - 1 < length c.args.images.now = omega (arith, c.loop-i.invariant.0, c.loop-i-test.true) in
    let next : c.loop-i.i ≡ suc (c.loop-i.i - 1) = omega (arith, c.loop-i-test.true) in
    let read = subst (λ r. c.index-power.result.now ≡ get_or r c.exp-exponent.result c.index-power.result.now) c.row.view_is c.index-power.ensures in
    let power = (table_power S exps c.args.images.now c.args.table.now (c.loop-i.i - 1) c.exp-exponent.result c.index-table-i.result c.index-power.result.now (exps c.args.mono.now) within c.index-table-i.is c.exp-exponent.ensures.is read c.requires.table c.requires.covers).1 in
    record { fits = power.fits; position = power_zeros S exps c.args.images.now (c.loop-i.i - 1) c.exp-exponent.result c.index-power.result.now within (positions S exps c.args.images.now c.requires.images) power }

pub mul-requires-clause-room : goal.mul-requires-clause-room
mul-requires-clause-room g c =
    let S = over g.F.Field.field g.O.TermOrder.order c.args.space.now in
    let exps = g.M.Monomial.exps in
    let within : c.loop-i.i - 1 < length c.args.images.now = omega (arith, c.loop-i.invariant.0, c.loop-i-test.true) in
    let next : c.loop-i.i ≡ suc (c.loop-i.i - 1) = omega (arith, c.loop-i-test.true) in
    let read = subst (λ r. c.index-power.result.now ≡ get_or r c.exp-exponent.result c.index-power.result.now) c.row.view_is c.index-power.ensures in
    let power = (table_power S exps c.args.images.now c.args.table.now (c.loop-i.i - 1) c.exp-exponent.result c.index-table-i.result c.index-power.result.now (exps c.args.mono.now) within c.index-table-i.is c.exp-exponent.ensures.is read c.requires.table c.requires.covers).1 in
    step_small S exps g.M.Monomial.MAX_EXP c.args.images.now (exps c.args.mono.now) c.loop-i.i (c.loop-i.i - 1) c.exp-exponent.result c.index-power.result.now c.loop-i.value next within c.exp-exponent.ensures.is (positions S exps c.args.images.now c.requires.images) c.requires.small power c.loop-i.invariant.1

pub loop-i-preserved-then-exponent-gt0 : goal.loop-i-preserved-then-exponent-gt0
loop-i-preserved-then-exponent-gt0 g c =
    let S = over g.F.Field.field g.O.TermOrder.order c.args.space.now in
    let exps = g.M.Monomial.exps in
    let within : c.loop-i.i - 1 < length c.args.images.now = omega (arith, c.loop-i.invariant.0, c.loop-i-test.true) in
    let next : c.loop-i.i ≡ suc (c.loop-i.i - 1) = omega (arith, c.loop-i-test.true) in
    let read = subst (λ r. c.index-power.result.now ≡ get_or r c.exp-exponent.result c.index-power.result.now) c.row.view_is c.index-power.ensures in
    let power = (table_power S exps c.args.images.now c.args.table.now (c.loop-i.i - 1) c.exp-exponent.result c.index-table-i.result c.index-power.result.now (exps c.args.mono.now) within c.index-table-i.is c.exp-exponent.ensures.is read c.requires.table c.requires.covers).1 in
    (omega (arith, within), step S exps c.args.images.now (exps c.args.mono.now) c.loop-i.i (c.loop-i.i - 1) c.exp-exponent.result c.index-power.result.now c.loop-i.value _ next within c.requires.variables c.exp-exponent.ensures.is power c.loop-i.invariant.1 c.in_ok-value-2.ensures.product.fits c.in_ok-value-2.ensures.product.is)

pub loop-i-preserved : goal.loop-i-preserved
loop-i-preserved g c =
    let S = over g.F.Field.field g.O.TermOrder.order c.args.space.now in
    let exps = g.M.Monomial.exps in
    (omega (arith, c.loop-i.invariant.0), skip S exps c.args.images.now (exps c.args.mono.now) c.loop-i.i (c.loop-i.i - 1) c.exp-exponent.result _ (omega (arith, c.loop-i-test.true)) (omega (arith, c.loop-i.invariant.0, c.loop-i-test.true)) c.requires.variables c.exp-exponent.ensures.is (omega (arith, c.if-exponent-gt0.false)) c.loop-i.invariant.1)
