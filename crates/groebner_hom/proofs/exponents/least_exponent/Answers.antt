use Rattle.std.proofs.Common.{◌≡◌, ◌≤◌, ◌*◌, length, arith}
use Rattle.std.specs.Prelude.{IsTrue, ◌↔◌}
use Rattle.alg_core.specs.Spaces.{over}
use Rattle.poly_module.specs.SpaceVectors.{vectors_of}
use Rattle.finite_certificate.specs.Ideals.{InIdeal, variable_power}
use Rattle.groebner_hom.specs.Exponents.{exponent_cap}
use Rattle.groebner_hom.proofs.ExponentSteps.{smaller-more, least-from, power_low, empty_exact, rest_bound}
use Rattle.groebner_hom.proofs.PolynomialLists.{are_homogeneous}
use Rattle.groebner_hom.proofs.SecondParts.{not_true}
use Rattle.groebner_hom.proofs.exponents.least_exponent.Goals as goal

pub loop-power-init : goal.loop-power-init
loop-power-init g c = record { smaller = λ d h. absurd (omega arith); low = omega arith }

pub divide-requires-clause-degree : goal.divide-requires-clause-degree
divide-requires-clause-degree g c =
    let few = c.requires.few in
    let low = c.loop-power.invariant.low in
    power_low (over g.F.Field.field g.O.TermOrder.order c.args.space.now) c.requires.positive c.requires.degrees c.args.i c.loop-power.exponent c.requires.within c.in_ok-power.power c.in_ok-power.ensures.power (omega arith)

pub divide-requires-clause-homogeneous : goal.divide-requires-clause-homogeneous
divide-requires-clause-homogeneous g c = are_homogeneous (over g.F.Field.field g.O.TermOrder.order c.args.space.now) exponent_cap c.args.basis.now c.requires.basis.polynomials

pub returns-then-is_empty : goal.returns-then-is_empty
returns-then-is_empty g c =
    let S = over g.F.Field.field g.O.TermOrder.order c.args.space.now in
    let exact = empty_exact S c.requires.positive c.requires.degrees c.args.i c.loop-power.exponent c.requires.within c.in_ok-power.power c.in_ok-power.ensures.power c.args.basis.now c.requires.basis
    c.in_ok-remainder.remainder c.terms.result.now c.is_empty.result c.in_ok-remainder.ensures.fits c.in_ok-remainder.ensures.remainder c.terms.ensures.is c.is_empty.ensures in
    record { least = least-from S.field (vectors_of S (λ m. m) c.args.basis.now) c.args.i c.loop-power.exponent c.loop-power.invariant.smaller (exact.0 c.if-is_empty.true) }

pub overflow_add-exponent : goal.overflow_add-exponent
overflow_add-exponent g c =
    let few = c.requires.few in
    let low = c.loop-power.invariant.low in
    omega arith

pub loop-power-smaller : goal.loop-power-smaller
loop-power-smaller g c =
    let few = c.requires.few in
    let low = c.loop-power.invariant.low in
    omega arith

pub loop-power-preserved : goal.loop-power-preserved
loop-power-preserved g c =
    let S = over g.F.Field.field g.O.TermOrder.order c.args.space.now in
    let exact = empty_exact S c.requires.positive c.requires.degrees c.args.i c.loop-power.exponent c.requires.within c.in_ok-power.power c.in_ok-power.ensures.power c.args.basis.now c.requires.basis
    c.in_ok-remainder.remainder c.terms.result.now c.is_empty.result c.in_ok-remainder.ensures.fits c.in_ok-remainder.ensures.remainder c.terms.ensures.is c.is_empty.ensures in
    let bound = rest_bound S c.requires.positive c.requires.degrees c.args.i c.loop-power.exponent c.requires.within c.in_ok-power.power c.in_ok-power.ensures.power c.args.basis.now c.requires.basis
    c.in_ok-remainder.remainder c.terms.result.now c.is_empty.result c.in_ok-remainder.ensures.fits c.in_ok-remainder.ensures.remainder c.terms.ensures.is c.is_empty.ensures c.in_ok-remainder.ensures.degrees c.if-is_empty.false in
    record {
      smaller = smaller-more S.field (vectors_of S (λ m. m) c.args.basis.now) c.args.i c.loop-power.exponent c.loop-power.invariant.smaller (λ inside. not_true c.is_empty.result c.if-is_empty.false (exact.1 inside));
      low = omega arith;
    }
