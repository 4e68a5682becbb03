use Rattle.std.proofs.Common.{◌≡◌, Err, length, ap, subst, sym, ◌∙◌, arith}
use Rattle.alg_core.specs.Spaces.{over}
use Rattle.poly_module.specs.SpaceVectors.{vectors_of}
use Rattle.groebner_hom.specs.Exponents.{IsLeastExponent}
use Rattle.groebner_hom.proofs.ExponentSteps.{first-none, first-more, first-all, least-same, ended_basis, AreFirst}
use Rattle.groebner_hom.proofs.PolynomialLists.{same_ideal}
use Rattle.groebner_hom.proofs.exponents.least_exponents.Goals as goal

pub unreachable-requires : goal.unreachable-requires
unreachable-requires g c =
    let told = c.ideal_basis.ensures.above c.in-Err-Above.field-0-0 (c.in-Err-Above.is ∙ ap (λ e. Err e) c.in-Err-Above.field-0-is) in
    c.requires.within _ told.lead told.above

pub loop-i-init : goal.loop-i-init
loop-i-init g c =
    let S = over g.F.Field.field g.O.TermOrder.order c.args.space.now in
    first-none S.field (vectors_of S (λ m. m) c.args.theta.now) c.new-exponents.result.items c.new-exponents.ensures.items

pub least_exponent-requires-clause-basis : goal.least_exponent-requires-clause-basis
least_exponent-requires-clause-basis g c =
    let S = over g.F.Field.field g.O.TermOrder.order c.args.space.now in
    ended_basis S c.requires.positive c.requires.degrees c.args.cap (vectors_of S (λ m. m) c.args.theta.now) c.in-Ok.basis.items c.as_slice.result.now c.requires.cap c.in-Ok.ensures.polynomials c.in-Ok.ensures.reduced
    c.requires.ended c.as_slice.ensures.value

pub loop-i-preserved : goal.loop-i-preserved
loop-i-preserved g c =
    let S = over g.F.Field.field g.O.TermOrder.order c.args.space.now in
    let θ = vectors_of S (λ m. m) c.args.theta.now in
    let ws = vectors_of S (λ m. m) c.in-Ok.basis.items in
    let least = subst (λ l. IsLeastExponent S.field (vectors_of S (λ m. m) l) c.loop-i.i c.in_ok-least_exponent.field-0) c.as_slice.ensures.value c.in_ok-least_exponent.ensures.least in
    first-more S.field θ c.loop-i.i c.in_ok-least_exponent.field-0 c.loop-i.exponents.items c.push.new.self.items c.loop-i.invariant
    (least-same S.field ws θ (same_ideal S θ ws c.in-Ok.ensures.reduced) c.loop-i.i c.in_ok-least_exponent.field-0 least) c.in_ok-push.ensures.items

pub returns : goal.returns
returns g c =
    let S = over g.F.Field.field g.O.TermOrder.order c.args.space.now in
    let past = c.loop-i-test.false in
    record { least = first-all S.field (vectors_of S (λ m. m) c.args.theta.now) (length c.args.space.now.grading.weights.items) c.loop-i.i c.loop-i.exponents.items c.loop-i.invariant (omega arith) }
