use Rattle.std.proofs.Common.{◌∙◌, ◌<◌, length, refl, sym, ap, subst, arith}
use Rattle.poly_module.specs.SpaceVectors.{vectors_of}
use Rattle.finite_certificate.specs.MarkSpaces.{mark_space}
use Rattle.finite_certificate.specs.Finiteness.{AreLow, IsLowPower, IsPowerAt, powers_of}
use Rattle.finite_certificate.proofs.LowImages.{marked_polynomials, images_low, images_count}
use Rattle.finite_certificate.proofs.PlacesOfPowers.{power_at, at_power, one_more, all_powers, not_finite}
use Rattle.finite_certificate.proofs.verification.verify.Goals as goal

pub images-requires-clause-polynomials : goal.images-requires-clause-polynomials
images-requires-clause-polynomials g c = marked_polynomials (mark_space g.F.Field.field c.args.space.now) _ _ c.requires.space

pub is_power-requires-clause-polynomials : goal.is_power-requires-clause-polynomials
is_power-requires-clause-polynomials g c = marked_polynomials (mark_space g.F.Field.field c.args.space.now) _ _ c.requires.space

pub is_power-requires-clause-count : goal.is_power-requires-clause-count
is_power-requires-clause-count g c =
    ap length c.as_slice.ensures.value
    ∙ images_count (mark_space g.F.Field.field c.args.space.now) _ _ c.requires.space c.in_ok-images.images.items c.args.theta.now (record { polys = c.in_ok-images.ensures.polys; are = c.in_ok-images.ensures.are }) c.requires.marks

pub is_power-requires-clause-images : goal.is_power-requires-clause-images
is_power-requires-clause-images g c =
    let S = mark_space g.F.Field.field c.args.space.now in
    subst (AreLow S) (sym c.as_slice.ensures.value)
    (images_low S _ _ c.requires.space c.in_ok-images.images.items c.args.theta.now (record { polys = c.in_ok-images.ensures.polys; are = c.in_ok-images.ensures.are }) c.requires.theta)

pub is_power-requires-clause-power : goal.is_power-requires-clause-power
is_power-requires-clause-power g c =
    let S = mark_space g.F.Field.field c.args.space.now in
    subst (IsLowPower S) (sym c.index-powers-place.is) (c.requires.powers c.loop-i.i c.index-powers-place.result (omega (arith, c.requires.count)))

pub returns-then-not-branch-clause-none : goal.returns-then-not-branch-clause-none
returns-then-not-branch-clause-none g c =
    let S = mark_space g.F.Field.field c.args.space.now in
    let n = c.args.space.now.order.vars in
    let θ = vectors_of S (λ m. m) c.args.theta.now in
    let are = ap (vectors_of S (λ m. m)) c.as_slice.ensures.value ∙ c.in_ok-images.ensures.are in
    let exact = c.in_ok-is_power.ensures.exact θ are in
    let below : c.loop-i.i < length c.args.powers.now = omega (arith, c.requires.count) in
    let fails = λ (h : IsPowerAt S.field n θ (powers_of S c.args.powers.now) c.loop-i.i).
    let yes = exact.1 (at_power S n θ c.args.powers.now c.loop-i.i c.index-powers-place.result below c.index-powers-place.is h) in
    let no = c.if-not-branch.true in
    absurd {A = ⊥} cc in
    (λ e. absurd cc, λ h. absurd (not_finite S n θ c.args.powers.now c.loop-i.i c.loop-i-test.true fails h))

pub loop-i-preserved : goal.loop-i-preserved
loop-i-preserved g c =
    let S = mark_space g.F.Field.field c.args.space.now in
    let n = c.args.space.now.order.vars in
    let θ = vectors_of S (λ m. m) c.args.theta.now in
    let are = ap (vectors_of S (λ m. m)) c.as_slice.ensures.value ∙ c.in_ok-images.ensures.are in
    let exact = c.in_ok-is_power.ensures.exact θ are in
    let below : c.loop-i.i < length c.args.powers.now = omega (arith, c.requires.count) in
    one_more S n θ c.args.powers.now c.loop-i.i (power_at S n θ c.args.powers.now c.loop-i.i c.index-powers-place.result below c.index-powers-place.is (exact.0 c.if-not-branch.false)) c.loop-i.invariant

pub returns-clause-none : goal.returns-clause-none
returns-clause-none g c =
    let S = mark_space g.F.Field.field c.args.space.now in
    let finite = all_powers S c.args.space.now.order.vars (vectors_of S (λ m. m) c.args.theta.now) c.args.powers.now c.loop-i.i c.requires.count c.loop-i-test.false c.loop-i.invariant in
    (λ e. finite, λ h. refl)
