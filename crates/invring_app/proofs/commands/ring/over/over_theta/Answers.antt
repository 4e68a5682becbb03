use Rattle.std.proofs.Common.{sym, subst}
use Rattle.poly_module.specs.SpaceVectors.{vectors_of}
use Rattle.finite_certificate.specs.Ideals.{Ended}
use Rattle.finite_certificate.specs.MarkSpaces.{mark_space}
use Rattle.groebner_hom.specs.Lifts.{AreUnmarkedLifts}
use Rattle.invring_app.specs.FoundPrimaries.{AreFoundOver}
use Rattle.invring_app.proofs.commands.ring.over.over_theta.Goals as goal

pub lifts_of-requires : goal.lifts_of-requires
lifts_of-requires g c =
    let S = mark_space g.F.Field.field c.args.space.now in
    record { found = subst (AreFoundOver S c.args.space.now.order.vars c.args.space.now.order.weights.items c.args.max_basis) (sym c.as_slice.ensures.value) c.requires.found }

pub powers-requires-clause-ended : goal.powers-requires-clause-ended
powers-requires-clause-ended g c =
    let S = mark_space g.F.Field.field c.args.space.now in
    subst (λ ps. Ended S.field c.args.space.now.order.vars (vectors_of S (λ m. m) ps)) (sym c.as_slice-2.ensures.value) c.requires.found.ended

pub powers-requires-clause-lifts : goal.powers-requires-clause-lifts
powers-requires-clause-lifts g c =
    let S = mark_space g.F.Field.field c.args.space.now in
    let n = c.args.space.now.order.vars in
    let x = vectors_of S (λ m. m) in
    let is = subst (λ ps. AreUnmarkedLifts S n (x ps) c.in_ok-lifts.lifts.items) c.as_slice.ensures.value c.in_ok-lifts.ensures.lifts in
    subst (AreUnmarkedLifts S n (x c.as_slice-2.result.now)) (sym c.as_slice-3.ensures.value)
    (subst (λ ps. AreUnmarkedLifts S n (x ps) c.in_ok-lifts.lifts.items) (sym c.as_slice-2.ensures.value) is)

pub new-requires-clause-given : goal.new-requires-clause-given
new-requires-clause-given g c =
    let S = mark_space g.F.Field.field c.args.space.now in
    let found = c.requires.found in
    record {
      positive = found.positive;
      space = found.space;
      theta = found.low;
      forms = found.forms;
      lifts = subst (λ ps. AreUnmarkedLifts S c.args.space.now.order.vars (vectors_of S (λ m. m) ps) c.in_ok-lifts.lifts.items) c.as_slice.ensures.value c.in_ok-lifts.ensures.lifts;
      powers = c.in_ok-lifts.ensures.powers;
    }
