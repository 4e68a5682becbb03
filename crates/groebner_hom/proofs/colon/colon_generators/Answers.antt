use Rattle.std.proofs.Common.{sym, subst}
use Rattle.alg_core.specs.EliminationOrder.{elimination_order}
use Rattle.alg_core.specs.Spaces.{over}
use Rattle.poly_module.specs.SpaceVectors.{ArePlaced}
use Rattle.groebner_hom.proofs.ColonGenerators.{all_at, first_generator, next_generator, all_generators}
use Rattle.groebner_hom.proofs.colon.colon_generators.Goals as goal

pub make-requires : goal.make-requires
make-requires g c =
    let T = over g.F.Field.field (λ o. elimination_order o.first o.weights.items) c.args.pairs.now in
    record { given = subst (ArePlaced T (λ m. m)) (sym c.terms.ensures.is) (all_at (ArePlaced T (λ m. m)) c.args.theta.now c.loop-i.i c.index-theta-i.result c.requires.theta c.loop-i-test.true c.index-theta-i.is) }

pub loop-i-init : goal.loop-i-init
loop-i-init g c =
    let T = over g.F.Field.field (λ o. elimination_order o.first o.weights.items) c.args.pairs.now in
    first_generator T c.args.f.now c.in_ok-with_one.field-0 c.new-generators.result.items c.push.new.self.items c.args.theta.now c.new-generators.ensures.items c.in_ok-push.ensures.items c.in_ok-with_one.ensures.is

pub loop-i-preserved : goal.loop-i-preserved
loop-i-preserved g c =
    let T = over g.F.Field.field (λ o. elimination_order o.first o.weights.items) c.args.pairs.now in
    next_generator T c.args.f.now c.in_ok-make.field-0 c.index-theta-i.result c.terms.result.now c.args.theta.now c.loop-i.generators.items c.push-in-loop-i.new.self.items c.loop-i.i
    c.loop-i-test.true c.index-theta-i.is c.terms.ensures.is c.in_ok-make.ensures.sum c.in_ok-push-2.ensures.items c.loop-i.invariant

pub returns : goal.returns
returns g c =
    let T = over g.F.Field.field (λ o. elimination_order o.first o.weights.items) c.args.pairs.now in
    let h = all_generators T c.args.f.now c.args.theta.now c.loop-i.generators.items c.loop-i.i c.loop-i-test.false c.loop-i.invariant in
    record { fit = h.fit; are = h.are }
