use Rattle.std.proofs.Common.{sym, ap, subst, ◌∙◌, arith}
use Rattle.alg_core.specs.Spaces.{over, entries, Fits}
use Rattle.alg_core.specs.Vectors.{vec}
use Rattle.poly_module.proofs.PowerSteps.{power_small, power_more, powers_first, powers_next, powers_read}
use Rattle.poly_module.proofs.substitution.powers_of.Goals as goal

pub loop-i-init : goal.loop-i-init
loop-i-init g c =
    let S = over g.F.Field.field g.O.TermOrder.order c.args.space.now in
    let x = vec S.field (entries g.M.Monomial.exps c.args.image.now) in
    powers_first S g.M.Monomial.exps x c.new-values.result.items _ _ c.new-values.ensures.items c.in_ok-push.ensures.items (subst (Fits S) (sym c.in_ok-copy.ensures.same) c.requires.one.fits) (ap (vec S.field) c.in_ok-copy.ensures.same ∙ c.requires.one.is)

pub mul-requires-clause-room : goal.mul-requires-clause-room
mul-requires-clause-room g c =
    let S = over g.F.Field.field g.O.TermOrder.order c.args.space.now in
    let x = vec S.field (entries g.M.Monomial.exps c.args.image.now) in
    power_small S g.M.Monomial.exps _ c.args.last c.loop-i.i c.args.image.now c.index.result.now c.loop-i-test.true c.requires.small c.requires.image.position
    (powers_read S g.M.Monomial.exps x c.loop-i.values.items c.loop-i.i _ (omega (arith, c.loop-i.invariant.1)) c.index.ensures c.loop-i.invariant.0)

pub loop-i-preserved : goal.loop-i-preserved
loop-i-preserved g c =
    let S = over g.F.Field.field g.O.TermOrder.order c.args.space.now in
    let x = vec S.field (entries g.M.Monomial.exps c.args.image.now) in
    powers_next S g.M.Monomial.exps x c.loop-i.i c.loop-i.values.items _ _ c.in_ok-push-2.ensures.items c.loop-i.invariant c.in_ok-next.ensures.product.fits
    (power_more S g.M.Monomial.exps c.loop-i.i c.args.image.now c.index.result.now _ (powers_read S g.M.Monomial.exps x c.loop-i.values.items c.loop-i.i _ (omega (arith, c.loop-i.invariant.1)) c.index.ensures c.loop-i.invariant.0) c.in_ok-next.ensures.product.is)
