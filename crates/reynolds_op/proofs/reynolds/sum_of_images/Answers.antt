use Rattle.reynolds_op.proofs.Common.{◌≡◌, [], ℕ, List, ap, subst, sym, ◌∙◌, over, entries, Fits, vec, vec_nothing, size, vector_given}
use Rattle.reynolds_op.proofs.AverageSteps.{sum_step, acts_at}
use Rattle.reynolds_op.proofs.reynolds.sum_of_images.Goals as goal

pub loop-i-init : goal.loop-i-init
loop-i-init g c =
    let S = over g.F.Field.field g.O.TermOrder.order c.args.space.now in
    let exps = λ (m : List ℕ). m in
    let none : c.zero-sum.result ≡ [] = c.zero-sum.ensures.is in
    vector_given S exps _ _ (subst (λ l. Fits S (entries exps l)) (sym none) tt) (ap (λ l. vec S.field (entries exps l)) none ∙ vec_nothing S.field)

pub act-requires-clause-matrix : goal.act-requires-clause-matrix
act-requires-clause-matrix g c =
    let S = over g.F.Field.field g.O.TermOrder.order c.args.space.now in
    acts_at S c.args.elements.now c.loop-i.i c.index-elements-i.result c.loop-i-test.true c.index-elements-i.is c.requires.matrices

pub loop-i-preserved : goal.loop-i-preserved
loop-i-preserved g c =
    let S = over g.F.Field.field g.O.TermOrder.order c.args.space.now in
    let sum = c.in_ok-sum.ensures.sum in
    let was = c.loop-i.invariant in
    vector_given S (λ (m : List ℕ). m) _ _ sum.fits (sum_step S.field (size c.args.elements.now) c.loop-i.i c.args.elements.now c.index-elements-i.result _ _ _ _ c.loop-i-test.true c.index-elements-i.is c.requires.matrices.square was.is c.in_ok-image.ensures.image.is sum.is)
