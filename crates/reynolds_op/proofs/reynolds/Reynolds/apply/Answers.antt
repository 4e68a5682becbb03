use Rattle.reynolds_op.proofs.Common.{◌≡◌, ℕ, List, ap₂, ap, subst, sym, ◌∙◌, over, scale, size, cells_of, vector_of, sum_over, ActTogether, vector_given, poly_given}
use Rattle.reynolds_op.proofs.AverageSteps.{together}
use Rattle.reynolds_op.proofs.AverageLaws.{average_polynomial}
use Rattle.reynolds_op.proofs.reynolds.Reynolds.apply.Goals as goal

pub sum_of_images-requires-clause-matrices : goal.sum_of_images-requires-clause-matrices
sum_of_images-requires-clause-matrices g c =
    let S = over g.F.Field.field g.O.TermOrder.order c.args.space.now in
    let same : c.elements.result.now ≡ c.args.self.now.elements = cc in
    subst (ActTogether S) (sym same) (together S c.args.self.now c.requires.averaging)

pub returns : goal.returns
returns g c =
    let S = over g.F.Field.field g.O.TermOrder.order c.args.space.now in
    let exps = λ (m : List ℕ). m in
    let R = c.args.self.now in
    let same : c.elements.result.now ≡ R.elements = cc in
    let factor : c.self.inside.factor ≡ R.factor = cc in
    let u = vector_of S exps c.args.f.now in
    let multiple = c.in_ok-average.ensures.multiple in
    let is = multiple.is ∙ ap₂ (scale S.field) factor (c.in_ok-sum.ensures.sum.is ∙ ap (λ ms. sum_over S.field (size ms) (cells_of ms) u) same) in
    record { average = poly_given S exps _ _ (vector_given S exps _ _ multiple.fits is) (average_polynomial S.field (size R.elements) R.factor (cells_of R.elements) u) }
