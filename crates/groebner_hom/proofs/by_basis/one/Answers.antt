use Rattle.std.proofs.Common.{◌∙◌}
use Rattle.alg_core.specs.Spaces.{over}
use Rattle.groebner_hom.proofs.InsideSteps.{one_poly, one_is}
use Rattle.groebner_hom.proofs.by_basis.one.Goals as goal

pub returns-clause-polynomial : goal.returns-clause-polynomial
returns-clause-polynomial g c =
    one_poly (over g.F.Field.field g.O.TermOrder.order c.args.space.now) c.one-coef.result c.in_ok-mono.mono c.len.result c.in_ok-made.made c.one-coef.ensures.is
    (c.in_ok-mono.ensures.is ∙ c.as_slice.ensures.value ∙ c.in_ok-zeros.ensures.items_if_clones_equal (λ y h. h)) c.in_ok-made.ensures.sum

pub returns-clause-is : goal.returns-clause-is
returns-clause-is g c =
    one_is (over g.F.Field.field g.O.TermOrder.order c.args.space.now) c.one-coef.result c.in_ok-mono.mono c.len.result c.in_ok-made.made c.one-coef.ensures.is
    (c.in_ok-mono.ensures.is ∙ c.as_slice.ensures.value ∙ c.in_ok-zeros.ensures.items_if_clones_equal (λ y h. h)) c.in_ok-made.ensures.sum
