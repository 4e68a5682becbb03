use Rattle.std.proofs.Common.{ap, ◌∙◌}
use Rattle.alg_core.specs.Vectors.{vec, plus}
use Rattle.alg_core.specs.Spaces.{over, entries}
use Rattle.poly_module.proofs.SignedEntries.{signed_plus}
use Rattle.poly_module.proofs.SpaceVectorLaws.{vector_given}
use Rattle.poly_module.proofs.merge.add.Goals as goal

pub returns : goal.returns
returns g c =
    let S = over g.F.Field.field g.O.TermOrder.order c.args.space.now in
    let exps = g.M.Monomial.exps in
    record { sum = vector_given S exps _ _ c.in_ok-sum.ensures.fits (c.in_ok-sum.ensures.sum ∙ ap (λ l. plus S.field (vec S.field (entries exps c.args.a.now)) (vec S.field l)) (signed_plus S.field (entries exps c.args.b.now))) }
