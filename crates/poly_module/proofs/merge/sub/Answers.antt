use Rattle.alg_core.specs.Spaces.{over}
use Rattle.poly_module.proofs.SignedEntries.{minus_plus}
use Rattle.poly_module.proofs.SpaceVectorLaws.{vector_given, minus_unique}
use Rattle.poly_module.proofs.merge.sub.Goals as goal

pub returns : goal.returns
returns g c =
    let S = over g.F.Field.field g.O.TermOrder.order c.args.space.now in
    record { difference = vector_given S g.M.Monomial.exps _ _ c.in_ok-difference.ensures.fits (minus_unique S.field _ _ _ (minus_plus S _ _ _ c.requires.right c.in_ok-difference.ensures.sum)) }
