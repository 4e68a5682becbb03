use Rattle.alg_core.specs.Spaces.{entries}
use Rattle.poly_module.specs.SpaceVectors.{vectors_of}
use Rattle.finite_certificate.specs.MarkSpaces.{mark_space}
use Rattle.finite_certificate.specs.Finiteness.{powers_of}
use Rattle.finite_certificate.specs.Spreading.{exponents_of}
use Rattle.finite_certificate.proofs.SpreadSteps.{IsSpreadOf, most_rounds}
use Rattle.finite_certificate.proofs.spreading.spread.Given as goal

abbrev pub invariant-rounds : goal.invariant-rounds
invariant-rounds g l = let S = mark_space g.F.Field.field l.space in IsSpreadOf S l.space.order.vars (vectors_of S (λ m. m) l.theta) l.f l.form

abbrev pub decreases-rounds : goal.decreases-rounds
decreases-rounds g l = let S = mark_space g.F.Field.field l.space in
    most_rounds l.space.order.vars (exponents_of S.field (powers_of S l.powers)) (entries (λ m. m) l.form)
