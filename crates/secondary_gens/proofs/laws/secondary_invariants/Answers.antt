use Rattle.alg_core.specs.Spaces.{over}
use Rattle.secondary_gens.proofs.SecondaryDegrees.{secondaries_irredundant, secondaries_rise, secondaries_fixed_not_zero}
use Rattle.secondary_gens.proofs.SecondaryLaws.{secondaries_complete, secondaries_unique}
use Rattle.secondary_gens.proofs.laws.secondary_invariants.Goals as goal

pub returns-clause-complete : goal.returns-clause-complete
returns-clause-complete g c =
    let S = over g.F.Field.field g.O.TermOrder.order c.args._space.now in
    λ gens square θ T h. secondaries_complete S gens θ T h square

pub returns-clause-unique : goal.returns-clause-unique
returns-clause-unique g c =
    let S = over g.F.Field.field g.O.TermOrder.order c.args._space.now in
    λ gens θ T U h other. secondaries_unique S gens θ T U h other

pub returns-clause-irredundant : goal.returns-clause-irredundant
returns-clause-irredundant g c =
    let S = over g.F.Field.field g.O.TermOrder.order c.args._space.now in
    λ gens θ T h ds primaries positive. secondaries_irredundant S gens θ T h ds primaries positive

pub returns-clause-rise : goal.returns-clause-rise
returns-clause-rise g c =
    let S = over g.F.Field.field g.O.TermOrder.order c.args._space.now in
    λ gens θ T h. let r = secondaries_rise S gens θ T h in (r.degrees, r.forms, r.rise)

pub returns-clause-member : goal.returns-clause-member
returns-clause-member g c =
    let S = over g.F.Field.field g.O.TermOrder.order c.args._space.now in
    λ gens θ T h v i. secondaries_fixed_not_zero S gens θ T h v i
