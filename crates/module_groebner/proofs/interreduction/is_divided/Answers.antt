use Rattle.std.proofs.Common.{refl, subst}
use Rattle.alg_core.specs.Keys.{key}
use Rattle.alg_core.specs.Spaces.{over, place}
use Rattle.poly_module.specs.SpaceVectors.{vector_of, vectors_of}
use Rattle.module_groebner.specs.Interreductions.{IsDividedIn}
use Rattle.module_groebner.proofs.InterreductionSteps.{divided_by, not_divided}
use Rattle.module_groebner.proofs.ReductionSteps.{same_lead}
use Rattle.module_groebner.proofs.interreduction.is_divided.Goals as goal

pub returns-in-None-clause-no : goal.returns-in-None-clause-no
returns-in-None-clause-no g c =
    let S = over g.F.Field.field g.O.TermOrder.order c.args.space.now in
    let p = key (place (λ m. m) c.leading_term-lead.result.now.at) in
    λ _ t l. subst (λ u. ¬ IsDividedIn S (vectors_of S (λ m. m) c.args.list.now) u) (same_lead S (vector_of S (λ m. m) c.args.v.now) p t c.leading_term-lead.ensures.lead l)
    (not_divided S (λ m. m) c.args.list.now p (c.in-None.ensures.none refl))

pub returns-in-Some-clause-yes : goal.returns-in-Some-clause-yes
returns-in-Some-clause-yes g c =
    let S = over g.F.Field.field g.O.TermOrder.order c.args.space.now in
    let p = key (place (λ m. m) c.leading_term-lead.result.now.at) in
    λ _ t l. subst (IsDividedIn S (vectors_of S (λ m. m) c.args.list.now)) (same_lead S (vector_of S (λ m. m) c.args.v.now) p t c.leading_term-lead.ensures.lead l)
    (divided_by S (λ m. m) c.args.list.now _ p c.in-Some.ensures.within c.in-Some.ensures.some)
