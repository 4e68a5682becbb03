use Rattle.std.proofs.Common.{◌≡◌}
use Rattle.alg_core.specs.Fields.{Has}
use Rattle.alg_core.specs.Spaces.{over}
use Rattle.alg_core.specs.Vectors.{zero_vector}
use Rattle.poly_module.specs.SpaceVectors.{vector_of, vectors_of}
use Rattle.module_groebner.specs.HomogeneousLists.{cap_limit}
use Rattle.module_groebner.proofs.CriterionSteps.{are_homogeneous}
use Rattle.module_groebner.proofs.DivisionSteps.{member_has}
use Rattle.module_groebner.proofs.InterreductionSteps.{tail_up_to, tail_done}
use Rattle.module_groebner.proofs.ReductionSteps.{inverse_of}
use Rattle.module_groebner.proofs.interreduction.tail_reduced.Goals as goal

pub leading_term-lead-requires-clause-not_zero : goal.leading_term-lead-requires-clause-not_zero
leading_term-lead-requires-clause-not_zero g c =
    let S = over g.F.Field.field g.O.TermOrder.order c.args.space.now in
    member_has S (λ m. m) (λ u. ¬ (u ≡ zero_vector S.field)) c.args.members.now c.args.i c.index-members-i.result c.requires.within c.index-members-i.is c.requires.nonzero

pub divide-requires-clause-degree : goal.divide-requires-clause-degree
divide-requires-clause-degree g c =
    let S = over g.F.Field.field g.O.TermOrder.order c.args.space.now in
    tail_up_to S (λ m. m) c.requires.positive.weights c.args.members.now c.requires.homogeneous c.args.i c.index-members-i.result c.requires.within c.index-members-i.is c.leading_term-lead.result.now
    c.leading_term-lead.ensures.lead c.leading_term-lead.ensures.coefficient (vector_of S (λ m. m) c.in_ok-first.first) (vector_of S (λ m. m) c.in_ok-tail.tail) c.in_ok-first.ensures.sum.is c.in_ok-tail.ensures.difference.is

pub divide-requires-clause-homogeneous : goal.divide-requires-clause-homogeneous
divide-requires-clause-homogeneous g c =
    let S = over g.F.Field.field g.O.TermOrder.order c.args.space.now in
    are_homogeneous S (λ m. m) cap_limit (vectors_of S (λ m. m) c.args.members.now) c.requires.homogeneous

pub returns-clause-reduced : goal.returns-clause-reduced
returns-clause-reduced g c =
    let S = over g.F.Field.field g.O.TermOrder.order c.args.space.now in
    let b = c.leading_term-lead.result.now.coef in
    let i = inverse_of (λ i. Has S.field i × (S.field.mul b i ≡ S.field.one)) c.inv.result c.unwrap-inverse.result c.inv.ensures.some c.unwrap-inverse.ensures in
    tail_done S (λ m. m) c.requires.positive.weights c.args.members.now c.requires.homogeneous c.args.i c.index-members-i.result c.requires.within c.index-members-i.is c.leading_term-lead.result.now
    c.leading_term-lead.ensures.lead c.leading_term-lead.ensures.coefficient (vector_of S (λ m. m) c.in_ok-first.first) (vector_of S (λ m. m) c.in_ok-tail.tail) c.in_ok-first.ensures.sum.is c.in_ok-tail.ensures.difference.is
    _ _ _ c.unwrap-inverse.result c.in_ok-remainder.ensures.remainder c.in_ok-remainder.ensures.degrees c.in_ok-whole.ensures.sum.is c.leading_term-lead.ensures.term.has i.0 i.1 c.in_ok-monic.ensures.multiple.is
