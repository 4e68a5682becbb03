use Rattle.std.proofs.Common.{◌≡◌, ◌<◌, ◌∙◌, length, sym, arith}
use Rattle.alg_core.specs.Keys.{key}
use Rattle.alg_core.specs.Spaces.{over, place}
use Rattle.alg_core.specs.Vectors.{zero_vector}
use Rattle.poly_module.specs.SpaceVectors.{vector_of, vectors_of}
use Rattle.module_groebner.specs.HomogeneousLists.{cap_limit, IsHomogeneousUpTo}
use Rattle.module_groebner.proofs.CriterionSteps.{up_to, are_homogeneous, s_up_to, apart_treated, zero_treated, other_bad, position_of, not_zero_or}
use Rattle.module_groebner.proofs.DivisionSteps.{member_has}
use Rattle.module_groebner.proofs.criterion.is_bad.Goals as goal

pub leading_term-a-requires-clause-not_zero : goal.leading_term-a-requires-clause-not_zero
leading_term-a-requires-clause-not_zero g c =
    let S = over g.F.Field.field g.O.TermOrder.order c.args.space.now in
    let hi : c.args.i < length c.args.list.now = omega (arith, c.requires.rising, c.requires.within) in
    member_has S (λ m. m) (λ v. ¬ (v ≡ zero_vector S.field)) c.args.list.now c.args.i c.index-list-i.result hi c.index-list-i.is c.requires.nonzero

pub leading_term-b-requires-clause-not_zero : goal.leading_term-b-requires-clause-not_zero
leading_term-b-requires-clause-not_zero g c =
    let S = over g.F.Field.field g.O.TermOrder.order c.args.space.now in
    member_has S (λ m. m) (λ v. ¬ (v ≡ zero_vector S.field)) c.args.list.now c.args.j c.index-list-j.result c.requires.within c.index-list-j.is c.requires.nonzero

pub returns-then-a-b-clause-good : goal.returns-then-a-b-clause-good
returns-then-a-b-clause-good g c =
    let S = over g.F.Field.field g.O.TermOrder.order c.args.space.now in
    let hi : c.args.i < length c.args.list.now = omega (arith, c.requires.rising, c.requires.within) in
    λ q. apart_treated S (λ m. m) c.args.list.now c.args.i c.args.j c.index-list-i.result c.index-list-j.result hi c.requires.within c.index-list-i.is c.index-list-j.is
    (place (λ m. m) c.leading_term-a.result.now.at) (place (λ m. m) c.leading_term-b.result.now.at) c.leading_term-a.ensures.lead c.leading_term-b.ensures.lead c.if-a-b.true

pub s_vector-requires-clause-left_degree : goal.s_vector-requires-clause-left_degree
s_vector-requires-clause-left_degree g c =
    let S = over g.F.Field.field g.O.TermOrder.order c.args.space.now in
    let hi : c.args.i < length c.args.list.now = omega (arith, c.requires.rising, c.requires.within) in
    up_to S (λ m. m) cap_limit (vector_of S (λ m. m) c.index-list-i.result) (member_has S (λ m. m) (IsHomogeneousUpTo S cap_limit) c.args.list.now c.args.i c.index-list-i.result hi c.index-list-i.is c.requires.homogeneous)

pub s_vector-requires-clause-right_degree : goal.s_vector-requires-clause-right_degree
s_vector-requires-clause-right_degree g c =
    let S = over g.F.Field.field g.O.TermOrder.order c.args.space.now in
    up_to S (λ m. m) cap_limit (vector_of S (λ m. m) c.index-list-j.result) (member_has S (λ m. m) (IsHomogeneousUpTo S cap_limit) c.args.list.now c.args.j c.index-list-j.result c.requires.within c.index-list-j.is c.requires.homogeneous)

pub s_vector-requires-clause-position : goal.s_vector-requires-clause-position
s_vector-requires-clause-position g c =
    let S = over g.F.Field.field g.O.TermOrder.order c.args.space.now in (
      key (place (λ m. m) c.leading_term-a.result.now.at),
      key (place (λ m. m) c.leading_term-b.result.now.at),
      c.leading_term-a.ensures.lead,
      c.leading_term-b.ensures.lead,
      position_of (place (λ m. m) c.leading_term-a.result.now.at) (place (λ m. m) c.leading_term-b.result.now.at) c.if-a-b.false,
    )

pub divide-requires-clause-degree : goal.divide-requires-clause-degree
divide-requires-clause-degree g c =
    let S = over g.F.Field.field g.O.TermOrder.order c.args.space.now in
    let hi : c.args.i < length c.args.list.now = omega (arith, c.requires.rising, c.requires.within) in
    s_up_to S (λ m. m) c.args.list.now c.args.i c.args.j c.index-list-i.result c.index-list-j.result hi c.requires.within c.index-list-i.is c.index-list-j.is c.requires.homogeneous _ c.in_ok-v.ensures.is

pub divide-requires-clause-homogeneous : goal.divide-requires-clause-homogeneous
divide-requires-clause-homogeneous g c =
    let S = over g.F.Field.field g.O.TermOrder.order c.args.space.now in
    are_homogeneous S (λ m. m) cap_limit (vectors_of S (λ m. m) c.args.list.now) c.requires.homogeneous

pub returns-clause-bad : goal.returns-clause-bad
returns-clause-bad g c =
    let S = over g.F.Field.field g.O.TermOrder.order c.args.space.now in
    let hi : c.args.i < length c.args.list.now = omega (arith, c.requires.rising, c.requires.within) in
    λ b. other_bad S (λ m. m) c.args.list.now c.args.i c.args.j c.index-list-i.result c.index-list-j.result hi c.requires.within c.index-list-i.is c.index-list-j.is _ _ c.in_ok-v.ensures.is c.in_ok-remainder.ensures.remainder c.requires.rising
    (λ z. not_zero_or _ (c.lead.ensures.none.1 z) c.is_some.result c.is_some.ensures b)

pub returns-clause-good : goal.returns-clause-good
returns-clause-good g c =
    let S = over g.F.Field.field g.O.TermOrder.order c.args.space.now in
    let hi : c.args.i < length c.args.list.now = omega (arith, c.requires.rising, c.requires.within) in
    λ b. zero_treated S (λ m. m) c.args.list.now c.args.i c.args.j c.index-list-i.result c.index-list-j.result hi c.requires.within c.index-list-i.is c.index-list-j.is _ _ c.in_ok-v.ensures.is c.in_ok-remainder.ensures.remainder
    (c.lead.ensures.none.0 (sym c.is_some.ensures ∙ b))
