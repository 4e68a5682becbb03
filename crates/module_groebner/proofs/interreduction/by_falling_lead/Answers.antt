use Rattle.std.proofs.Common.{◌≡◌, ◌∙◌, ap, sym, subst, arith}
use Rattle.alg_core.specs.Lists.{In}
use Rattle.alg_core.specs.Spaces.{over}
use Rattle.alg_core.specs.SpaceOrder.{key_order}
use Rattle.alg_core.specs.Vectors.{vec, zero_vector}
use Rattle.poly_module.specs.Modules.{LeadBy, listed}
use Rattle.poly_module.specs.SpaceVectors.{vector_of, vectors_of}
use Rattle.module_groebner.proofs.DivisionSteps.{member_has, listed_at}
use Rattle.module_groebner.proofs.Families.{listed_in, length_map}
use Rattle.module_groebner.proofs.InterreductionSteps.{leads_more, leads_all, from_more}
use Rattle.module_groebner.proofs.interreduction.by_falling_lead.Goals as goal

pub insert_by_lead-requires-clause-not_zero : goal.insert_by_lead-requires-clause-not_zero
insert_by_lead-requires-clause-not_zero g c =
    let S = over g.F.Field.field g.O.TermOrder.order c.args.space.now in
    λ z. member_has S (λ m. m) (λ u. ¬ (u ≡ zero_vector S.field)) c.args.members.now c.loop-i.i c.index-members-i.result c.loop-i-test.true c.index-members-i.is c.requires.nonzero
    (sym (ap (vec S.field) c.in_ok-member.ensures.same) ∙ z)

pub loop-i-preserved : goal.loop-i-preserved
loop-i-preserved g c =
    let S = over g.F.Field.field g.O.TermOrder.order c.args.space.now in
    let vs = vectors_of S (λ m. m) c.args.members.now in
    let v = vector_of S (λ m. m) c.in_ok-member.member in
    let same : v ≡ listed S.field vs c.loop-i.i = ap (vec S.field) c.in_ok-member.ensures.same ∙ listed_at S (λ m. m) c.args.members.now c.loop-i.i c.index-members-i.result c.loop-i-test.true c.index-members-i.is in
    let e = c.in_ok-insert_by_lead.ensures in
    let inv = c.loop-i.invariant in
    let low = length_map (vector_of S (λ m. m)) c.args.members.now in
    let test = c.loop-i-test.true in (
      e.list,
      e.nonzero,
      e.falling,
      from_more S (λ w. In w vs) (vectors_of S (λ m. m) c.loop-i.falling.items) _ v e.from (subst (λ u. In u vs) (sym same) (listed_in S.field vs c.loop-i.i (omega arith))) inv.3,
      leads_more S (listed S.field vs) (vectors_of S (λ m. m) c.loop-i.falling.items) _ c.loop-i.i e.kept (λ s l. e.lead s (subst (λ u. LeadBy S.field (key_order S) u s) (sym same) l)) inv.4,
    )

pub returns-clause-leads : goal.returns-clause-leads
returns-clause-leads g c =
    let S = over g.F.Field.field g.O.TermOrder.order c.args.space.now in
    let low = length_map (vector_of S (λ m. m)) c.args.members.now in
    leads_all S (vectors_of S (λ m. m) c.args.members.now) _ c.loop-i.i (omega arith) c.loop-i.invariant.4
