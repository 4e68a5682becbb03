use Rattle.std.proofs.Common.{◌≡◌, ◌<◌, ℕ, length, arith}
use Rattle.alg_core.specs.Spaces.{over}
use Rattle.alg_core.specs.Vectors.{zero_vector}
use Rattle.poly_module.specs.Modules.{listed}
use Rattle.poly_module.specs.SpaceVectors.{vector_of, vectors_of}
use Rattle.module_groebner.specs.Interreductions.{IsTailReduced}
use Rattle.module_groebner.proofs.Families.{listed_in, length_map, all_in}
use Rattle.module_groebner.proofs.InterreductionSteps.{lead_of, leads_more, leads_all, from_more}
use Rattle.module_groebner.proofs.ReductionSteps.{lead_not_zero}
use Rattle.module_groebner.proofs.interreduction.tails_reduced.Goals as goal

pub insert_by_lead-requires-clause-not_zero : goal.insert_by_lead-requires-clause-not_zero
insert_by_lead-requires-clause-not_zero g c =
    let S = over g.F.Field.field g.O.TermOrder.order c.args.space.now in
    let vs = vectors_of S (λ m. m) c.args.members.now in
    let low = length_map (vector_of S (λ m. m)) c.args.members.now in
    let test = c.loop-i-test.true in
    let l = lead_of S (listed S.field vs c.loop-i.i) (all_in (λ u. ¬ (u ≡ zero_vector S.field)) vs c.requires.nonzero (listed S.field vs c.loop-i.i) (listed_in S.field vs c.loop-i.i (omega arith))) in
    lead_not_zero S (vector_of S (λ m. m) c.in_ok-member.member) l.0 (c.in_ok-member.ensures.reduced.lead l.0 l.1)

pub loop-i-preserved : goal.loop-i-preserved
loop-i-preserved g c =
    let S = over g.F.Field.field g.O.TermOrder.order c.args.space.now in
    let vs = vectors_of S (λ m. m) c.args.members.now in
    let v = vector_of S (λ m. m) c.in_ok-member.member in
    let e = c.in_ok-insert_by_lead.ensures in
    let inv = c.loop-i.invariant in (
      e.list,
      e.nonzero,
      e.falling,
      from_more S (λ n. (j : ℕ) × (j < length c.args.members.now) × IsTailReduced S (listed S.field vs) (listed S.field vs j) n) (vectors_of S (λ m. m) c.loop-i.made.items) _ v e.from
          (c.loop-i.i, c.loop-i-test.true, c.in_ok-member.ensures.reduced) inv.3,
      leads_more S (listed S.field vs) (vectors_of S (λ m. m) c.loop-i.made.items) _ c.loop-i.i e.kept (λ s l. e.lead s (c.in_ok-member.ensures.reduced.lead s l)) inv.4,
    )

pub returns-clause-leads : goal.returns-clause-leads
returns-clause-leads g c =
    let S = over g.F.Field.field g.O.TermOrder.order c.args.space.now in
    let low = length_map (vector_of S (λ m. m)) c.args.members.now in
    leads_all S (vectors_of S (λ m. m) c.args.members.now) _ c.loop-i.i (omega arith) c.loop-i.invariant.4
