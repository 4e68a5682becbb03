use Rattle.std.proofs.Common.{sym, subst, refl, arith}
use Rattle.std.specs.Prelude.{IsNone}
use Rattle.alg_core.specs.Keys.{key, KeyDivides}
use Rattle.alg_core.specs.Spaces.{over, place}
use Rattle.poly_module.specs.SpaceVectors.{vector_of}
use Rattle.module_groebner.proofs.DivisionSteps.{found, passed, nothing_found}
use Rattle.module_groebner.proofs.ReductionSteps.{same_lead, lead_not_zero, not_both}
use Rattle.module_groebner.proofs.division.divisor.Goals as goal
use Rattle.module_groebner.proofs.division.divisor.Goals.{in-Some+else-divides, in_default}

pub returns-then-divides-clause-some : goal.returns-then-divides-clause-some
returns-then-divides-clause-some g c =
    let S = over g.F.Field.field g.O.TermOrder.order c.args.space.now in
    found S (λ m. m) c.args.list.now c.loop-i.i c.index-list-i.result (key (place (λ m. m) c.in-Some.term.now.at)) (key (place (λ m. m) c.args.at.now)) c.loop-i-test.true c.index-list-i.is c.in-Some.ensures.lead (c.divides.ensures.is.0 c.if-divides.true)

pub loop-i-preserved : goal.loop-i-preserved
loop-i-preserved g c =
    let S = over g.F.Field.field g.O.TermOrder.order c.args.space.now in
    let t = key (place (λ m. m) c.args.at.now) in
    passed S (λ m. m) c.args.list.now c.loop-i.i c.index-list-i.result t c.loop-i-test.true c.index-list-i.is
    (elim c.match-lead.branch [
      | in-Some+else-divides w ↦ λ s l d. not_both _ (w.divides.ensures.is.1 (subst (λ x. KeyDivides x t) (same_lead S (vector_of S (λ m. m) c.index-list-i.result) _ _ l w.in-Some.ensures.lead) d)) w.if-divides.false
      | in_default w ↦ λ s l d. lead_not_zero S (vector_of S (λ m. m) c.index-list-i.result) s l (c.lead.ensures.none.0 (subst IsNone (sym w.in_default.is) refl))
    ])
    c.loop-i.invariant

pub returns-clause-none : goal.returns-clause-none
returns-clause-none g c =
    let S = over g.F.Field.field g.O.TermOrder.order c.args.space.now in
    λ n i s l d. nothing_found S (λ m. m) c.args.list.now c.loop-i.i (key (place (λ m. m) c.args.at.now)) (omega arith) c.loop-i.invariant i s l d
