use Rattle.std.proofs.Common.{false, sym, subst, refl, arith}
use Rattle.std.specs.Prelude.{IsNone}
use Rattle.alg_core.specs.Spaces.{over, place}
use Rattle.poly_module.specs.SpaceVectors.{IsPoly}
use Rattle.groebner_hom.proofs.SecondParts.{not_true}
use Rattle.primary_search.proofs.LeadPowerSteps.{power_found, none_more, none_all, other_lead, no_lead}
use Rattle.primary_search.proofs.ended.has_power_lead.Goals as goal
use Rattle.primary_search.proofs.ended.has_power_lead.Goals.{in-Some+else-is_power, in_default}

pub returns-then-is_power : goal.returns-then-is_power
returns-then-is_power g c =
    let S = over g.F.Field.field g.O.TermOrder.order c.args.space.now in
    let p = c.index-basis-j.result in
    record {
      exact = (
        λ e. power_found S c.args.i c.args.basis.now c.loop-j.j p (place (λ m. m) c.in-Some.term.now.at) c.loop-j-test.true c.index-basis-j.is
            (subst (IsPoly S (λ m. m)) (sym c.index-basis-j.is) (c.requires.polynomials c.loop-j.j p c.loop-j-test.true)) c.in-Some.ensures.lead (c.is_power.ensures.exact.0 c.if-is_power.true),
        λ h. refl,
      );
    }

pub loop-j-preserved : goal.loop-j-preserved
loop-j-preserved g c =
    let S = over g.F.Field.field g.O.TermOrder.order c.args.space.now in
    let p = c.index-basis-j.result in
    none_more S c.args.i c.args.basis.now c.loop-j.j p c.loop-j-test.true c.index-basis-j.is
    (elim c.match-lead.branch [
      | in-Some+else-is_power w ↦ other_lead S c.args.i p (place (λ m. m) w.in-Some.term.now.at) w.in-Some.ensures.lead (λ h. not_true w.is_power.result w.if-is_power.false (w.is_power.ensures.exact.1 h))
      | in_default w ↦ no_lead S c.args.i p (c.lead.ensures.none.0 (subst IsNone (sym w.in_default.is) refl))
    ])
    c.loop-j.invariant

pub returns : goal.returns
returns g c =
    let S = over g.F.Field.field g.O.TermOrder.order c.args.space.now in
    record { exact = (λ e. absurd (not_true false refl e), λ h. absurd (none_all S c.args.i c.args.basis.now c.loop-j.j (omega (arith, c.loop-j-test.false)) c.loop-j.invariant h)) }
