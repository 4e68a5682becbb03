use Rattle.std.proofs.Common.{sym, refl, subst}
use Rattle.std.specs.Prelude.{All}
use Rattle.std.proofs.lemmas.List.{take_all}
use Rattle.alg_core.specs.Lists.{In}
use Rattle.finite_certificate.specs.MarkSpaces.{mark_space}
use Rattle.module_groebner.proofs.Families.{in_get}
use Rattle.cert_check.proofs.CheckedLifts.{HasNoMarkedLead, unmarked_more, leads_unmarked, marked_lead}
use Rattle.cert_check.proofs.leads.leads_are_unmarked.Goals as goal

pub returns-then-lead_has_mark : goal.returns-then-lead_has_mark
returns-then-lead_has_mark g c =
    let S = mark_space g.F.Field.field c.args.space.now in
    let f = c.index-fs-i.result in
    let inside = subst (λ x. In x c.args.fs.now) (sym c.index-fs-i.is) (in_get f c.args.fs.now c.loop-i.i c.loop-i-test.true) in
    record {
      exact = (
        λ e. absurd cc,
        λ h. absurd (marked_lead S c.args.space.now.order.vars c.args.fs.now f inside (c.if-lead_has_mark.ensures.exact.0 refl) h),
      );
    }

pub loop-i-preserved : goal.loop-i-preserved
loop-i-preserved g c =
    unmarked_more (mark_space g.F.Field.field c.args.space.now) c.args.space.now.order.vars c.args.fs.now c.loop-i.i c.index-fs-i.result c.loop-i-test.true c.index-fs-i.is
    (λ h. let e = c.if-lead_has_mark.ensures.exact.1 h in absurd cc) c.loop-i.invariant

pub returns : goal.returns
returns g c =
    let S = mark_space g.F.Field.field c.args.space.now in
    let n = c.args.space.now.order.vars in
    record { exact = (λ e. leads_unmarked S n c.args.fs.now (subst (All (HasNoMarkedLead S n)) (take_all c.loop-i.i c.args.fs.now c.loop-i-test.false) c.loop-i.invariant), λ h. refl) }
