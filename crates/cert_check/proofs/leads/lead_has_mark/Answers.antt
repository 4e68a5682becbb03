use Rattle.std.proofs.Common.{refl}
use Rattle.finite_certificate.specs.MarkSpaces.{mark_space}
use Rattle.cert_check.proofs.CheckedLifts.{zero_lead, lead_exact}
use Rattle.cert_check.proofs.leads.lead_has_mark.Goals as goal

pub returns-in-None : goal.returns-in-None
returns-in-None g c = record {
  exact = (λ e. absurd cc, λ h. absurd (zero_lead (mark_space g.F.Field.field c.args.space.now) c.args.space.now.order.vars c.args.f.now (c.in-None.ensures.none.0 refl) h));
}

pub returns-in-Some : goal.returns-in-Some
returns-in-Some g c = record {
  exact = lead_exact (mark_space g.F.Field.field c.args.space.now) c.args.space.now.order.vars c.args.f.now c.in-Some.term.now c.has_mark.result c.in-Some.ensures.lead c.has_mark.ensures.exact;
}
