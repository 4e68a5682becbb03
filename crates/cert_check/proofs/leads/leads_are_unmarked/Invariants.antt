use Rattle.std.proofs.Common.{take}
use Rattle.std.specs.Prelude.{All}
use Rattle.finite_certificate.specs.MarkSpaces.{mark_space}
use Rattle.cert_check.proofs.CheckedLifts.{HasNoMarkedLead}
use Rattle.cert_check.proofs.leads.leads_are_unmarked.Given as goal

abbrev pub invariant-loop-i : goal.invariant-loop-i
invariant-loop-i g l = All (HasNoMarkedLead (mark_space g.F.Field.field l.space) l.space.order.vars) (take l.i l.fs)
