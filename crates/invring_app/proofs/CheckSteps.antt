-- What is answered of a certificate that was read.
use Rattle.std.proofs.Common.{◌≡◌, ℕ, ◌+◌, ◌≤◌, List, length}
use Rattle.std.specs.Prelude.{Result, Ok, Err}
use Rattle.alg_core.specs.declared.limits.Limits.{Limits}
use Rattle.certificate_io.specs.Certificates.{CertificateOf}
use Rattle.certificate_io.specs.Faults.{IsCertFault}
use Rattle.certificate_io.specs.declared.fault.CertFault.{CertFault}
use Rattle.certificate_io.specs.declared.fault.CertFault.TheVariants as certificates
use Rattle.cert_check.specs.Conditions.{Condition, number}
use Rattle.cert_check.specs.Work.{GroupStop, RankStop, IsAccepted, IsRejectedAt, IsStoppedAt, IsTermStop}
use Rattle.cert_check.specs.declared.verdict.CheckRefusal.{CheckRefusal}
use Rattle.cert_check.specs.declared.verdict.CheckRefusal.TheVariants as refusals
use Rattle.cert_check.specs.declared.verdict.Verdict.{Verdict}
use Rattle.cert_check.specs.declared.verdict.Verdict.TheVariants.{Accepted, Rejected}
use Rattle.invring_app.specs.declared.commands.Command.TheVariants.{Check, Show}
use Rattle.invring_app.specs.declared.fault.Fault.{Fault}
use Rattle.invring_app.specs.declared.fault.Fault.TheVariants as faults
use Rattle.invring_app.specs.Answers.{ending_of, IsAnswer, IsFault}
use Rattle.invring_app.specs.CheckFaults.{IsReadingTold, IsCheckTold, IsVerdictOn, IsVerdict}
use Rattle.invring_app.specs.Commands.Checks.{verdict_line, shown_where}
use Rattle.invring_app.specs.Faults.{fault_of_certificate, fault_of_check}
use Rattle.invring_app.specs.Inputs.{OfCertificate, IsTextOf, most_certificate}

pub reading_told : (bytes : List ℕ) (e : CertFault) → length bytes ≤ most_certificate → IsCertFault bytes e → IsReadingTold bytes (fault_of_certificate e)
reading_told bytes (certificates.Syntax line) short told = (short, told)
reading_told bytes (certificates.Value line kind) short told = (short, told)
reading_told bytes certificates.Memory short told = tt

module _ (l : Limits) (c : CertificateOf ℕ) (r : Result Verdict CheckRefusal) where
  pub check_told : ((counted : ℕ) → r ≡ Err (refusals.GroupBound counted) → (counted ≡ l.max_order + 1) × IsStoppedAt c l GroupStop)
      → ((counted : ℕ) → r ≡ Err (refusals.RankBound counted) → (counted ≡ l.max_rank + 1) × IsStoppedAt c l RankStop)
      → ((degree count : ℕ) → r ≡ Err (refusals.TermBound degree count) → IsTermStop c l degree count)
      → (e : CheckRefusal) → r ≡ Err e → IsCheckTold l c (fault_of_check e)
  check_told group rank terms (refusals.GroupBound counted) is = group counted is
  check_told group rank terms (refusals.RankBound counted) is = rank counted is
  check_told group rank terms (refusals.TermBound degree count) is = terms degree count is
  check_told group rank terms refusals.Memory is = tt

  pub verdict_is : (r ≡ Ok Accepted → IsAccepted c l)
      → ((condition item : ℕ) → r ≡ Ok (Rejected condition item) → (a : Condition) × (condition ≡ number a) × IsRejectedAt c l a item)
      → (v : Verdict) → r ≡ Ok v → IsVerdictOn l c v
  verdict_is accepted rejected Accepted is = accepted is
  verdict_is accepted rejected (Rejected condition item) is = rejected condition item is

module _ (l : Limits) (bytes : List ℕ) where
  -- what was read was refused
  pub check_refused : (e : Fault) → IsReadingTold bytes e → IsFault Check l bytes e
  check_refused (faults.Syntax p) told = told
  check_refused (faults.Input f) told = told
  check_refused (faults.Bound f) told = absurd told
  check_refused faults.Memory told = tt

  pub show_refused : (e : Fault) → IsReadingTold bytes e → IsFault Show l bytes e
  show_refused (faults.Syntax p) told = told
  show_refused (faults.Input f) told = told
  show_refused (faults.Bound f) told = absurd told
  show_refused faults.Memory told = tt

  module _ (c : CertificateOf ℕ) (text : IsTextOf bytes c) where
    -- the check met a bound
    pub check_stopped : (e : Fault) → IsCheckTold l c e → IsFault Check l bytes e
    check_stopped (faults.Syntax p) told = absurd told
    check_stopped (faults.Input f) told = absurd told
    check_stopped (faults.Bound f) told = (OfCertificate c, text, told)
    check_stopped faults.Memory told = tt

    pub show_stopped : (e : Fault) → IsCheckTold l c e → IsFault Show l bytes e
    show_stopped (faults.Syntax p) told = absurd told
    show_stopped (faults.Input f) told = absurd told
    show_stopped (faults.Bound f) told = (OfCertificate c, text, told)
    show_stopped faults.Memory told = tt

    pub verdict_shown : (v : Verdict) (out : List ℕ) → IsVerdictOn l c v → out ≡ shown_where v c → IsAnswer Show l bytes (ending_of v out)
    verdict_shown Accepted out is shown = (OfCertificate c, text, (is, shown))
    verdict_shown (Rejected condition item) out is shown = (OfCertificate c, text, (is, shown))

  pub verdict_answered : (v : Verdict) (out : List ℕ) → IsVerdict l bytes v → out ≡ verdict_line v → IsAnswer Check l bytes (ending_of v out)
  verdict_answered Accepted out is line = (OfCertificate is.0, is.1, (is.2, line))
  verdict_answered (Rejected condition item) out is line = (OfCertificate is.0, is.1, (is.2, line))
