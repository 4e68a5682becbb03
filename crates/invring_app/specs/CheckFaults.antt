-- What a fault of `check` and `show` tells.
--
--   IsReadingTold bytes e   the fault e says that the bytes are too many, or are no text of a certificate that meets the conditions on
--                           values; or memory was refused
--   IsCheckTold l c e       the fault e says that the check of c stops at a bound; or memory was refused
--   IsVerdictOn l c v       the check of c under the limits l has the verdict v
--   IsVerdict l bytes v     the bytes are the text of a certificate whose check under the limits l has the verdict v
use Rattle.std.specs.Prelude.{ℕ, List}
use Rattle.alg_core.specs.declared.limits.Limits.{Limits}
use Rattle.certificate_io.specs.Certificates.{CertificateOf}
use Rattle.cert_check.specs.Work.{IsAccepted}
use Rattle.cert_check.specs.declared.verdict.Verdict.{Verdict}
use Rattle.cert_check.specs.declared.verdict.Verdict.TheVariants.{Accepted, Rejected}
use Rattle.invring_app.specs.declared.fault.Fault.{Fault}
use Rattle.invring_app.specs.declared.fault.Fault.TheVariants as faults
use Rattle.invring_app.specs.declared.reading.Kind.TheVariants.{Certificate}
use Rattle.invring_app.specs.Commands.Checks.{IsRejection, IsCheckBound}
use Rattle.invring_app.specs.Inputs.{IsRefused, IsTextOf, NoText, Faulty}

abbrev pub IsReadingTold : List ℕ → Fault → Type 0
IsReadingTold bytes (faults.Syntax p) = IsRefused Certificate bytes (NoText p)
IsReadingTold bytes (faults.Input f) = IsRefused Certificate bytes (Faulty f)
IsReadingTold bytes (faults.Bound f) = ⊥
IsReadingTold bytes faults.Memory = Unit {0}

abbrev pub IsCheckTold : Limits → CertificateOf ℕ → Fault → Type 0
IsCheckTold l c (faults.Syntax p) = ⊥
IsCheckTold l c (faults.Input f) = ⊥
IsCheckTold l c (faults.Bound f) = IsCheckBound l c f
IsCheckTold l c faults.Memory = Unit {0}

abbrev pub IsVerdictOn : Limits → CertificateOf ℕ → Verdict → Type 0
IsVerdictOn l c Accepted = IsAccepted c l
IsVerdictOn l c (Rejected condition item) = IsRejection l c condition item

abbrev pub IsVerdict : Limits → List ℕ → Verdict → Type 0
IsVerdict l bytes v = (c : CertificateOf ℕ) × IsTextOf bytes c × IsVerdictOn l c v
