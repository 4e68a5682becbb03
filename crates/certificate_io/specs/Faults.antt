-- Faults of certificates' texts.
--
--   IsSyntaxFault bytes e  the first line that leaves the grammar; or want of memory
--   IsCertFault bytes e    the first line that leaves the grammar, or the first line of a text at which a condition fails; or want of
--                          memory
--   IsRead view result c   the certificate c is read, or memory is wanting
use Rattle.std.specs.Prelude.{◌≡◌, ℕ, List, Some, Result, Ok, Err}
use Rattle.certificate_io.specs.Certificates.{CertificateOf}
use Rattle.certificate_io.specs.Syntax.{LineTree, IsText, IsFirstFault}
use Rattle.certificate_io.specs.Values.{nothing_seen, first_fault}
use Rattle.certificate_io.specs.declared.fault.CertFault.{CertFault}
use Rattle.certificate_io.specs.declared.fault.CertFault.TheVariants as faults

abbrev pub IsSyntaxFault : List ℕ → CertFault → Type 0
IsSyntaxFault bytes (faults.Syntax line) = IsFirstFault bytes line
IsSyntaxFault bytes (faults.Value line kind) = ⊥
IsSyntaxFault bytes faults.Memory = Unit {0}

abbrev pub IsCertFault : List ℕ → CertFault → Type 0
IsCertFault bytes (faults.Syntax line) = IsFirstFault bytes line
IsCertFault bytes (faults.Value line kind) =
    (ls : List LineTree) × IsText ls bytes × (first_fault 1 nothing_seen ls ≡ Some (line, kind))
IsCertFault bytes faults.Memory = Unit {0}

abbrev pub IsRead : {C : Type 0} → (C → CertificateOf ℕ) → Result C CertFault → CertificateOf ℕ → Type 0
IsRead view (Ok d) c = view d ≡ c
IsRead view (Err e) c = e ≡ faults.Memory
