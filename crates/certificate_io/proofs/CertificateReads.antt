-- What an answer to the values of a text tells of the text.
use Rattle.std.proofs.Common.{◌≡◌, ◌∙◌, ℕ, List, Some, None, Result, Ok, Err, refl, sym, ap, subst}
use Rattle.std.specs.Prelude.{IfErr, IfOk}
use Rattle.certificate_io.specs.Certificates.{CertificateOf}
use Rattle.certificate_io.specs.Conditions.{IsCertificate}
use Rattle.certificate_io.specs.Faults.{IsCertFault, IsRead}
use Rattle.certificate_io.specs.Parts.{TextParts, lines_in, parts_of}
use Rattle.certificate_io.specs.Readings.{AnswersFault}
use Rattle.certificate_io.specs.Syntax.{LineTree, IsText, spelling}
use Rattle.certificate_io.specs.Texts.{certificate_text}
use Rattle.certificate_io.specs.Values.{nothing_seen, first_fault}
use Rattle.certificate_io.specs.declared.fault.CertFault.{CertFault}
use Rattle.certificate_io.specs.declared.fault.CertFault.TheVariants as faults
use Rattle.certificate_io.proofs.CertificateParts.{certificates_are_one}
use Rattle.certificate_io.proofs.CertificateTrees.{certificate_spelled}
use Rattle.certificate_io.proofs.LineTrees.{lines_are_one}
use Rattle.certificate_io.proofs.PrintedParts.{printed_text, printed_passes}

-- a certificate with the parts of a text prints it
pub parts_print : (c : CertificateOf ℕ) (t : TextParts) (ls : List LineTree) (bytes : List ℕ) → parts_of c ≡ t → lines_in t ≡ ls → IsText ls bytes → certificate_text c ≡ bytes
parts_print c t ls bytes same lines is = sym (certificate_spelled c) ∙ ap (λ u. spelling (lines_in u)) same ∙ ap spelling lines ∙ is.spelled

-- a fault of the values of a text is one of it
pub fault_told : (ls : List LineTree) (bytes : List ℕ) (e : CertFault) → IsText ls bytes → AnswersFault e (first_fault 1 nothing_seen ls) → IsCertFault bytes e
fault_told ls bytes (faults.Syntax line) is h = absurd h
fault_told ls bytes (faults.Value line kind) is h = (ls, is, h)
fault_told ls bytes faults.Memory is h = tt

-- a certificate that prints the text is read, unless memory is refused
pub every_read : {C : Type 0} (view : C → CertificateOf ℕ) (bytes : List ℕ) (result : Result C CertFault) → IfOk result (λ d. IsCertificate (view d)) → IfOk result (λ d. certificate_text (view d) ≡ bytes) → IfErr result (IsCertFault bytes)
    → (c : CertificateOf ℕ) → IsCertificate c → certificate_text c ≡ bytes → IsRead view result c
every_read view bytes (Ok d) has prints fault c is same = certificates_are_one (view d) c has is (prints ∙ sym same)
every_read view bytes (Err e) has prints fault c is same = go e fault
  where
    text : IsText (lines_in (parts_of c)) bytes
    text = subst (IsText (lines_in (parts_of c))) same (printed_text c is)

    go : (e : CertFault) → IsCertFault bytes e → e ≡ faults.Memory
    go (faults.Syntax line) h = absurd (h.none (lines_in (parts_of c)) text)
    go (faults.Value line kind) h =
        let lines : h.0 ≡ lines_in (parts_of c) = lines_are_one bytes h.0 (lines_in (parts_of c)) h.1 text in
        let none : first_fault 1 nothing_seen h.0 ≡ None = ap (first_fault 1 nothing_seen) lines ∙ printed_passes c is in
        absurd (let bad : Some (line, kind) ≡ None = sym h.2 ∙ none in cc)
    go faults.Memory h = refl
