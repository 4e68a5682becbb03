-- Laws of the texts of certificates: each is the clause of a public function with an empty body.
--
--   LinesAreOne            a text has one list of lines
--   CertificatesAreOne     certificates with one text are the same
--   PrintedAreTexts        the text of a certificate that meets the conditions is one of the grammar, and its values have no fault
use Rattle.std.specs.Prelude.{◌≡◌, ℕ, List, None}
use Rattle.certificate_io.specs.Certificates.{CertificateOf}
use Rattle.certificate_io.specs.Conditions.{IsCertificate}
use Rattle.certificate_io.specs.Syntax.{LineTree, IsText}
use Rattle.certificate_io.specs.Texts.{certificate_text}
use Rattle.certificate_io.specs.Values.{nothing_seen, first_fault}

abbrev pub LinesAreOne : Type 0
LinesAreOne = (bytes : List ℕ) (ls ms : List LineTree) → IsText ls bytes → IsText ms bytes → ls ≡ ms

abbrev pub CertificatesAreOne : Type 0
CertificatesAreOne = (c d : CertificateOf ℕ) → IsCertificate c → IsCertificate d → certificate_text c ≡ certificate_text d → c ≡ d

abbrev pub PrintedAreTexts : Type 0
PrintedAreTexts =
    (c : CertificateOf ℕ) → IsCertificate c → (ls : List LineTree) × IsText ls (certificate_text c) × (first_fault 1 nothing_seen ls ≡ None)
