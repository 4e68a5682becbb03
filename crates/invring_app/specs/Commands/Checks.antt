-- How `check` and `show` end at a certificate.
--
--   IsRejection l c a i         the check of c under the limits l fails at the condition with the number a, at the item i
--   IsCheckBound l c f          it stops at the bound f
--   verdict_line v              the line of a verdict
--   IsCheckRejected l c a i text    it fails there, and the text is the line that says so
--   IsCheckAnswer l c text      the certificate is accepted, and the text is the line that says so
--   shown_line title c fs       the title and the polynomials fs in the variables of c, with commas between them, and a newline
--   shown_text c                these lines of the primary invariants, of the secondary invariants, and of the irreducible generators
--   shown_where v c             that text where the verdict v accepts c, else none
--   IsShowRejected l c a i text     it fails there, and there is no text
--   IsShowAnswer l c text       the certificate is accepted, and the text is that
use Rattle.std.specs.Prelude.{◌≡◌, ◌+◌, ℕ, List, [], ◌++◌, codes, map}
use Rattle.alg_core.specs.Spaces.{entries}
use Rattle.alg_core.specs.declared.limits.Limits.{Limits}
use Rattle.alg_core.specs.declared.term.Term.{Term}
use Rattle.certificate_io.specs.Certificates.{CertificateOf}
use Rattle.certificate_io.specs.Conditions.{plain}
use Rattle.certificate_io.specs.Spaces.{plain_names}
use Rattle.cert_check.specs.Conditions.{Condition, number}
use Rattle.cert_check.specs.Work.{GroupStop, RankStop, IsAccepted, IsRejectedAt, IsStoppedAt, IsTermStop}
use Rattle.cert_check.specs.declared.verdict.Verdict.{Verdict}
use Rattle.cert_check.specs.declared.verdict.Verdict.TheVariants.{Accepted, Rejected}
use Rattle.invring_app.specs.declared.status.BoundFault.{BoundFault}
use Rattle.invring_app.specs.declared.status.BoundFault.TheVariants.{TermBound, GroupBound, NoPrimary, BasisBound, RankBound, TextBound}
use Rattle.invring_app.specs.ErrorLines.{line_of, verdict_pieces}
use Rattle.invring_app.specs.Lines.{listed_line}

abbrev pub IsRejection : Limits → CertificateOf ℕ → ℕ → ℕ → Type 0
IsRejection l c a i = (x : Condition) × (a ≡ number x) × IsRejectedAt c l x i

abbrev pub IsCheckBound : Limits → CertificateOf ℕ → BoundFault → Type 0
IsCheckBound l c (TermBound degree count) = IsTermStop c l degree count
IsCheckBound l c (GroupBound counted) = (counted ≡ l.max_order + 1) × IsStoppedAt c l GroupStop
IsCheckBound l c (NoPrimary found degree) = ⊥
IsCheckBound l c (BasisBound which vector degree) = ⊥
IsCheckBound l c (RankBound counted) = (counted ≡ l.max_rank + 1) × IsStoppedAt c l RankStop
IsCheckBound l c (TextBound bytes) = ⊥

abbrev pub verdict_line : Verdict → List ℕ
verdict_line v = line_of (verdict_pieces v)

abbrev pub IsCheckRejected : Limits → CertificateOf ℕ → ℕ → ℕ → List ℕ → Type 0
IsCheckRejected l c a i text = IsRejection l c a i × (text ≡ verdict_line (Rejected a i))

abbrev pub IsCheckAnswer : Limits → CertificateOf ℕ → List ℕ → Type 0
IsCheckAnswer l c text = IsAccepted c l × (text ≡ verdict_line Accepted)

abbrev pub shown_line : List ℕ → CertificateOf ℕ → List (List (Term ℕ (List ℕ))) → List ℕ
shown_line title c fs = listed_line title (plain c) (plain_names c.names) (map (entries (λ m. m)) fs)

abbrev pub shown_text : CertificateOf ℕ → List ℕ
shown_text c = shown_line (codes "P=") c c.primaries ++ shown_line (codes "S=") c c.secondaries ++ shown_line (codes "IS=") c c.irreducibles

abbrev pub shown_where : Verdict → CertificateOf ℕ → List ℕ
shown_where Accepted c = shown_text c
shown_where (Rejected condition item) c = []

abbrev pub IsShowRejected : Limits → CertificateOf ℕ → ℕ → ℕ → List ℕ → Type 0
IsShowRejected l c a i text = IsRejection l c a i × (text ≡ [])

abbrev pub IsShowAnswer : Limits → CertificateOf ℕ → List ℕ → Type 0
IsShowAnswer l c text = IsAccepted c l × (text ≡ shown_text c)
