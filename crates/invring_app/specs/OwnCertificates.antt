-- The certificates that `ring` writes, as `check` finds them.
--
--   IsAcceptedText l text   the text is that of a certificate at which the check under the limits l meets no bound, and each condition
--                           holds
--   HasShortLists c         no list of primary invariants, of secondary invariants, or of irreducible generators has more than 99999
--                           members: the index of a mark has at most 5 digits
use Rattle.std.specs.Prelude.{◌≡◌, ◌≤◌, ℕ, List, length}
use Rattle.alg_core.specs.declared.limits.Limits.{Limits}
use Rattle.certificate_io.specs.Certificates.{CertificateOf}
use Rattle.certificate_io.specs.Texts.{certificate_text}
use Rattle.cert_check.specs.Work.{IsAccepted}

pub record IsAcceptedText (l : Limits) (text : List ℕ) : Type 0 where
  pub certificate : CertificateOf ℕ
  pub is_text : text ≡ certificate_text certificate
  pub accepted : IsAccepted certificate l

pub record HasShortLists (c : CertificateOf ℕ) : Type 0 where
  pub primaries : length c.primaries ≤ 99999
  pub secondaries : length c.secondaries ≤ 99999
  pub irreducibles : length c.irreducibles ≤ 99999
