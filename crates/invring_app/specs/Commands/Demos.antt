-- How `demo` ends: it reads nothing, and does what `ring` does at a problem of its own.
--
--   IsDemoBound k l f       f is the first bound that `ring` meets at the problem of k exchanged pairs of variables
--   IsDemoAnswer k l text   it meets none, and the text is the summary of the certificate of that problem
use Rattle.std.specs.Prelude.{◌≡◌, ◌≤◌, ℕ, List, length}
use Rattle.alg_core.specs.declared.limits.Limits.{Limits}
use Rattle.finvar_text.specs.Demos.{demo_problem}
use Rattle.certificate_io.specs.Certificates.{CertificateOf}
use Rattle.certificate_io.specs.Texts.{certificate_text}
use Rattle.invring_app.specs.declared.status.BoundFault.{BoundFault}
use Rattle.invring_app.specs.Commands.Rings.{IsCertificateOf, IsKept, IsRingBound}
use Rattle.invring_app.specs.Summaries.{summary_text}

abbrev pub IsDemoBound : ℕ → Limits → BoundFault → Type 0
IsDemoBound k l f = IsRingBound l (demo_problem k) f

pub record IsDemoAnswer (k : ℕ) (l : Limits) (text : List ℕ) : Type 0 where
  pub kept : IsKept (demo_problem k) l
  pub certificate : CertificateOf ℕ
  pub of_problem : IsCertificateOf (demo_problem k) l.tries certificate
  pub short : length (certificate_text certificate) ≤ l.max_text
  pub is_text : text ≡ summary_text k certificate
