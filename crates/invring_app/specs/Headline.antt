-- What a run of `ring` has written where it is done, and what a run of `check` or `show` has read.
--
--   WritesCertificate m l l' t t'   a source that had l left gave a script and has l' left; the certificate of its problem, with m tries a
--                                   degree, meets each condition and has the properties, and a sink that took t has taken its text, whole,
--                                   when it took t'
--   AcceptsCertificate m l l'   a source that had l left gave the text of a certificate and has l' left; under the limits m no bound is
--                                   met, and the certificate meets each condition over its field and its matrices, and has the properties
use Rattle.std.specs.Prelude.{◌≡◌, ℕ, List, Option}
use Rattle.alg_core.specs.declared.limits.Limits.{Limits}
use Rattle.certificate_io.specs.Certificates.{CertificateOf}
use Rattle.certificate_io.specs.Conditions.{IsCertificate}
use Rattle.certificate_io.specs.Texts.{certificate_text}
use Rattle.cert_check.specs.Properties.{HasProperties}
use Rattle.cert_check.specs.Work.{IsAccepted}
use Rattle.inv_outside.specs.Outside.{Gave, Took}
use Rattle.finvar_text.specs.Problems.{Problem, IsProblemText}
use Rattle.invring_app.specs.Commands.Rings.{IsCertified}

pub record WritesCertificate (tries : ℕ) (left left' taken taken' : Option (List ℕ)) : Type 0 where
  pub script : List ℕ
  pub gave : Gave left script left'
  pub problem : Problem
  pub is_script : IsProblemText script problem
  pub text : List ℕ
  pub certified : IsCertified problem tries text
  pub took : Took taken text taken'

pub record AcceptsCertificate (limits : Limits) (left left' : Option (List ℕ)) : Type 0 where
  pub bytes : List ℕ
  pub gave : Gave left bytes left'
  pub certificate : CertificateOf ℕ
  pub is_certificate : IsCertificate certificate
  pub is_text : bytes ≡ certificate_text certificate
  pub accepted : IsAccepted certificate limits
  pub properties : HasProperties accepted.field accepted.matrices certificate
