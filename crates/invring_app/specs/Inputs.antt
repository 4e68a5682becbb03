-- What a command reads of its source: nothing, a script, or a certificate.
--
--   Input                    what was read: nothing, the problem that a script sets, or the certificate of a text
--   Refusal                  why bytes were refused: the place of their syntax fault, or the faulty input that they are
--   most_certificate         how many bytes the text of a certificate may have
--   IsReading kind           something of this kind is read
--   most_bytes kind          how many bytes it may have
--   IsTextOf bytes c         the bytes are the text of the certificate c, which meets the conditions on values, and are not too many
--   IsCertificateFault bytes f   they are too many; or the text of a certificate, with a value that the fault f names
--   ReadsAs kind bytes i     these bytes are read as the input i
--   IsRefused kind bytes x   these bytes are refused so
--   Takes kind l bytes l'    a source that had l left gave these bytes and has l' left: none where nothing is read; else it came to
--                            its end, or gave one byte too many
--   IsLeft kind l i          what a source has left is told and is read as the input i; where nothing is read, i is nothing
use Rattle.std.specs.Prelude.{◌≡◌, ℕ, ◌+◌, ◌<◌, ◌≤◌, List, [], length, Option, IfSome, IsSomeAnd}
use Rattle.alg_core.specs.declared.input_fault.InputFault.{InputFault}
use Rattle.alg_core.specs.declared.input_fault.InputFault.TheVariants as values
use Rattle.alg_core.specs.declared.place.Place.{Place}
use Rattle.alg_core.specs.declared.place.Place.TheVariants.{Byte, Line}
use Rattle.certificate_io.specs.Certificates.{CertificateOf}
use Rattle.certificate_io.specs.Conditions.{IsCertificate}
use Rattle.certificate_io.specs.Faults.{IsCertFault}
use Rattle.certificate_io.specs.Texts.{certificate_text}
use Rattle.certificate_io.specs.declared.fault.CertFault.TheVariants as certificates
use Rattle.finvar_text.specs.Problems.{Problem, IsProblemText}
use Rattle.finvar_text.specs.Scripts as scripts
use Rattle.finvar_text.specs.Syntax.{IsFirstFault}
use Rattle.inv_outside.specs.Outside.{Gave}
use Rattle.invring_app.specs.declared.reading.Kind.{Kind}
use Rattle.invring_app.specs.declared.reading.Kind.TheVariants.{Nothing, Script, Certificate}

pub data Input : Type 0 where
  NoInput : Input
  OfScript : Problem → Input
  OfCertificate : CertificateOf ℕ → Input

pub data Refusal : Type 0 where
  NoText : Place → Refusal
  Faulty : InputFault → Refusal

abbrev pub most_certificate : ℕ
most_certificate = 268435456

abbrev pub IsReading : Kind → Type 0
IsReading Nothing = ⊥
IsReading Script = Unit {0}
IsReading Certificate = Unit {0}

abbrev pub most_bytes : Kind → ℕ
most_bytes Nothing = 0
most_bytes Script = scripts.most_bytes
most_bytes Certificate = most_certificate

pub record IsTextOf (bytes : List ℕ) (c : CertificateOf ℕ) : Type 0 where
  pub short : length bytes ≤ most_certificate
  pub certificate : IsCertificate c
  pub is : certificate_text c ≡ bytes

abbrev pub IsCertificateFault : List ℕ → InputFault → Type 0
IsCertificateFault bytes values.Long = most_certificate < length bytes
IsCertificateFault bytes values.Number = ⊥
IsCertificateFault bytes (values.Field p) = ⊥
IsCertificateFault bytes (values.Variables n) = ⊥
IsCertificateFault bytes (values.Twice name) = ⊥
IsCertificateFault bytes (values.Unknown name) = ⊥
IsCertificateFault bytes (values.Size name) = ⊥
IsCertificateFault bytes values.NoMatrix = ⊥
IsCertificateFault bytes (values.Singular name) = ⊥
IsCertificateFault bytes (values.Line line kind) = (length bytes ≤ most_certificate) × IsCertFault bytes (certificates.Value line kind)

abbrev pub ReadsAs : Kind → List ℕ → Input → Type 0
ReadsAs Nothing bytes NoInput = bytes ≡ []
ReadsAs Nothing bytes (OfScript q) = ⊥
ReadsAs Nothing bytes (OfCertificate c) = ⊥
ReadsAs Script bytes NoInput = ⊥
ReadsAs Script bytes (OfScript q) = IsProblemText bytes q
ReadsAs Script bytes (OfCertificate c) = ⊥
ReadsAs Certificate bytes NoInput = ⊥
ReadsAs Certificate bytes (OfScript q) = ⊥
ReadsAs Certificate bytes (OfCertificate c) = IsTextOf bytes c

abbrev pub IsRefused : Kind → List ℕ → Refusal → Type 0
IsRefused Nothing bytes x = ⊥
IsRefused Script bytes (NoText (Byte n)) = (length bytes ≤ scripts.most_bytes) × IsFirstFault bytes n
IsRefused Script bytes (NoText (Line n)) = ⊥
IsRefused Script bytes (Faulty f) = scripts.IsInputFault bytes f
IsRefused Certificate bytes (NoText (Byte n)) = ⊥
IsRefused Certificate bytes (NoText (Line n)) = (length bytes ≤ most_certificate) × IsCertFault bytes (certificates.Syntax n)
IsRefused Certificate bytes (Faulty f) = IsCertificateFault bytes f

pub record Takes (kind : Kind) (before : Option (List ℕ)) (bytes : List ℕ) (after : Option (List ℕ)) : Type 0 where
  pub gave : Gave before bytes after
  pub within : length bytes ≤ most_bytes kind + 1
  pub none : ¬ IsReading kind → bytes ≡ []
  pub end : IsReading kind → length bytes ≤ most_bytes kind → IfSome after (λ rest. rest ≡ [])

abbrev pub IsLeft : Kind → Option (List ℕ) → Input → Type 0
IsLeft Nothing left i = ReadsAs Nothing [] i
IsLeft Script left i = IsSomeAnd left (λ bytes. ReadsAs Script bytes i)
IsLeft Certificate left i = IsSomeAnd left (λ bytes. ReadsAs Certificate bytes i)
