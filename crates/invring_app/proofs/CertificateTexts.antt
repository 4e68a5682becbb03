-- The text of a certificate is not refused, and bytes are refused in one way.
use Rattle.std.proofs.Common.{◌≡◌, ◌∙◌, ℕ, ◌<◌, ◌≤◌, List, length, Some, None, refl, sym, ap, ap₂, subst, arith}
use Rattle.std.specs.Prelude.{Option}
use Rattle.alg_core.specs.declared.input_fault.InputFault.{InputFault}
use Rattle.alg_core.specs.declared.input_fault.InputFault.TheVariants as values
use Rattle.alg_core.specs.declared.place.Place.TheVariants.{Byte, Line}
use Rattle.alg_core.specs.declared.value_kind.ValueKind.{ValueKind}
use Rattle.certificate_io.specs.Certificates.{CertificateOf}
use Rattle.certificate_io.specs.Syntax.{LineTree, IsText, IsFirstFault}
use Rattle.certificate_io.specs.Values.{nothing_seen, first_fault}
use Rattle.certificate_io.specs.Faults.{IsCertFault}
use Rattle.certificate_io.specs.declared.fault.CertFault.TheVariants as certificates
use Rattle.certificate_io.specs.Parts.{lines_in, parts_of}
use Rattle.certificate_io.proofs.LineTrees.{lines_are_one}
use Rattle.certificate_io.proofs.PrintedParts.{printed_text, printed_passes}
use Rattle.invring_app.specs.declared.reading.Kind.TheVariants.{Certificate}
use Rattle.invring_app.specs.Inputs.{Refusal, NoText, Faulty, IsRefused, IsTextOf, IsCertificateFault, most_certificate}

-- the first line that leaves the grammar is one
line-one : (bytes : List ℕ) (m n : ℕ) → IsFirstFault bytes m → IsFirstFault bytes n → m ≡ n
line-one bytes m n h k =
    let up = k.most h.right h.begins in
    let down = h.most k.right k.begins in
    let first = h.line in
    let second = k.line in
    omega arith

-- a text has one first fault of its values
abbrev Found : Type 0
Found = ℕ × ValueKind

found : Found → Option Found → Found
found d None = d
found d (Some p) = p

value-one : (bytes : List ℕ) (m n : ℕ) (a b : ValueKind) → IsCertFault bytes (certificates.Value m a) → IsCertFault bytes (certificates.Value n b)
    → (m ≡ n) × (a ≡ b)
unfolding found
value-one bytes m n a b h k =
    let lines : h.0 ≡ k.0 = lines_are_one bytes h.0 k.0 h.1 k.1 in
    let first : Option Found = Some (m, a) in
    let second : Option Found = Some (n, b) in
    let same : first ≡ second = sym h.2 ∙ ap (λ (ls : List LineTree). first_fault 1 nothing_seen ls) lines ∙ k.2 in
    let d : Found = (m, a) in
    (ap (λ (o : Option Found). (found d o).0) same, ap (λ (o : Option Found). (found d o).1) same)

no-line : (bytes : List ℕ) (m : ℕ) (f : InputFault) → IsRefused Certificate bytes (NoText (Line m)) → IsCertificateFault bytes f → ⊥
no-line bytes m values.Long h k = omega (arith, h.0, k)
no-line bytes m values.Number h k = k
no-line bytes m (values.Field p) h k = k
no-line bytes m (values.Variables n) h k = k
no-line bytes m (values.Twice name) h k = k
no-line bytes m (values.Unknown name) h k = k
no-line bytes m (values.Size name) h k = k
no-line bytes m values.NoMatrix h k = k
no-line bytes m (values.Singular name) h k = k
no-line bytes m (values.Line n kind) h k = h.1.none k.1.0 k.1.1

-- bytes are too many or not
not-both : (bytes : List ℕ) → most_certificate < length bytes → length bytes ≤ most_certificate → ⊥
not-both bytes h k = omega (arith, h, k)

faults-one : (bytes : List ℕ) (f g : InputFault) → IsCertificateFault bytes f → IsCertificateFault bytes g → f ≡ g
faults-one bytes values.Long values.Long h k = refl
faults-one bytes values.Long values.Number h k = absurd k
faults-one bytes values.Long (values.Field p) h k = absurd k
faults-one bytes values.Long (values.Variables n) h k = absurd k
faults-one bytes values.Long (values.Twice name) h k = absurd k
faults-one bytes values.Long (values.Unknown name) h k = absurd k
faults-one bytes values.Long (values.Size name) h k = absurd k
faults-one bytes values.Long values.NoMatrix h k = absurd k
faults-one bytes values.Long (values.Singular name) h k = absurd k
faults-one bytes values.Long (values.Line j b) h k = absurd (not-both bytes h k.0)
faults-one bytes values.Number g h k = absurd h
faults-one bytes (values.Field p) g h k = absurd h
faults-one bytes (values.Variables n) g h k = absurd h
faults-one bytes (values.Twice name) g h k = absurd h
faults-one bytes (values.Unknown name) g h k = absurd h
faults-one bytes (values.Size name) g h k = absurd h
faults-one bytes values.NoMatrix g h k = absurd h
faults-one bytes (values.Singular name) g h k = absurd h
faults-one bytes (values.Line i a) values.Long h k = absurd (not-both bytes k h.0)
faults-one bytes (values.Line i a) values.Number h k = absurd k
faults-one bytes (values.Line i a) (values.Field p) h k = absurd k
faults-one bytes (values.Line i a) (values.Variables n) h k = absurd k
faults-one bytes (values.Line i a) (values.Twice name) h k = absurd k
faults-one bytes (values.Line i a) (values.Unknown name) h k = absurd k
faults-one bytes (values.Line i a) (values.Size name) h k = absurd k
faults-one bytes (values.Line i a) values.NoMatrix h k = absurd k
faults-one bytes (values.Line i a) (values.Singular name) h k = absurd k
faults-one bytes (values.Line i a) (values.Line j b) h k = let e = value-one bytes i j a b h.1 k.1 in ap₂ values.Line e.0 e.1

pub refused-once : (bytes : List ℕ) (x y : Refusal) → IsRefused Certificate bytes x → IsRefused Certificate bytes y → x ≡ y
refused-once bytes (NoText (Byte m)) y h k = absurd h
refused-once bytes (NoText (Line m)) (NoText (Byte n)) h k = absurd k
refused-once bytes (NoText (Line m)) (NoText (Line n)) h k = ap (λ (i : ℕ). NoText (Line i)) (line-one bytes m n h.1 k.1)
refused-once bytes (NoText (Line m)) (Faulty g) h k = absurd (no-line bytes m g h k)
refused-once bytes (Faulty f) (NoText (Byte n)) h k = absurd k
refused-once bytes (Faulty f) (NoText (Line n)) h k = absurd (no-line bytes n f k h)
refused-once bytes (Faulty f) (Faulty g) h k = ap Faulty (faults-one bytes f g h k)

-- the lines of the text of a certificate, none of which has a fault
record AreLines (bytes : List ℕ) : Type 0 where
  lines : List LineTree
  text : IsText lines bytes
  passes : first_fault 1 nothing_seen lines ≡ None

lines-of : (bytes : List ℕ) (c : CertificateOf ℕ) → IsTextOf bytes c → AreLines bytes
lines-of bytes c h = record {
  lines = lines_in (parts_of c);
  text = subst (IsText (lines_in (parts_of c))) h.is (printed_text c h.certificate);
  passes = printed_passes c h.certificate;
}

fault-not : (bytes : List ℕ) (c : CertificateOf ℕ) (f : InputFault) → IsTextOf bytes c → IsCertificateFault bytes f → ⊥
fault-not bytes c values.Long h k = omega (arith, h.short, k)
fault-not bytes c values.Number h k = k
fault-not bytes c (values.Field p) h k = k
fault-not bytes c (values.Variables n) h k = k
fault-not bytes c (values.Twice name) h k = k
fault-not bytes c (values.Unknown name) h k = k
fault-not bytes c (values.Size name) h k = k
fault-not bytes c values.NoMatrix h k = k
fault-not bytes c (values.Singular name) h k = k
fault-not bytes c (values.Line line kind) h k =
    let l = lines-of bytes c h in
    let lines : l.lines ≡ k.1.0 = lines_are_one bytes l.lines k.1.0 l.text k.1.1 in
    let same : ◌≡◌ {A = Option Found} None (Some (line, kind)) = sym l.passes ∙ ap (λ (ls : List LineTree). first_fault 1 nothing_seen ls) lines ∙ k.1.2 in
    absurd {A = ⊥} cc

pub text-not-refused : (bytes : List ℕ) (c : CertificateOf ℕ) (x : Refusal) → IsTextOf bytes c → IsRefused Certificate bytes x → ⊥
text-not-refused bytes c (NoText (Byte n)) h k = k
text-not-refused bytes c (NoText (Line n)) h k = let l = lines-of bytes c h in k.1.none l.lines l.text
text-not-refused bytes c (Faulty f) h k = fault-not bytes c f h k
