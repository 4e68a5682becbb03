-- What the lines and the values that are read tell of a text.
use Rattle.std.proofs.Common.{◌≡◌, ◌∙◌, ℕ, ◌≤◌, List, [], ◌∷◌, Result, Ok, Err, length, map, sym, ap, subst, arith}
use Rattle.std.specs.Prelude.{IfOk, IfErr}
use Rattle.std.specs.Result.{IsErrAnd}
use Rattle.std.proofs.lemmas.List.{length-append, length-map}
use Rattle.certificate_io.specs.Certificates.{CertificateOf}
use Rattle.certificate_io.specs.Conditions.{IsCertificate}
use Rattle.certificate_io.specs.Faults.{IsCertFault, IsSyntaxFault}
use Rattle.certificate_io.specs.Lines.{line_of, shown}
use Rattle.certificate_io.specs.Parts.{TextParts, AreParts, lines_in}
use Rattle.certificate_io.specs.Syntax.{LineTree, IsText, line_text, spelling}
use Rattle.certificate_io.specs.Texts.{certificate_text}
use Rattle.certificate_io.specs.declared.fault.CertFault.{CertFault}
use Rattle.certificate_io.specs.declared.fault.CertFault.TheVariants as faults
use Rattle.certificate_io.specs.declared.line_text.LineText.{LineText}
use Rattle.certificate_io.proofs.TextSections.{parts_of_shape}

-- the lines of the program are those of the parts of a text
pub record ReadsText (bytes : List ℕ) (lines : List LineText) : Type 0 where
  pub trees : List LineTree
  pub text : IsText trees bytes
  pub parts : TextParts
  pub are : AreParts parts
  pub whole : lines_in parts ≡ trees
  pub same : map line_of lines ≡ map shown (lines_in parts)

pub reads_text : (bytes : List ℕ) (lines now : List LineText) → now ≡ lines → (ls : List LineTree) × IsText ls bytes × (map line_of lines ≡ map shown ls) → ReadsText bytes now
reads_text bytes lines now is x =
    let found = parts_of_shape x.0 x.1.shape in
    record { trees = x.0; text = x.1; parts = found.parts; are = found.are; whole = found.whole; same = ap (map line_of) is ∙ x.2 ∙ ap (map shown) (sym found.whole) }

-- each line has its newline
lines_low : (ls : List LineTree) → length ls ≤ length (spelling ls)
lines_low [] = omega arith
lines_low (l ∷ ls) = let long = length-append (line_text l) (10 ∷ spelling ls) in let rest = lines_low ls in omega (arith, long, rest)

pub few_lines : (bytes : List ℕ) (lines : List LineText) (n : ℕ) → ReadsText bytes lines → length bytes ≤ n → length lines ≤ n
few_lines bytes lines n read low =
    let many : length lines ≡ length read.trees = sym (length-map lines line_of) ∙ ap length read.same ∙ length-map (lines_in read.parts) shown ∙ ap length read.whole in
    let short : length read.trees ≤ length bytes = subst (λ (b : List ℕ). length read.trees ≤ length b) read.text.spelled (lines_low read.trees) in
    omega (arith, many, short, low)

pub syntax_told : (bytes : List ℕ) (e : CertFault) → IsSyntaxFault bytes e → IsCertFault bytes e
syntax_told bytes (faults.Syntax line) h = h
syntax_told bytes (faults.Value line kind) h = absurd h
syntax_told bytes faults.Memory h = tt

-- what is told of an error that is handed on
pub record IsRefused (bytes : List ℕ) (result : Result (CertificateOf ℕ) CertFault) : Type 0 where
  pub certificate : IfOk result IsCertificate
  pub printed : IfOk result (λ c. certificate_text c ≡ bytes)
  pub fault : IfErr result (IsCertFault bytes)

pub refused : (bytes : List ℕ) (result : Result (CertificateOf ℕ) CertFault) (e : CertFault) → IsErrAnd result (λ x. x ≡ e) → IsCertFault bytes e → IsRefused bytes result
refused bytes (Ok c) e h fault = absurd h
refused bytes (Err x) e h fault = record { certificate = tt; printed = tt; fault = subst (IsCertFault bytes) (sym h) fault }
