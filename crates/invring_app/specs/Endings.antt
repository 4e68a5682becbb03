-- How a run ends at what it read.
--
--   Ending               it stops at a bound, it rejects a certificate by a condition and an item, with a text, or it answers a text
--   AreAlike e e'        the same text, the same condition and item with the same text, or bounds whose kind and numbers are the same: the pieces of their lines are
--   AtProblem P Q i e    the input i is the problem of a script, and the ending e is a bound of which P holds there, or a text of
--                        which Q does
--   AtNothing P Q i e    the same of a bound and a text where nothing was read
--   AtCertificate P R Q i e   the input i is a certificate, and the ending e is a bound of which P holds there, a rejection of which R
--                        does, or a text of which Q does
use Rattle.std.specs.Prelude.{◌≡◌, ℕ, List}
use Rattle.certificate_io.specs.Certificates.{CertificateOf}
use Rattle.finvar_text.specs.Problems.{Problem}
use Rattle.invring_app.specs.declared.status.BoundFault.{BoundFault}
use Rattle.invring_app.specs.ErrorLines.{bound_pieces}
use Rattle.invring_app.specs.Inputs.{Input, NoInput, OfScript, OfCertificate}

pub data Ending : Type 0 where
  StopsAt : BoundFault → Ending
  Rejects : ℕ → ℕ → List ℕ → Ending
  Answers : List ℕ → Ending

abbrev pub AreAlike : Ending → Ending → Type 0
AreAlike (StopsAt f) (StopsAt g) = bound_pieces f ≡ bound_pieces g
AreAlike (StopsAt f) (Rejects b j other) = ⊥
AreAlike (StopsAt f) (Answers text) = ⊥
AreAlike (Rejects a i text) (StopsAt g) = ⊥
AreAlike (Rejects a i text) (Rejects b j other) = (a ≡ b) × (i ≡ j) × (text ≡ other)
AreAlike (Rejects a i text) (Answers other) = ⊥
AreAlike (Answers text) (StopsAt f) = ⊥
AreAlike (Answers text) (Rejects b j other) = ⊥
AreAlike (Answers text) (Answers other) = text ≡ other

abbrev pub AtProblem : (Problem → BoundFault → Type 0) → (Problem → List ℕ → Type 0) → Input → Ending → Type 0
AtProblem stops answers NoInput e = ⊥
AtProblem stops answers (OfScript q) (StopsAt f) = stops q f
AtProblem stops answers (OfScript q) (Rejects a i text) = ⊥
AtProblem stops answers (OfScript q) (Answers text) = answers q text
AtProblem stops answers (OfCertificate c) e = ⊥

abbrev pub AtNothing : (BoundFault → Type 0) → (List ℕ → Type 0) → Input → Ending → Type 0
AtNothing stops answers NoInput (StopsAt f) = stops f
AtNothing stops answers NoInput (Rejects a i text) = ⊥
AtNothing stops answers NoInput (Answers text) = answers text
AtNothing stops answers (OfScript q) e = ⊥
AtNothing stops answers (OfCertificate c) e = ⊥

abbrev pub AtCertificate : (CertificateOf ℕ → BoundFault → Type 0) → (CertificateOf ℕ → ℕ → ℕ → List ℕ → Type 0)
    → (CertificateOf ℕ → List ℕ → Type 0) → Input → Ending → Type 0
AtCertificate stops rejects answers NoInput e = ⊥
AtCertificate stops rejects answers (OfScript q) e = ⊥
AtCertificate stops rejects answers (OfCertificate c) (StopsAt f) = stops c f
AtCertificate stops rejects answers (OfCertificate c) (Rejects a i text) = rejects c a i text
AtCertificate stops rejects answers (OfCertificate c) (Answers text) = answers c text
