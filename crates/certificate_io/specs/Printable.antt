-- Certificates that have a text.
--
--   HasClasses p f        the coefficients of f are classes modulo p: numbers below it
--   IsPrintableComb p m c   so are those of the combination c, which is one of the first m secondary invariants
--   IsPrintableMember p m l, AreEvidence p m e   so are those of a member of the kernel, of the evidence
--   IsPrintable c         so are all coefficients and cells of the certificate c; a power for each variable
use Rattle.std.specs.Prelude.{◌≡◌, ◌<◌, ℕ, List, All, IfSome, length}
use Rattle.alg_core.specs.declared.term.Term.{Term}
use Rattle.poly_module.specs.declared.vector.Comb.{Comb}
use Rattle.certificate_io.specs.declared.evidence.Line.{Line}
use Rattle.certificate_io.specs.Certificates.{EvidenceOf, Averages, Members, CertificateOf}

abbrev pub HasClasses : ℕ → List (Term ℕ (List ℕ)) → Type 0
HasClasses p f = All (λ t. t.coef < p) f

pub record IsPrintableComb (p m : ℕ) (c : Comb ℕ) : Type 0 where
  pub classes : HasClasses p c.vector
  pub positions : All (λ t. t.at.pos < m) c.vector

pub record IsPrintableMember (p m : ℕ) (l : Line ℕ) : Type 0 where
  pub classes : HasClasses p l.u
  pub combination : IfSome l.comb (IsPrintableComb p m)

abbrev pub AreEvidence : ℕ → ℕ → EvidenceOf ℕ → Type 0
AreEvidence p m (Averages xs) = All (λ x. IsPrintableComb p m x.comb) xs
AreEvidence p m (Members ls) = All (IsPrintableMember p m) ls

pub record IsPrintable (c : CertificateOf ℕ) : Type 0 where
  pub matrices : All (λ m. All (λ x. x < c.characteristic) m.cells) c.matrices
  pub primaries : All (HasClasses c.characteristic) c.primaries
  pub lifts : All (HasClasses c.characteristic) c.lifts
  pub powers : All (λ x. HasClasses c.characteristic x.form) c.powers
  pub named : length c.powers ≡ length c.names
  pub secondaries : All (HasClasses c.characteristic) c.secondaries
  pub evidence : AreEvidence c.characteristic (length c.secondaries) c.evidence
  pub irreducibles : All (HasClasses c.characteristic) c.irreducibles
  pub words : All (HasClasses c.characteristic) c.words
