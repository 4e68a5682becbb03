-- Certificates as their lists.
--
--   MatrixOf E        a matrix: the number of its rows, that of its columns, and its cells, row after row
--   EvidenceOf E      the averages of the standard monomials, or the members of the kernel
--   CertificateOf E   a certificate: characteristic, names of the variables, generators, order of the group, primary invariants,
--                     lifts, powers, rank, secondary invariants, evidence, irreducible generators, words
--   matrix_of m       the matrix m of the program
--   evidence_of e     the evidence e of the program
use Rattle.std.specs.Prelude.{ℕ, List}
use Rattle.alg_core.specs.declared.term.Term.{Term}
use Rattle.lin_algebra.specs.declared.matrix.Matrix.{Matrix}
use Rattle.finite_certificate.specs.declared.power.Power.{Power}
use Rattle.certificate_io.specs.declared.evidence.Evidence.{Evidence}
use Rattle.certificate_io.specs.declared.evidence.Evidence.TheVariants.{Reynolds, Kernel}
use Rattle.certificate_io.specs.declared.evidence.Image.{Image}
use Rattle.certificate_io.specs.declared.evidence.Line.{Line}

pub record MatrixOf (E : Type 0) : Type 0 where
  pub rows : ℕ
  pub cols : ℕ
  pub cells : List E

pub data EvidenceOf (E : Type 0) : Type 0 where
  Averages : List (Image E) → EvidenceOf E
  Members : List (Line E) → EvidenceOf E

pub record CertificateOf (E : Type 0) : Type 0 where
  pub characteristic : ℕ
  pub names : List (List ℕ)
  pub matrices : List (MatrixOf E)
  pub order : ℕ
  pub primaries : List (List (Term E (List ℕ)))
  pub lifts : List (List (Term E (List ℕ)))
  pub powers : List (Power E)
  pub rank : ℕ
  pub secondaries : List (List (Term E (List ℕ)))
  pub evidence : EvidenceOf E
  pub irreducibles : List (List (Term E (List ℕ)))
  pub words : List (List (Term E (List ℕ)))

abbrev pub matrix_of : {E : Type 0} → Matrix E → MatrixOf E
matrix_of m = record { rows = m.rows; cols = m.cols; cells = m.cells.items }

abbrev pub evidence_of : {E : Type 0} → Evidence E → EvidenceOf E
evidence_of (Reynolds is) = Averages is.items
evidence_of (Kernel ls) = Members ls.items
