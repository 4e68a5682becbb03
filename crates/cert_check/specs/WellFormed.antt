-- Certificates whose parts belong together.
--
--   plain, marked, combined, worded k c   the spaces of a certificate: the polynomials in the variables; in these and the marks @; the
--                                 combinations; the polynomials in the marks @ and $
--   IsImage k c x                 line x of the averages has an exponent for each variable, and a combination
--   IsMember k c l                member l of the kernel is a polynomial in the variables and the marks @, and its combination a
--                                 combination
--   AreEvidence k c e             each line of the averages, or each member of the kernel, of the evidence e is so
--   IsWellFormed k c gens         over the field k, GF(p) of the characteristic, the matrices are gens: one at least, with a row and a
--                                 column for each variable; the polynomials and combinations fit the spaces of their lines; there is
--                                 a power for each variable, and a word for each secondary invariant
use Rattle.std.specs.Prelude.{◌≡◌, ◌<◌, ◌++◌, ℕ, List, All, IfSome, length, map}
use Rattle.alg_core.specs.Fields.{FieldOn}
use Rattle.alg_core.specs.PolynomialSpaces.{plain_space, marked_space}
use Rattle.alg_core.specs.Spaces.{SpaceOver}
use Rattle.prime_field.specs.PrimeFields.{IsPrimeField}
use Rattle.poly_module.specs.SpaceVectors.{ArePolys, IsPoly, IsVector}
use Rattle.lin_algebra.specs.declared.matrix.Matrix.{Matrix}
use Rattle.matrix_group.specs.Actions.{IsSquare}
use Rattle.certificate_io.specs.Certificates.{CertificateOf, EvidenceOf, Averages, Members, matrix_of}
use Rattle.certificate_io.specs.declared.evidence.Image.{Image}
use Rattle.certificate_io.specs.declared.evidence.Line.{Line}
use Rattle.secondary_gens.specs.PrintedCombinations.{combination_space}
use Rattle.irreducible_gens.specs.Words.{word_space}
use Rattle.cert_check.specs.Parts.{size, degrees, secondary_degrees, irreducible_degrees}

module _ (k : FieldOn ℕ) (c : CertificateOf ℕ) where
  abbrev pub plain : SpaceOver ℕ
  plain = plain_space k (size c)

  abbrev pub marked : SpaceOver ℕ
  marked = marked_space k (size c) (degrees c)

  abbrev pub combined : SpaceOver ℕ
  combined = combination_space k (degrees c) (secondary_degrees c)

  abbrev pub worded : SpaceOver ℕ
  worded = word_space k (degrees c ++ irreducible_degrees c)

  pub record IsImage (x : Image ℕ) : Type 0 where
    pub wide : length x.mono ≡ size c
    pub combination : IsVector combined (λ m. m) x.comb.vector

  pub record IsMember (l : Line ℕ) : Type 0 where
    pub polynomial : IsPoly marked (λ m. m) l.u
    pub combination : IfSome l.comb (λ x. IsVector combined (λ m. m) x.vector)

  abbrev pub AreEvidence : EvidenceOf ℕ → Type 0
  AreEvidence (Averages xs) = All IsImage xs
  AreEvidence (Members ls) = All IsMember ls

  pub record IsWellFormed (gens : List (Matrix ℕ)) : Type 0 where
    pub field : IsPrimeField c.characteristic k
    pub generators : map matrix_of gens ≡ c.matrices
    pub some : 0 < length gens
    pub square : All (IsSquare k (size c)) gens
    pub variables : 0 < size c
    pub primaries : ArePolys plain (λ m. m) c.primaries
    pub lifts : ArePolys marked (λ m. m) c.lifts
    pub powers : All (λ x. IsPoly marked (λ m. m) x.form) c.powers
    pub power_each : length c.powers ≡ size c
    pub secondaries : ArePolys plain (λ m. m) c.secondaries
    pub evidence : AreEvidence c.evidence
    pub irreducibles : ArePolys plain (λ m. m) c.irreducibles
    pub words : ArePolys worded (λ m. m) c.words
    pub word_each : length c.words ≡ length c.secondaries
