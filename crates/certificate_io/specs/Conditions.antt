-- Certificates that meet the conditions on values: those that have a text within the bounds of the grammar.
--
--   degree_of v             the greatest degree of a term of a polynomial in the variables; 0 where there is none
--   size, degrees, secondary_degrees, irreducible_degrees c    the number of the variables; the degrees of the members of these lists
--   plain, marked, combined, worded c   the spaces of a certificate, over GF(p)
--   IsPolynomialIn S names v   v is a polynomial over S that can be read, in variables with these names
--   IsCombinationIn S v     v is a combination over S that can be read
--   IsSquare p n m          m is an n by n matrix of classes modulo p
--   IsPower, IsImage, IsMember, AreEvidence   a power, a line of the averages, a member of the kernel, the evidence
--   IsCertificate c         the characteristic is listed; there are 1 to 8 variables, none twice; the matrices are n by n; polynomials
--                           and combinations can be read in the spaces of their lines; there is a power for each variable and a word for
--                           each secondary invariant; no list but that of the irreducible generators is empty; the numbers have at
--                           most 18 digits
use Rattle.std.specs.Prelude.{◌≡◌, ◌≢◌, ◌<◌, ℕ, ◌*◌, true, IsTrue, List, ◌++◌, length, map, All, AllPairs, IfSome}
use Rattle.alg_core.specs.Names.{is_name}
use Rattle.alg_core.specs.PolynomialSpaces.{plain_space, marked_space}
use Rattle.alg_core.specs.Spaces.{SpaceOver, IsPlace, entries}
use Rattle.alg_core.specs.declared.term.Term.{Term}
use Rattle.finite_certificate.specs.declared.power.Power.{Power}
use Rattle.poly_module.specs.GreatestExponents.{total, greatest}
use Rattle.poly_module.specs.SpaceVectors.{IsPoly, IsVector}
use Rattle.poly_text.specs.Values.{IsReadable, IsReadableTerm}
use Rattle.poly_text.specs.declared.names.Names.{Names}
use Rattle.prime_field.specs.ListedPrimes.{is_listed}
use Rattle.certificate_io.specs.Certificates.{MatrixOf, EvidenceOf, Averages, Members, CertificateOf}
use Rattle.certificate_io.specs.Spaces.{field_at, combination_space, word_space, plain_names, marked_names, word_names}
use Rattle.certificate_io.specs.Syntax.{IsBetween, IsSome}
use Rattle.certificate_io.specs.declared.evidence.Image.{Image}
use Rattle.certificate_io.specs.declared.evidence.Line.{Line}

abbrev pub degree_of : List (Term ℕ (List ℕ)) → ℕ
degree_of v = greatest (map (λ e. total e.0.1) (entries (λ m. m) v))

abbrev pub IsPolynomialIn : SpaceOver ℕ → Names → List (Term ℕ (List ℕ)) → Type 0
IsPolynomialIn S names v = IsPoly S (λ m. m) v × All (IsReadable S names) (entries (λ m. m) v)

abbrev pub IsCombinationIn : SpaceOver ℕ → List (Term ℕ (List ℕ)) → Type 0
IsCombinationIn S v = IsVector S (λ m. m) v × All (IsReadableTerm S) (entries (λ m. m) v)

pub record IsSquare (p n : ℕ) (m : MatrixOf ℕ) : Type 0 where
  pub rows : m.rows ≡ n
  pub cols : m.cols ≡ n
  pub cells : length m.cells ≡ n * n
  pub classes : All (λ x. x < p) m.cells

module _ (c : CertificateOf ℕ) where
  abbrev pub size : ℕ
  size = length c.names

  abbrev pub degrees : List ℕ
  degrees = map degree_of c.primaries

  abbrev pub secondary_degrees : List ℕ
  secondary_degrees = map degree_of c.secondaries

  abbrev pub irreducible_degrees : List ℕ
  irreducible_degrees = map degree_of c.irreducibles

  abbrev pub plain : SpaceOver ℕ
  plain = plain_space (field_at c.characteristic) size

  abbrev pub marked : SpaceOver ℕ
  marked = marked_space (field_at c.characteristic) size degrees

  abbrev pub combined : SpaceOver ℕ
  combined = combination_space (field_at c.characteristic) degrees secondary_degrees

  abbrev pub worded : SpaceOver ℕ
  worded = word_space (field_at c.characteristic) (degrees ++ irreducible_degrees)

  pub record IsPower (x : Power ℕ) : Type 0 where
    pub exponent : IsBetween 4096 x.exponent
    pub form : IsPolynomialIn marked (marked_names c.names (length c.primaries)) x.form

  pub record IsImage (x : Image ℕ) : Type 0 where
    pub place : IsPlace plain (0, x.mono)
    pub monomial : IsReadable plain (plain_names c.names) ((0, x.mono), 1)
    pub combination : IsCombinationIn combined x.comb.vector

  pub record IsMember (l : Line ℕ) : Type 0 where
    pub polynomial : IsPolynomialIn marked (marked_names c.names (length c.primaries)) l.u
    pub combination : IfSome l.comb (λ x. IsCombinationIn combined x.vector)

  abbrev pub AreEvidence : EvidenceOf ℕ → Type 0
  AreEvidence (Averages xs) = IsSome xs × All IsImage xs
  AreEvidence (Members ls) = IsSome ls × All IsMember ls

  pub record IsCertificate : Type 0 where
    pub listed : is_listed c.characteristic ≡ true
    pub variables : IsBetween 8 size
    pub names : All (λ w. IsTrue (is_name w)) c.names
    pub distinct : AllPairs (λ v w. v ≢ w) c.names
    pub matrices : IsSome c.matrices × All (IsSquare c.characteristic size) c.matrices
    pub order : IsBetween 999999999999999999 c.order
    pub primaries : IsSome c.primaries × All (IsPolynomialIn plain (plain_names c.names)) c.primaries
    pub lifts : IsSome c.lifts × All (IsPolynomialIn marked (marked_names c.names (length c.primaries))) c.lifts
    pub powers : All IsPower c.powers
    pub power_each : length c.powers ≡ size
    pub rank : IsBetween 999999999999999999 c.rank
    pub secondaries : IsSome c.secondaries × All (IsPolynomialIn plain (plain_names c.names)) c.secondaries
    pub evidence : AreEvidence c.evidence
    pub irreducibles : All (IsPolynomialIn plain (plain_names c.names)) c.irreducibles
    pub words : All (IsPolynomialIn worded (word_names (length c.primaries) (length c.irreducibles))) c.words
    pub word_each : length c.words ≡ length c.secondaries
