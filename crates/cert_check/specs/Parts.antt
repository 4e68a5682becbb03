-- What the parts of a certificate stand for, over a field k.
--
--   At xs i x                   x is the member of the list xs at the place i, from 1
--   size c                      the number of variables
--   ones c                      the degrees 1 of the variables
--   polynomial k v              the polynomial, or combination, with the terms v
--   primaries, lifts, secondaries, irreducibles, words k c    the polynomials of these lists
--   powers k c                  the powers of the variables: exponents and forms
--   degrees c                   the degrees of the primary invariants
--   secondary_degrees, irreducible_degrees c   those of the secondary invariants, of the irreducible generators
--   monomials xs                the monomials of the lines of the averages, by their exponents
--   members ls                  the members of the kernel of its lines: each has the polynomial of its line, and is named fixed
--                               exactly where the line has a combination
use Rattle.std.specs.Prelude.{◌≡◌, ◌+◌, ℕ, List, is_some, length, map, replicate, slice_get, Some}
use Rattle.alg_core.specs.Fields.{FieldOn}
use Rattle.alg_core.specs.Spaces.{entries}
use Rattle.alg_core.specs.Vectors.{Vect, vec}
use Rattle.alg_core.specs.declared.term.Term.{Term}
use Rattle.certificate_io.specs.Certificates.{CertificateOf}
use Rattle.certificate_io.specs.declared.evidence.Image.{Image}
use Rattle.certificate_io.specs.declared.evidence.Line.{Line}
use Rattle.secondary_gens.specs.Forms.{degrees_of}
use Rattle.syzygy_kernel.specs.declared.member.Member.{Member}

abbrev pub At : {A : Type 0} → List A → ℕ → A → Type 0
At xs i x = (j : ℕ) × (i ≡ j + 1) × (slice_get xs j ≡ Some x)

abbrev pub size : CertificateOf ℕ → ℕ
size c = length c.names

abbrev pub ones : CertificateOf ℕ → List ℕ
ones c = replicate (size c) 1

abbrev pub degrees : CertificateOf ℕ → List ℕ
degrees c = degrees_of c.primaries

abbrev pub secondary_degrees : CertificateOf ℕ → List ℕ
secondary_degrees c = degrees_of c.secondaries

abbrev pub irreducible_degrees : CertificateOf ℕ → List ℕ
irreducible_degrees c = degrees_of c.irreducibles

abbrev pub monomials : List (Image ℕ) → List (List ℕ)
monomials xs = map (λ x. x.mono) xs

abbrev pub members : List (Line ℕ) → List (Member ℕ)
members ls = map (λ l. record { u = l.u; is_fixed = is_some l.comb }) ls

module _ (k : FieldOn ℕ) where
  abbrev pub polynomial : List (Term ℕ (List ℕ)) → Vect k
  polynomial v = vec k (entries (λ m. m) v)

  abbrev pub primaries : CertificateOf ℕ → List (Vect k)
  primaries c = map polynomial c.primaries

  abbrev pub lifts : CertificateOf ℕ → List (Vect k)
  lifts c = map polynomial c.lifts

  abbrev pub powers : CertificateOf ℕ → List (ℕ × Vect k)
  powers c = map (λ x. (x.exponent, polynomial x.form)) c.powers

  abbrev pub secondaries : CertificateOf ℕ → List (Vect k)
  secondaries c = map polynomial c.secondaries

  abbrev pub irreducibles : CertificateOf ℕ → List (Vect k)
  irreducibles c = map polynomial c.irreducibles

  abbrev pub words : CertificateOf ℕ → List (Vect k)
  words c = map polynomial c.words
