-- Certificates that are made: each part is the one that the matrices gens determine, with those before it.
--
--   IsPrinted k c f x           the combination x is the printed one of f
--   IsImageOf k gens c x        line x of the averages: its combination is the printed one of the average of its monomial
--   AreAveragesOf k gens c xs   the characteristic does not divide the order, and xs are these lines of the standard monomials
--   IsFixedLine k c l           line l of the kernel: its combination, where it has one, is the printed one of the value of its
--                               polynomial
--   AreKernelLines k gens c ls  the characteristic divides the order, the members of the lines ls are the kernel evidence over the
--                               standard monomials in order, and each line is so
--   IsEvidenceOf k gens c e     the evidence e is by averages, or by a kernel, and its lines are so
--   IsWordOf k c s u            u is the printed word of s
--   IsMade k gens tries c       the order is that of the group; the primary invariants are the first ones among tries candidates a
--                               degree; the lifts are the reduced basis of their relations; the powers are the least ones; the rank is
--                               the number of standard monomials; the secondary invariants, the evidence, the irreducible generators
--                               and the words are those that are chosen
use Rattle.std.specs.Prelude.{◌≡◌, ◌++◌, ℕ, List, IfSome, length, slice_get, Some}
use Rattle.std.specs.Int.{◌∣◌}
use Rattle.alg_core.specs.Fields.{FieldOn}
use Rattle.alg_core.specs.Monomials.{mono}
use Rattle.alg_core.specs.Vectors.{Vect}
use Rattle.poly_module.specs.declared.vector.Comb.{Comb}
use Rattle.poly_module.specs.Combinations.{mark_value}
use Rattle.poly_module.specs.Polynomials.{single_vector}
use Rattle.lin_algebra.specs.declared.matrix.Matrix.{Matrix}
use Rattle.matrix_group.specs.Groups.{cells_of, IsOrder}
use Rattle.reynolds_op.specs.Averages.{IsAverage}
use Rattle.finite_certificate.specs.StandardMonomials.{AreStandardMonomials}
use Rattle.groebner_hom.specs.Lifts.{AreLifts, AreLeastPowers}
use Rattle.primary_search.specs.Walks.{FirstPrimaries}
use Rattle.secondary_gens.specs.PrintedCombinations.{IsPrintedCombination}
use Rattle.secondary_gens.specs.Secondaries.{AreSecondaries}
use Rattle.irreducible_gens.specs.Irreducibles.{AreIrreducibles, members}
use Rattle.irreducible_gens.specs.Words.{IsPrintedWord}
use Rattle.certificate_io.specs.Certificates.{CertificateOf, EvidenceOf, Averages, Members}
use Rattle.certificate_io.specs.declared.evidence.Image.{Image}
use Rattle.certificate_io.specs.declared.evidence.Line.{Line}
use Rattle.syzygy_kernel.specs.Kernels.{AreKernel}
use Rattle.cert_check.specs.Parts.{size, polynomial, primaries, lifts, powers, secondaries, irreducibles, words, degrees, secondary_degrees, irreducible_degrees, monomials, members as members_of}
use Rattle.cert_check.specs.WellFormed.{plain, marked}

module _ (k : FieldOn ℕ) (gens : List (Matrix ℕ)) (c : CertificateOf ℕ) where
  abbrev pub IsPrinted : Vect k → Comb ℕ → Type 0
  IsPrinted f x = IsPrintedCombination k (degrees c) (secondary_degrees c) (primaries k c) (secondaries k c) f (polynomial k x.vector)

  pub record IsImageOf (x : Image ℕ) : Type 0 where
    pub average : Vect k
    pub is : IsAverage k gens (single_vector k (0, mono x.mono)) average
    pub printed : IsPrinted average x.comb

  pub record AreAveragesOf (xs : List (Image ℕ)) : Type 0 where
    pub characteristic : ¬ (c.characteristic ∣ c.order)
    pub standard : AreStandardMonomials k (size c) (primaries k c) (monomials xs)
    pub images : (i : ℕ) (x : Image ℕ) → slice_get xs i ≡ Some x → IsImageOf x

  abbrev pub IsFixedLine : Line ℕ → Type 0
  IsFixedLine l = IfSome l.comb (IsPrinted (mark_value k (size c) (primaries k c) (polynomial k l.u)))

  pub record AreKernelLines (ls : List (Line ℕ)) : Type 0 where
    pub characteristic : c.characteristic ∣ c.order
    pub basis : List (List ℕ)
    pub standard : AreStandardMonomials k (size c) (primaries k c) basis
    pub kernel : AreKernel k (size c) (degrees c) (primaries k c) gens basis (members_of ls)
    pub lines : (i : ℕ) (l : Line ℕ) → slice_get ls i ≡ Some l → IsFixedLine l

  abbrev pub IsEvidenceOf : EvidenceOf ℕ → Type 0
  IsEvidenceOf (Averages xs) = AreAveragesOf xs
  IsEvidenceOf (Members ls) = AreKernelLines ls

  abbrev pub IsWordOf : Vect k → Vect k → Type 0
  IsWordOf s u = IsPrintedWord k (degrees c ++ irreducible_degrees c) (primaries k c) (irreducibles k c) s u

  pub record IsMade (tries : ℕ) : Type 0 where
    pub order : IsOrder k (size c) (cells_of gens) c.order
    pub first_primaries : FirstPrimaries (plain k c) gens tries (primaries k c)
    pub are_lifts : AreLifts (marked k c) (size c) (primaries k c) (lifts k c)
    pub least_powers : AreLeastPowers k (size c) (primaries k c) (powers k c)
    pub basis : List (List ℕ)
    pub standard : AreStandardMonomials k (size c) (primaries k c) basis
    pub rank : c.rank ≡ length basis
    pub are_secondaries : AreSecondaries (plain k c) gens (primaries k c) (secondaries k c)
    pub evidence : IsEvidenceOf c.evidence
    pub places : List ℕ
    pub are_irreducibles : AreIrreducibles k (primaries k c) (secondaries k c) places
    pub irreducible : irreducibles k c ≡ members k (secondaries k c) places
    pub are_words : (j : ℕ) (s u : Vect k) → slice_get (secondaries k c) j ≡ Some s → slice_get (words k c) j ≡ Some u
        → IsWordOf s u
