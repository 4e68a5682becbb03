-- The conditions K1 to K11 on a certificate c with the matrices gens, over its field k, each with items, which are counted from 1;
-- item 0 is a condition on a whole list. A condition says nothing of other numbers of items.
--
--   IsNonzeroForm k ws f    f is not 0, and homogeneous by the weights ws
--   K1    item i: matrix i is invertible; the item after these: the printed order is that of the group
--   K2    item j: primary invariant j is not 0, homogeneous, of positive degree and invariant
--   K3    item j: lift j is not 0, homogeneous by weights, and its value is 0
--   K4    item i: each term of the form of power i has a mark, and its value is variable i to the printed exponent
--   K5    item 0: the lifts are the reduced basis of the relations of the variables with the marks, and no lead has a mark
--   K6    item i: the lead of some lift is a power of variable i; the item after these: the printed rank is the number of standard
--         monomials
--   K7    item j: secondary invariant j is not 0, homogeneous and invariant
--   K8    averages, item 0: the characteristic does not divide the order, and the listed monomials are the standard ones in order;
--         item j: the combination of line j has the average of its monomial as value. A kernel, item 0: the members of its lines are
--         the kernel evidence over the standard monomials in order; item j: line j is moved, so without a combination, or its
--         combination has the value of its polynomial
--   K9    item j: secondary invariant j is no combination over the primary invariants and the others
--   K10   item l: irreducible generator l is a secondary invariant of positive degree; the items after these: the value of word j is
--         secondary invariant j
--   K11   item l: irreducible generator l is no polynomial in the primary invariants and the others
--   value_of k c x          the value of the combination x
--   IsValue k c f x         the combination x, where there is one, has the value f
--   MeetsAverages k gens c xs i, MeetsKernel k gens c ls i, MeetsEvidence k gens c e i   the condition K8 at the averages xs, at the
--                           lines ls of a kernel, at the evidence e
--   Condition, number       the conditions, and their numbers from 1 to 11
--   Meets k gens c a i      the certificate meets the condition a at the item i
--   Holds k gens c          it meets each condition at each item
use Rattle.std.specs.Prelude.{◌≡◌, ◌≤◌, ◌+◌, ◌-◌, ◌++◌, ℕ, List, Option, IfSome, length}
use Rattle.std.specs.Int.{◌∣◌}
use Rattle.alg_core.specs.Fields.{FieldOn}
use Rattle.alg_core.specs.Lists.{In}
use Rattle.alg_core.specs.Monomials.{mono}
use Rattle.alg_core.specs.Vectors.{Vect, zero_vector}
use Rattle.poly_module.specs.declared.vector.Comb.{Comb}
use Rattle.poly_module.specs.Combinations.{combination_value, mark_value}
use Rattle.poly_module.specs.Forms.{IsForm}
use Rattle.poly_module.specs.Polynomials.{single_vector}
use Rattle.poly_module.specs.Substitutions.{substitute}
use Rattle.lin_algebra.specs.declared.matrix.Matrix.{Matrix}
use Rattle.matrix_group.specs.Actions.{Invariant}
use Rattle.matrix_group.specs.Groups.{cells_of, IsNonsingular, IsOrder}
use Rattle.reynolds_op.specs.Averages.{IsAverage}
use Rattle.finite_certificate.specs.Finiteness.{IsPower}
use Rattle.finite_certificate.specs.StandardMonomials.{AreStandardMonomials}
use Rattle.groebner_hom.specs.LeadPowers.{HasPowerLead}
use Rattle.groebner_hom.specs.Lifts.{AreLifts, LeadsWithoutMarks}
use Rattle.secondary_gens.specs.Secondaries.{IsRedundant}
use Rattle.irreducible_gens.specs.Irreducibles.{IsOfPositiveDegree, IsReducible}
use Rattle.certificate_io.specs.Certificates.{CertificateOf, EvidenceOf, Averages, Members}
use Rattle.certificate_io.specs.declared.evidence.Image.{Image}
use Rattle.certificate_io.specs.declared.evidence.Line.{Line}
use Rattle.finite_certificate.specs.declared.power.Power.{Power}
use Rattle.syzygy_kernel.specs.Kernels.{AreKernel}
use Rattle.cert_check.specs.Parts.{At, size, ones, polynomial, primaries, lifts, secondaries, irreducibles, words, degrees, monomials, members}
use Rattle.cert_check.specs.WellFormed.{marked}

-- not 0, and homogeneous
pub record IsNonzeroForm (k : FieldOn ℕ) (ws : List ℕ) (f : Vect k) : Type 0 where
  pub not_zero : ¬ (f ≡ zero_vector k)
  pub degree : ℕ
  pub form : IsForm k ws degree f

module _ (k : FieldOn ℕ) (gens : List (Matrix ℕ)) (c : CertificateOf ℕ) where
  pub record K1 (i : ℕ) : Type 0 where
    pub matrix : (m : Matrix ℕ) → At gens i m → IsNonsingular k m
    pub order : i ≡ length gens + 1 → IsOrder k (size c) (cells_of gens) c.order

  abbrev pub K2 : ℕ → Type 0
  K2 j = (f : Vect k) → At (primaries k c) j f → IsOfPositiveDegree k (ones c) f × Invariant k gens f

  abbrev pub K3 : ℕ → Type 0
  K3 j = (f : Vect k) → At (lifts k c) j f
      → IsNonzeroForm k (ones c ++ degrees c) f × (mark_value k (size c) (primaries k c) f ≡ zero_vector k)

  abbrev pub K4 : ℕ → Type 0
  K4 i = (x : Power ℕ) → At c.powers i x → IsPower k (size c) (primaries k c) (i - 1) (x.exponent, polynomial k x.form)

  pub record HasLifts : Type 0 where
    pub basis : AreLifts (marked k c) (size c) (primaries k c) (lifts k c)
    pub leads : LeadsWithoutMarks (marked k c) (size c) (lifts k c)

  abbrev pub K5 : ℕ → Type 0
  K5 i = i ≡ 0 → HasLifts

  pub record K6 (i : ℕ) : Type 0 where
    pub lead : 1 ≤ i → i ≤ size c → HasPowerLead (marked k c) (lifts k c) (i - 1)
    pub rank : i ≡ size c + 1 → (B : List (List ℕ)) × AreStandardMonomials k (size c) (primaries k c) B × (c.rank ≡ length B)

  abbrev pub K7 : ℕ → Type 0
  K7 j = (f : Vect k) → At (secondaries k c) j f → IsNonzeroForm k (ones c) f × Invariant k gens f

  -- what a combination stands for
  abbrev pub value_of : Comb ℕ → Vect k
  value_of x = combination_value k (primaries k c) (secondaries k c) (polynomial k x.vector)

  pub record MeetsAverages (xs : List (Image ℕ)) (i : ℕ) : Type 0 where
    pub whole : i ≡ 0 → (¬ (c.characteristic ∣ c.order)) × AreStandardMonomials k (size c) (primaries k c) (monomials xs)
    pub line : (x : Image ℕ) → At xs i x → IsAverage k gens (single_vector k (0, mono x.mono)) (value_of x.comb)

  abbrev pub IsValue : Vect k → Option (Comb ℕ) → Type 0
  IsValue f x = IfSome x (λ y. value_of y ≡ f)

  pub record MeetsKernel (ls : List (Line ℕ)) (i : ℕ) : Type 0 where
    pub whole : i ≡ 0 → (B : List (List ℕ)) × AreStandardMonomials k (size c) (primaries k c) B
        × AreKernel k (size c) (degrees c) (primaries k c) gens B (members ls)
    pub line : (l : Line ℕ) → At ls i l → IsValue (mark_value k (size c) (primaries k c) (polynomial k l.u)) l.comb

  abbrev pub MeetsEvidence : EvidenceOf ℕ → ℕ → Type 0
  MeetsEvidence (Averages xs) i = MeetsAverages xs i
  MeetsEvidence (Members ls) i = MeetsKernel ls i

  abbrev pub K8 : ℕ → Type 0
  K8 i = MeetsEvidence c.evidence i

  abbrev pub K9 : ℕ → Type 0
  K9 j = (f : Vect k) → At (secondaries k c) j f → ¬ IsRedundant k (primaries k c) (secondaries k c) (j - 1)

  pub record K10 (i : ℕ) : Type 0 where
    pub generator : (q : Vect k) → At (irreducibles k c) i q → In q (secondaries k c) × IsOfPositiveDegree k (ones c) q
    pub word : (j : ℕ) (u s : Vect k) → i ≡ length (irreducibles k c) + j → At (words k c) j u → At (secondaries k c) j s
        → substitute k (primaries k c ++ irreducibles k c) u ≡ s

  abbrev pub K11 : ℕ → Type 0
  K11 l = (q : Vect k) → At (irreducibles k c) l q → ¬ IsReducible k (primaries k c) (irreducibles k c) (l - 1)

pub data Condition : Type 0 where
  Group : Condition
  Primaries : Condition
  Lifts : Condition
  Powers : Condition
  LiftBasis : Condition
  Rank : Condition
  Secondaries : Condition
  Evidence : Condition
  Redundance : Condition
  Words : Condition
  Reducibility : Condition

abbrev pub number : Condition → ℕ
number Group = 1
number Primaries = 2
number Lifts = 3
number Powers = 4
number LiftBasis = 5
number Rank = 6
number Secondaries = 7
number Evidence = 8
number Redundance = 9
number Words = 10
number Reducibility = 11

module _ (k : FieldOn ℕ) (gens : List (Matrix ℕ)) (c : CertificateOf ℕ) where
  abbrev pub Meets : Condition → ℕ → Type 0
  Meets Group i = K1 k gens c i
  Meets Primaries i = K2 k gens c i
  Meets Lifts i = K3 k gens c i
  Meets Powers i = K4 k gens c i
  Meets LiftBasis i = K5 k gens c i
  Meets Rank i = K6 k gens c i
  Meets Secondaries i = K7 k gens c i
  Meets Evidence i = K8 k gens c i
  Meets Redundance i = K9 k gens c i
  Meets Words i = K10 k gens c i
  Meets Reducibility i = K11 k gens c i

  abbrev pub Holds : Type 0
  Holds = (a : Condition) (i : ℕ) → Meets a i
