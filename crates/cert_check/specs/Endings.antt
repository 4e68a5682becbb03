-- How the steps of a check end, and what they are given.
--
--   IsPlainOf c S            S is the space of the polynomials in the variables of the certificate c, over its field
--   IsGiven S gens c         the certificate c meets the conditions on values, S is so, and gens are its matrices
--   IsMarkedOf c S M n ds    M is the space of the polynomials in its n variables and the marks @, of the degrees ds, beside S
--   IsGroupOf k n gens gs    gs are the elements of the group of the n by n matrices gens, each once
--   IsModuleOf c S M n ds P  P is the free module over the primary invariants of c, over M, and its monomials are the standard ones
--   IsFirstFailing P o       o is the first item, from 1, of which P does not hold; None where it holds of all
--   ending_of_group f, ending_of_rank f   the ending that a fault of the group, of the standard monomials gives
--   IsTold c l e             so the check of c under the limits l ends where it does not accept, unless memory was refused
use Rattle.std.specs.Prelude.{◌≡◌, ◌<◌, ◌+◌, ℕ, List, All, Option, Some, None, map}
use Rattle.alg_core.specs.Fields.{FieldOn}
use Rattle.alg_core.specs.Spaces.{SpaceOver}
use Rattle.alg_core.specs.declared.limits.Limits.{Limits}
use Rattle.lin_algebra.specs.declared.matrix.Matrix.{Matrix}
use Rattle.matrix_group.specs.Actions.{IsSquare}
use Rattle.matrix_group.specs.Groups.{size as rows, cells_of, AreElements, IsGroup}
use Rattle.matrix_group.specs.declared.fault.GroupFault.{GroupFault}
use Rattle.matrix_group.specs.declared.fault.GroupFault.TheVariants as groups
use Rattle.poly_module.specs.SpaceVectors.{vectors_of}
use Rattle.finite_certificate.specs.StandardMonomials.{AreStandardMonomials}
use Rattle.primary_module.specs.PrimaryModules.{Primaries, StandsOver}
use Rattle.primary_module.specs.declared.fault.RankFault.{RankFault}
use Rattle.primary_module.specs.declared.fault.RankFault.TheVariants as ranks
use Rattle.prime_field.specs.PrimeFields.{IsPrimeField}
use Rattle.certificate_io.specs.Certificates.{CertificateOf, matrix_of}
use Rattle.certificate_io.specs.Conditions.{IsCertificate}
use Rattle.cert_check.specs.Conditions.{Condition, number}
use Rattle.cert_check.specs.Parts.{size, degrees, polynomial, primaries}
use Rattle.cert_check.specs.WellFormed.{plain, marked}
use Rattle.cert_check.specs.Work.{GroupStop, RankStop, IsRejectedAt, IsStoppedAt, IsTermStop}
use Rattle.cert_check.specs.declared.ending.Ending.{Ending}
use Rattle.cert_check.specs.declared.ending.Ending.TheVariants.{Rejected, GroupBound, RankBound, TermBound, Memory}

pub record IsPlainOf (c : CertificateOf ℕ) (S : SpaceOver ℕ) : Type 0 where
  pub field : IsPrimeField c.characteristic S.field
  pub is : S ≡ plain S.field c

pub record IsGiven (S : SpaceOver ℕ) (gens : List (Matrix ℕ)) (c : CertificateOf ℕ) : Type 0 where
  pub certificate : IsCertificate c
  pub space : IsPlainOf c S
  pub generators : map matrix_of gens ≡ c.matrices

pub record IsMarkedOf (c : CertificateOf ℕ) (S M : SpaceOver ℕ) (n : ℕ) (ds : List ℕ) : Type 0 where
  pub is : M ≡ marked S.field c
  pub variables : n ≡ size c
  pub degrees : ds ≡ degrees c

pub record IsGroupOf (k : FieldOn ℕ) (n : ℕ) (gens gs : List (Matrix ℕ)) : Type 0 where
  pub square : All (IsSquare k n) gs
  pub size : rows gs ≡ n
  pub elements : AreElements k n (cells_of gens) (cells_of gs)
  pub group : IsGroup k n (cells_of gs)

pub record IsModuleOf (c : CertificateOf ℕ) (S M : SpaceOver ℕ) (n : ℕ) (ds : List ℕ) (P : Primaries ℕ) : Type 0 where
  pub stands : StandsOver M n ds P
  pub theta : vectors_of M (λ m. m) P.theta ≡ map (polynomial M.field) c.primaries
  pub monomials : AreStandardMonomials S.field (size c) (primaries S.field c) P.monomials

abbrev pub IsFirstFailing : (ℕ → Type 0) → Option ℕ → Type 0
IsFirstFailing P None = (j : ℕ) → P j
IsFirstFailing P (Some i) = ((j : ℕ) → j < i → P j) × (¬ P i)

abbrev pub ending_of_group : GroupFault → Ending
ending_of_group (groups.GroupBound counted) = GroupBound counted
ending_of_group groups.Memory = Memory

abbrev pub ending_of_rank : RankFault → Ending
ending_of_rank (ranks.RankBound counted) = RankBound counted
ending_of_rank ranks.Memory = Memory

abbrev pub IsTold : CertificateOf ℕ → Limits → Ending → Type 0
IsTold c l (Rejected condition item) = (a : Condition) × (condition ≡ number a) × IsRejectedAt c l a item
IsTold c l (GroupBound counted) = (counted ≡ l.max_order + 1) × IsStoppedAt c l GroupStop
IsTold c l (RankBound counted) = (counted ≡ l.max_rank + 1) × IsStoppedAt c l RankStop
IsTold c l (TermBound degree count) = IsTermStop c l degree count
IsTold c l Memory = Unit {0}
