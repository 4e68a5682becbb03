-- How `ring` ends at a problem.
--
--   IsCertificateOf q tries c    c is the certificate of the problem q: over its field and its generators each part is the one that
--                                they determine. Of the limits it depends on the number of tries alone
--   IsCertified q tries text     the text is that of the certificate of q, which meets each condition and has the properties
--   IsGrouped q l N              the generators of q generate a group of N elements, and that is no more than the limit allows
--   IsDivided q, IsUndivided q   the characteristic divides the number of elements of the group, or does not
--   IsFound q l S ms θ           the group is no larger than the limit allows, and θ are the primary invariants with which the search
--                                ends, over the space S and the generators ms of q
--   IsRanked q l S ms θ B        it is so, and B are the standard monomials, no more than the limit allows
--   AreAverages q S ms B fs      the characteristic does not divide the order, and the polynomials with the terms fs are the averages of B
--   AreFixedValues q l S ms θ B fs   it divides the order, the graph of the differences has no element above the cap, and fs are the
--                                values of the fixed members of the kernel evidence
--   AreImages q l S ms θ B fs    θ are found, B are their standard monomials, and fs are the averages or these values, homogeneous
--   IsKept q l                   no limit is met up to these and their degrees
--   IsSearchFault q l f          the search for the primary invariants ends at the bound f
--   IsRankFault q l f            there are more standard monomials than the limit allows, and f names one more than the limit
--   IsGraphFault q l f           the characteristic divides the order, and f names an element of the graph above the cap, of the least
--                                degree
--   IsImageFault q l f           f names the least degree of an average or value other than 0 that has more monomials than the limit
--                                allows, and their number
--   IsTextFault q l f            the text of the certificate is longer than the limit allows, and f names its length
--   IsRingBound l q f            f is the first of these bounds, after that of the group
--   IsRingAnswer l q text        no bound is met, and the text is that of the certificate
use Rattle.std.specs.Prelude.{◌≡◌, ◌⊎◌, ◌<◌, ◌≤◌, ◌+◌, ℕ, List, All, length, min}
use Rattle.std.specs.Int.{◌∣◌}
use Rattle.alg_core.specs.Fields.{FieldOn}
use Rattle.alg_core.specs.Monomials.{mono}
use Rattle.alg_core.specs.Spaces.{SpaceOver}
use Rattle.alg_core.specs.Vectors.{Vect}
use Rattle.alg_core.specs.declared.limits.Limits.{Limits}
use Rattle.alg_core.specs.declared.term.Term.{Term}
use Rattle.poly_module.specs.Polynomials.{single_vector}
use Rattle.poly_module.specs.SpaceVectors.{vector_of, vectors_of}
use Rattle.poly_text.specs.Outputs.{length_limit}
use Rattle.lin_algebra.specs.declared.matrix.Matrix.{Matrix}
use Rattle.reynolds_op.specs.Averages.{IsAverage}
use Rattle.finite_certificate.specs.StandardMonomials.{AreStandardMonomials, IsOverRank}
use Rattle.finite_certificate.specs.MarkSpaces.{ArePositiveForms}
use Rattle.module_groebner.specs.BasisBounds.{NothingAbove, IsBasisBound}
use Rattle.module_groebner.specs.declared.bound.BasisBound.{BasisBound as Bound}
use Rattle.module_groebner.specs.declared.bound.Which.TheVariants.{Graph}
use Rattle.syzygy_kernel.specs.Graphs.{InGraph, graph_space}
use Rattle.syzygy_kernel.specs.Kernels.{AreKernel, fixed_values}
use Rattle.syzygy_kernel.specs.declared.member.Member.{Member}
use Rattle.finvar_text.specs.Problems.{Problem}
use Rattle.primary_search.specs.Searches.{IsEnd}
use Rattle.secondary_gens.specs.Forms.{IsSmallForm}
use Rattle.secondary_gens.specs.Lists.{Each}
use Rattle.secondary_gens.specs.Secondaries.{IsFirstPast, IsPastBound}
use Rattle.certificate_io.specs.Certificates.{CertificateOf}
use Rattle.certificate_io.specs.Texts.{certificate_text}
use Rattle.cert_check.specs.Conditions.{Holds}
use Rattle.cert_check.specs.Makings.{IsMade}
use Rattle.cert_check.specs.Properties.{HasProperties}
use Rattle.cert_check.specs.WellFormed.{IsWellFormed}
use Rattle.invring_app.specs.declared.status.BoundFault.{BoundFault}
use Rattle.invring_app.specs.declared.status.BoundFault.TheVariants.{TermBound, BasisBound, RankBound, TextBound}
use Rattle.invring_app.specs.Commands.Bases.{AreMatricesOf, count_of}
use Rattle.invring_app.specs.Commands.Orders.{IsOrderOf, IsOrderBound}
use Rattle.invring_app.specs.Commands.Primaries.{IsGroundOf, IsSearchBound}

pub record IsCertificateOf (q : Problem) (tries : ℕ) (c : CertificateOf ℕ) : Type 0 where
  pub field : FieldOn ℕ
  pub matrices : List (Matrix ℕ)
  pub well_formed : IsWellFormed field c matrices
  pub characteristic : c.characteristic ≡ q.characteristic
  pub names : c.names ≡ q.variables
  pub are_matrices : AreMatricesOf q matrices
  pub made : IsMade field matrices c tries

pub record IsCertified (q : Problem) (tries : ℕ) (text : List ℕ) : Type 0 where
  pub certificate : CertificateOf ℕ
  pub of_problem : IsCertificateOf q tries certificate
  pub holds : Holds of_problem.field of_problem.matrices certificate
  pub properties : HasProperties of_problem.field of_problem.matrices certificate
  pub is_text : text ≡ certificate_text certificate

abbrev pub IsDivided : Problem → Type 0
IsDivided q = (N : ℕ) × IsOrderOf q N × (q.characteristic ∣ N)

abbrev pub IsUndivided : Problem → Type 0
IsUndivided q = (N : ℕ) × IsOrderOf q N × (¬ (q.characteristic ∣ N))

module _ (q : Problem) (l : Limits) where
  pub record IsGrouped (N : ℕ) : Type 0 where
    pub order : IsOrderOf q N
    pub within : N ≤ l.max_order

  module _ (S : SpaceOver ℕ) (ms : List (Matrix ℕ)) where
    pub record IsFound (θ : List (Vect S.field)) : Type 0 where
      pub ground : IsGroundOf q S ms
      pub order : ℕ
      pub group : IsGrouped order
      pub end : IsEnd S ms l θ

    pub record IsRanked (θ : List (Vect S.field)) (B : List (List ℕ)) : Type 0 where
      pub found : IsFound θ
      pub standard : AreStandardMonomials S.field (length S.weights) θ B
      pub few : length B ≤ l.max_rank

    pub record AreAverages (B : List (List ℕ)) (fs : List (List (Term ℕ (List ℕ)))) : Type 0 where
      pub undivided : IsUndivided q
      pub averages : Each (λ b f. IsAverage S.field ms (single_vector S.field (0, mono b)) (vector_of S (λ m. m) f)) B fs

    pub record AreFixedValues (θ : List (Vect S.field)) (B : List (List ℕ)) (fs : List (List (Term ℕ (List ℕ)))) : Type 0 where
      pub divided : IsDivided q
      pub degrees : List ℕ
      pub forms : ArePositiveForms S.field (length S.weights) degrees θ
      pub members : List (Member ℕ)
      pub kernel : AreKernel S.field (length S.weights) degrees θ ms B members
      pub within : NothingAbove (graph_space S.field degrees (length ms) B) (InGraph S.field θ ms B) l.max_basis
      pub values : vectors_of S (λ m. m) fs ≡ fixed_values S.field (length S.weights) θ members

    pub record AreImages (θ : List (Vect S.field)) (B : List (List ℕ)) (fs : List (List (Term ℕ (List ℕ)))) : Type 0 where
      pub ranked : IsRanked θ B
      pub forms : All (IsSmallForm S) fs
      pub generating : AreAverages B fs ⊎ AreFixedValues θ B fs

  pub record IsKept : Type 0 where
    pub space : SpaceOver ℕ
    pub matrices : List (Matrix ℕ)
    pub primaries : List (Vect space.field)
    pub monomials : List (List ℕ)
    pub images : List (List (Term ℕ (List ℕ)))
    pub are_images : AreImages space matrices primaries monomials images
    pub none : (d : ℕ) → ¬ IsPastBound space images l.max_terms d

  pub record IsSearchFault (f : BoundFault) : Type 0 where
    pub order : ℕ
    pub group : IsGrouped order
    pub bound : IsSearchBound l q f

  pub record IsRankFault (f : BoundFault) : Type 0 where
    pub space : SpaceOver ℕ
    pub matrices : List (Matrix ℕ)
    pub primaries : List (Vect space.field)
    pub found : IsFound space matrices primaries
    pub over : IsOverRank space.field (length space.weights) primaries l.max_rank
    pub fault : f ≡ RankBound (l.max_rank + 1)

  pub record IsGraphFault (f : BoundFault) : Type 0 where
    pub space : SpaceOver ℕ
    pub matrices : List (Matrix ℕ)
    pub primaries : List (Vect space.field)
    pub monomials : List (List ℕ)
    pub ranked : IsRanked space matrices primaries monomials
    pub divided : IsDivided q
    pub degrees : List ℕ
    pub forms : ArePositiveForms space.field (length space.weights) degrees primaries
    pub bound : Bound ℕ
    pub above : IsBasisBound (graph_space space.field degrees (length matrices) monomials) (InGraph space.field primaries matrices monomials) l.max_basis Graph bound
    pub fault : f ≡ BasisBound bound.which bound.vector bound.degree

  pub record IsImageFault (f : BoundFault) : Type 0 where
    pub space : SpaceOver ℕ
    pub matrices : List (Matrix ℕ)
    pub primaries : List (Vect space.field)
    pub monomials : List (List ℕ)
    pub images : List (List (Term ℕ (List ℕ)))
    pub are_images : AreImages space matrices primaries monomials images
    pub degree : ℕ
    pub first : IsFirstPast space images l.max_terms degree
    pub fault : f ≡ TermBound degree (count_of degree q)

  pub record IsTextFault (f : BoundFault) : Type 0 where
    pub kept : IsKept
    pub certificate : CertificateOf ℕ
    pub of_problem : IsCertificateOf q l.tries certificate
    pub longer : l.max_text < length (certificate_text certificate)
    pub fault : f ≡ TextBound (min (length (certificate_text certificate)) length_limit)

abbrev pub IsRingBound : Limits → Problem → BoundFault → Type 0
IsRingBound l q f = IsOrderBound l q f ⊎ IsSearchFault q l f ⊎ IsRankFault q l f ⊎ IsGraphFault q l f ⊎ IsImageFault q l f ⊎ IsTextFault q l f

pub record IsRingAnswer (l : Limits) (q : Problem) (text : List ℕ) : Type 0 where
  pub kept : IsKept q l
  pub certificate : CertificateOf ℕ
  pub of_problem : IsCertificateOf q l.tries certificate
  pub short : length (certificate_text certificate) ≤ l.max_text
  pub is_text : text ≡ certificate_text certificate
