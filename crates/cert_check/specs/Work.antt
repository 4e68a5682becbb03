-- The order of the work of a check: the conditions item by item, and three limits between them.
--
--   Point, IsBefore p q     a condition and an item; p comes before q
--   Stop                    the limits on the elements of the group, on the standard monomials, and on the monomials of a degree
--   stop_point gens c s     the item before which a limit is looked at: the printed order, the printed rank, all of K9
--   degree_count c f        how many monomials the degree of the polynomial f has
--   IsPast c m j            the secondary invariant at the place j, from 0, has a degree with more than m monomials
--   IsFirstPast c m d       d is the degree of the first of them
--   Keeps, Exceeds s        the limit s is kept; it is exceeded
--   MeetsBefore p           each item before p is met
--   KeepsBefore p           each limit that is looked at before p is kept
--   Reached p               both
--   Fails a i               all before the condition a at the item i is in order, and it is not met
--   Stops s                 all before the limit s is in order, and it is exceeded
--   Passes                  all conditions are met, and all limits are kept
--   IsAccepted, IsRejectedAt, IsStoppedAt, IsTermStop c l   so ends the check of c under the limits l, over its field and its
--                           matrices
use Rattle.std.specs.Prelude.{◌≡◌, ◌⊎◌, ◌<◌, ◌≤◌, ◌+◌, ℕ, List, length, slice_get, Some}
use Rattle.alg_core.specs.Binomials.{monomials_of_degree}
use Rattle.alg_core.specs.Fields.{FieldOn}
use Rattle.alg_core.specs.declared.limits.Limits.{Limits}
use Rattle.alg_core.specs.declared.term.Term.{Term}
use Rattle.lin_algebra.specs.declared.matrix.Matrix.{Matrix}
use Rattle.matrix_group.specs.Groups.{cells_of, IsOrder, IsOverOrder}
use Rattle.finite_certificate.specs.StandardMonomials.{AreStandardMonomials, IsOverRank}
use Rattle.secondary_gens.specs.Forms.{degree_of}
use Rattle.certificate_io.specs.Certificates.{CertificateOf}
use Rattle.cert_check.specs.Conditions.{Condition, Group, Rank, Redundance, number, Meets, Holds}
use Rattle.cert_check.specs.Parts.{size, primaries}
use Rattle.cert_check.specs.WellFormed.{IsWellFormed}

abbrev pub Point : Type 0
Point = Condition × ℕ

abbrev pub IsBefore : Point → Point → Type 0
IsBefore p q = (number p.0 < number q.0) ⊎ ((number p.0 ≡ number q.0) × (p.1 < q.1))

pub data Stop : Type 0 where
  GroupStop : Stop
  RankStop : Stop
  TermStop : Stop

abbrev pub stop_point : List (Matrix ℕ) → CertificateOf ℕ → Stop → Point
stop_point gens c GroupStop = (Group, length gens + 1)
stop_point gens c RankStop = (Rank, size c + 1)
stop_point gens c TermStop = (Redundance, 0)

abbrev pub degree_count : CertificateOf ℕ → List (Term ℕ (List ℕ)) → ℕ
degree_count c f = monomials_of_degree (size c) (degree_of f)

-- the degree of the secondary invariant at a place has more than m monomials
pub record IsPast (c : CertificateOf ℕ) (m j : ℕ) : Type 0 where
  pub polynomial : List (Term ℕ (List ℕ))
  pub member : slice_get c.secondaries j ≡ Some polynomial
  pub past : m < degree_count c polynomial

-- the first of them
pub record IsFirstPast (c : CertificateOf ℕ) (m d : ℕ) : Type 0 where
  pub place : ℕ
  pub past : IsPast c m place
  pub degree : d ≡ degree_of past.polynomial
  pub first : (j : ℕ) → IsPast c m j → place ≤ j

module _ (k : FieldOn ℕ) (gens : List (Matrix ℕ)) (c : CertificateOf ℕ) where
  -- each item before a point
  abbrev pub MeetsBefore : Point → Type 0
  MeetsBefore p = (a : Condition) (i : ℕ) → IsBefore (a, i) p → Meets k gens c a i

  module _ (l : Limits) where
    abbrev pub Keeps : Stop → Type 0
    Keeps GroupStop = (N : ℕ) × IsOrder k (size c) (cells_of gens) N × (N ≤ l.max_order)
    Keeps RankStop = (B : List (List ℕ)) × AreStandardMonomials k (size c) (primaries k c) B × (length B ≤ l.max_rank)
    Keeps TermStop = (j : ℕ) → ¬ IsPast c l.max_terms j

    abbrev pub Exceeds : Stop → Type 0
    Exceeds GroupStop = IsOverOrder k (size c) (cells_of gens) l.max_order
    Exceeds RankStop = IsOverRank k (size c) (primaries k c) l.max_rank
    Exceeds TermStop = (d : ℕ) × IsFirstPast c l.max_terms d

    abbrev pub KeepsBefore : Point → Type 0
    KeepsBefore p = (s : Stop) → IsBefore (stop_point gens c s) p → Keeps s

    -- all before a point is in order
    pub record Reached (p : Point) : Type 0 where
      pub met : MeetsBefore p
      pub kept : KeepsBefore p

    -- a limit is looked at just before its item
    pub record Fails (a : Condition) (i : ℕ) : Type 0 where
      pub met : MeetsBefore (a, i)
      pub kept : KeepsBefore (a, i + 1)
      pub fails : ¬ Meets k gens c a i

    pub record Stops (s : Stop) : Type 0 where
      pub met : MeetsBefore (stop_point gens c s)
      pub kept : KeepsBefore (stop_point gens c s)
      pub exceeded : Exceeds s

    pub record Passes : Type 0 where
      pub holds : Holds k gens c
      pub kept : (s : Stop) → Keeps s

module _ (c : CertificateOf ℕ) (l : Limits) where
  pub record IsAccepted : Type 0 where
    pub field : FieldOn ℕ
    pub matrices : List (Matrix ℕ)
    pub well_formed : IsWellFormed field c matrices
    pub passes : Passes field matrices c l

  pub record IsRejectedAt (a : Condition) (i : ℕ) : Type 0 where
    pub field : FieldOn ℕ
    pub matrices : List (Matrix ℕ)
    pub well_formed : IsWellFormed field c matrices
    pub fails : Fails field matrices c l a i

  pub record IsStoppedAt (s : Stop) : Type 0 where
    pub field : FieldOn ℕ
    pub matrices : List (Matrix ℕ)
    pub well_formed : IsWellFormed field c matrices
    pub stops : Stops field matrices c l s

  -- the first secondary invariant whose degree has more monomials than allowed has the degree d, with so many
  pub record IsTermStop (d counted : ℕ) : Type 0 where
    pub stop : IsStoppedAt TermStop
    pub first : IsFirstPast c l.max_terms d
    pub count : counted ≡ monomials_of_degree (size c) d
