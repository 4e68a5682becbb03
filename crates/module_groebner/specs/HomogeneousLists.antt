-- Lists of homogeneous vectors, and how great their degrees may be.
--
--   degree_limit             the greatest degree of a vector that is divided: 4294967295, so that no exponent is greater
--   cap_limit                the greatest cap, and degree of a member: half of that, so that the common multiples of two leads
--                            of members are within the degree limit
--   IsHomogeneousUpTo S d v  v is homogeneous of a degree that is at most d; 0 is so
--   AreHomogeneous S vs      each of the vectors is homogeneous of some degree
--   AreHomogeneousUpTo S d vs   of a degree that is at most d
--   AreUpTo S d vs           none has a key of a degree over d
--   AreNonzero k vs          none is 0
use Rattle.std.specs.Prelude.{◌≡◌, ◌≤◌, ℕ, List, All}
use Rattle.alg_core.specs.Fields.{FieldOn}
use Rattle.alg_core.specs.Vectors.{Vect, zero_vector}
use Rattle.alg_core.specs.Spaces.{SpaceOver}
use Rattle.poly_module.specs.Degrees.{IsHomogeneous}
use Rattle.poly_module.specs.SpaceVectors.{IsUpTo}

abbrev pub degree_limit : ℕ
degree_limit = 4294967295

abbrev pub cap_limit : ℕ
cap_limit = 2147483647

module _ {E : Type 0} (S : SpaceOver E) where
  -- homogeneous of a degree that is at most d
  abbrev pub IsHomogeneousUpTo : ℕ → Vect S.field → Type 0
  IsHomogeneousUpTo d v = (e : ℕ) × (e ≤ d) × IsHomogeneous S e v

  -- of some degree
  abbrev pub AreHomogeneous : List (Vect S.field) → Type 0
  AreHomogeneous vs = All (λ v. (e : ℕ) × IsHomogeneous S e v) vs

  abbrev pub AreHomogeneousUpTo : ℕ → List (Vect S.field) → Type 0
  AreHomogeneousUpTo d vs = All (IsHomogeneousUpTo d) vs

  abbrev pub AreUpTo : ℕ → List (Vect S.field) → Type 0
  AreUpTo d vs = All (IsUpTo S d) vs

abbrev pub AreNonzero : {E : Type 0} (k : FieldOn E) → List (Vect k) → Type 0
AreNonzero k vs = All (λ v. ¬ (v ≡ zero_vector k)) vs
