-- The lifts of polynomials θ in n variables: the reduced basis of the ideal of their relations, in the variables and a mark for
-- each of them.
--
--   AreLifts S n θ vs          vs is the reduced basis of the ideal of the relations, by the order of the space S
--   LeadsWithoutMarks S n vs   no lead of a member has a mark
--   HavePowers S n vs          of each of the n variables a power is the lead of a member
--   AreUnmarkedLifts S n θ ls  the lists of terms ls are those of the lifts, which are homogeneous and of no degree over the limit;
--                              no lead of them has a mark
--   IsLeastPower k n θ i p     p is the least exponent with which variable i, from 0, has a power in the ideal of θ, and the
--                              coordinates of that power
--   AreLeastPowers k n θ ps    they are so of the n variables, one for each
--   AreRegularForms k n ds θ   θ are forms of the positive degrees ds, each a nonzerodivisor modulo those before it
use Rattle.std.specs.Prelude.{◌≡◌, ◌<◌, ℕ, List, length, slice_index_or}
use Rattle.alg_core.specs.Fields.{FieldOn}
use Rattle.alg_core.specs.Keys.{Key}
use Rattle.alg_core.specs.Lists.{In}
use Rattle.alg_core.specs.Spaces.{SpaceOver}
use Rattle.alg_core.specs.SpaceOrder.{key_order}
use Rattle.alg_core.specs.Vectors.{Vect, zero_vector}
use Rattle.alg_core.specs.declared.term.Term.{Term}
use Rattle.poly_module.specs.Marks.{relations}
use Rattle.poly_module.specs.Modules.{LeadBy}
use Rattle.poly_module.specs.ReducedLists.{IsReducedBasisOf}
use Rattle.poly_module.specs.SpaceVectors.{vectors_of}
use Rattle.finite_certificate.specs.Ideals.{InIdeal, Regular, variable_power}
use Rattle.finite_certificate.specs.MarkSpaces.{HasMark, ArePositiveForms, degree_limit}
use Rattle.finite_certificate.specs.StandardMonomials.{IsCoordinates}
use Rattle.groebner_hom.specs.Exponents.{IsLeastExponent}
use Rattle.groebner_hom.specs.IdealBases.{AreHomogeneousPolys}
use Rattle.groebner_hom.specs.LeadPowers.{HasPowerLead}

module _ {E : Type 0} (S : SpaceOver E) (n : ℕ) where
  abbrev pub AreLifts : List (Vect S.field) → List (Vect S.field) → Type 0
  AreLifts θ vs = IsReducedBasisOf S (InIdeal S.field (relations S.field n θ)) vs

  abbrev pub LeadsWithoutMarks : List (Vect S.field) → Type 0
  LeadsWithoutMarks vs = (v : Vect S.field) (t : Key) → In v vs → LeadBy S.field (key_order S) v t → ¬ HasMark n t

  abbrev pub HavePowers : List (Vect S.field) → Type 0
  HavePowers vs = (i : ℕ) → i < n → HasPowerLead S vs i

  -- the lifts of the program
  pub record AreUnmarkedLifts (θ : List (Vect S.field)) (ls : List (List (Term E (List ℕ)))) : Type 0 where
    pub polynomials : AreHomogeneousPolys S degree_limit ls
    pub lifts : AreLifts θ (vectors_of S (λ m. m) ls)
    pub unmarked : LeadsWithoutMarks (vectors_of S (λ m. m) ls)

module _ {E : Type 0} (k : FieldOn E) (n : ℕ) where
  pub record IsLeastPower (θ : List (Vect k)) (i : ℕ) (p : ℕ × Vect k) : Type 0 where
    pub exponent : IsLeastExponent k θ i p.0
    pub form : IsCoordinates k n θ (variable_power k i p.0) p.1

  pub record AreLeastPowers (θ : List (Vect k)) (ps : List (ℕ × Vect k)) : Type 0 where
    pub count : length ps ≡ n
    pub each : (i : ℕ) → i < n → IsLeastPower θ i (slice_index_or ps i (0, zero_vector k))

  -- forms of positive degrees that are a regular sequence
  pub record AreRegularForms (ds : List ℕ) (θ : List (Vect k)) : Type 0 where
    pub forms : ArePositiveForms k n ds θ
    pub regular : Regular k θ
