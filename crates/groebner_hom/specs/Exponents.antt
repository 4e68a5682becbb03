-- Powers of the variables that lie in an ideal.
--
--   exponent_cap                the greatest cap: 65535, so that twelve times it is an exponent
--   IsLeastExponent k θ i e     e is the least exponent with which variable i, from 0, has a power in the ideal of θ
--   AreLeastExponents k n θ es  es are these exponents of the n variables, one for each
--   HasUnitDegrees S            each variable of the space has the degree 1, and position 0 the degree 0
--   IsEndedBasis S ps           the terms ps are those of homogeneous polynomials, none of them 0 and none of a degree over the greatest
--                               cap, that are a Gröbner basis of an ideal in which each variable has a power
use Rattle.std.specs.Prelude.{◌≡◌, ◌≤◌, ◌<◌, ℕ, List, length, replicate, slice_index_or}
use Rattle.alg_core.specs.Fields.{FieldOn}
use Rattle.alg_core.specs.declared.term.Term.{Term}
use Rattle.alg_core.specs.Spaces.{SpaceOver}
use Rattle.alg_core.specs.SpaceGrading.{height}
use Rattle.alg_core.specs.SpaceOrder.{key_order}
use Rattle.alg_core.specs.Vectors.{Vect}
use Rattle.poly_module.specs.Modules.{listed, IsGroebnerBasis}
use Rattle.poly_module.specs.SpaceVectors.{vectors_of}
use Rattle.module_groebner.specs.HomogeneousLists.{AreNonzero}
use Rattle.finite_certificate.specs.Ideals.{InIdeal, Ended, variable_power}
use Rattle.groebner_hom.specs.IdealBases.{AreHomogeneousPolys}

abbrev pub exponent_cap : ℕ
exponent_cap = 65535

module _ {E : Type 0} (k : FieldOn E) where
  pub record IsLeastExponent (θ : List (Vect k)) (i e : ℕ) : Type 0 where
    pub inside : InIdeal k θ (variable_power k i e)
    pub least : (d : ℕ) → InIdeal k θ (variable_power k i d) → e ≤ d

  pub record AreLeastExponents (n : ℕ) (θ : List (Vect k)) (es : List ℕ) : Type 0 where
    pub count : length es ≡ n
    pub each : (i : ℕ) → i < n → IsLeastExponent θ i (slice_index_or es i 0)

module _ {E : Type 0} (S : SpaceOver E) where
  pub record HasUnitDegrees : Type 0 where
    pub ones : S.weights ≡ replicate (length S.weights) 1
    pub shift : height S.shifts 0 ≡ 0

  pub record IsEndedBasis (ps : List (List (Term E (List ℕ)))) : Type 0 where
    pub polynomials : AreHomogeneousPolys S exponent_cap ps
    pub nonzero : AreNonzero S.field (vectors_of S (λ m. m) ps)
    pub basis : IsGroebnerBasis S.field (listed S.field (vectors_of S (λ m. m) ps)) (key_order S)
    pub ended : Ended S.field (length S.weights) (vectors_of S (λ m. m) ps)
