-- Homogeneous polynomials of a space, where each variable has the degree 1.
--
--   unit_weights S        the weights 1 of the variables of the space
--   degree_of v           the greatest sum of the exponents of a term; 0 where there is no term
--   degrees_of vs         these degrees
--   IsSmallForm S v       the terms v are those of a homogeneous polynomial over S, of degree at most 12288, or of 0
--   IsPositiveForm S v    the same, where the degree is at least 1: so it is not 0
use Rattle.std.specs.Prelude.{◌≤◌, ◌<◌, ℕ, List, map, length, replicate}
use Rattle.alg_core.specs.Spaces.{SpaceOver, entries}
use Rattle.alg_core.specs.declared.term.Term.{Term}
use Rattle.poly_module.specs.Forms.{IsForm}
use Rattle.poly_module.specs.GreatestExponents.{total, greatest}
use Rattle.poly_module.specs.SpaceVectors.{vector_of, IsPoly}

-- the greatest degree of a term
abbrev pub degree_of : {E : Type 0} → List (Term E (List ℕ)) → ℕ
degree_of v = greatest (map (λ e. total e.0.1) (entries (λ m. m) v))

abbrev pub degrees_of : {E : Type 0} → List (List (Term E (List ℕ))) → List ℕ
degrees_of vs = map degree_of vs

module _ {E : Type 0} (S : SpaceOver E) where
  -- the weights 1
  abbrev pub unit_weights : List ℕ
  unit_weights = replicate (length S.weights) 1

  -- a homogeneous polynomial of degree at most 12288, or 0
  pub record IsSmallForm (v : List (Term E (List ℕ))) : Type 0 where
    pub polynomial : IsPoly S (λ m. m) v
    pub small : degree_of v ≤ 12288
    pub form : IsForm S.field unit_weights (degree_of v) (vector_of S (λ m. m) v)

  -- of degree at least 1
  pub record IsPositiveForm (v : List (Term E (List ℕ))) : Type 0 where
    pub form : IsSmallForm v
    pub positive : 0 < degree_of v
