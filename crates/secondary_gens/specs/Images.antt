-- Homogeneous polynomials with their terms.
--
--   IsImage S d v p      the terms p are those of v over the space S, and v is a form of degree d in its variables
--   unit_exponents n i   the exponents of variable i among n
use Rattle.std.specs.Prelude.{ℕ, List, length, replicate, slice_set}
use Rattle.alg_core.specs.Vectors.{Vect}
use Rattle.alg_core.specs.declared.term.Term.{Term}
use Rattle.alg_core.specs.Spaces.{SpaceOver}
use Rattle.poly_module.specs.Parts.{Supp}
use Rattle.poly_module.specs.SpaceVectors.{IsPolyOf}
use Rattle.invariant_space.specs.InvariantSpaces.{IsOfDegree}

abbrev pub unit_exponents : ℕ → ℕ → List ℕ
unit_exponents n i = slice_set (replicate n 0) i 1

module _ {E : Type 0} (S : SpaceOver E) where
  -- the terms of a form of degree d
  pub record IsImage (d : ℕ) (v : Vect S.field) (p : List (Term E (List ℕ))) : Type 0 where
    pub polynomial : IsPolyOf S (λ m. m) v p
    pub form : Supp S.field (IsOfDegree (length S.weights) d) v
