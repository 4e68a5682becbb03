-- The ways in which a search under limits ends.
--
--   Ends S gens l             with a candidate that is taken
--   LacksPrimaries S gens l   after the last degree
--   IsPastTerms S gens l      before a degree with too many monomials
--   StopsAtColon S gens l     at a candidate whose colon module has an element over the cap
--   StopsAtIdeal S gens l     at a candidate that is to be taken and whose ideal has one
use Rattle.std.specs.Prelude.{ℕ, List}
use Rattle.alg_core.specs.declared.limits.Limits.{Limits}
use Rattle.alg_core.specs.Vectors.{Vect}
use Rattle.alg_core.specs.Spaces.{SpaceOver}
use Rattle.lin_algebra.specs.declared.matrix.Matrix.{Matrix}
use Rattle.module_groebner.specs.declared.bound.BasisBound.{BasisBound}
use Rattle.primary_search.specs.Searches.{IsNoPrimary, IsTermBound, IsColonStop, IsIdealStop, IsEnd}

module _ {E : Type 0} (S : SpaceOver E) (gens : List (Matrix E)) (l : Limits) where
  abbrev pub Ends : Type 0
  Ends = (θ : List (Vect S.field)) × IsEnd S gens l θ

  abbrev pub LacksPrimaries : Type 0
  LacksPrimaries = (found : List (Vect S.field)) × (d : ℕ) × IsNoPrimary S gens l found d

  abbrev pub IsPastTerms : Type 0
  IsPastTerms = (d : ℕ) × (count : ℕ) × IsTermBound S gens l d count

  abbrev pub StopsAtColon : Type 0
  StopsAtColon = (b : BasisBound E) × IsColonStop S gens l b

  abbrev pub StopsAtIdeal : Type 0
  StopsAtIdeal = (b : BasisBound E) × IsIdealStop S gens l b
