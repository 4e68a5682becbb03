-- The basis that is kept of the ideal of what a walk took.
--
--   IsKept S cap T bs    the lists of terms bs are those of homogeneous polynomials of degrees up to the cap, and of the reduced basis of
--                        the ideal of the polynomials with the terms T
use Rattle.std.specs.Prelude.{ℕ, List}
use Rattle.alg_core.specs.Spaces.{SpaceOver}
use Rattle.alg_core.specs.declared.term.Term.{Term}
use Rattle.poly_module.specs.ReducedLists.{IsReducedBasisOf}
use Rattle.poly_module.specs.SpaceVectors.{vectors_of}
use Rattle.finite_certificate.specs.Ideals.{InIdeal}
use Rattle.groebner_hom.specs.IdealBases.{AreHomogeneousPolys}

pub record IsKept {E : Type 0} (S : SpaceOver E) (cap : ℕ) (T bs : List (List (Term E (List ℕ)))) : Type 0 where
  pub polynomials : AreHomogeneousPolys S cap bs
  pub reduced : IsReducedBasisOf S (InIdeal S.field (vectors_of S (λ m. m) T)) (vectors_of S (λ m. m) bs)
