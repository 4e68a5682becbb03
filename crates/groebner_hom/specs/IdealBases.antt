-- Bases of ideals of homogeneous polynomials, and elements of an ideal above a cap.
--
--   IsHomogeneousPoly S d p      the terms p are those of a homogeneous polynomial over the space S, of a degree that is at most d;
--                                0 is such a polynomial
--   AreHomogeneousPolys S d ps   each of the lists of terms is so
--   NoIdealAbove S θ cap         the ideal of θ has no element above the cap: its reduced basis has no member of a degree over it
--   IsIdealBound S θ cap b       b names an element of the ideal of θ above the cap, of the least degree
use Rattle.std.specs.Prelude.{ℕ, List, All}
use Rattle.alg_core.specs.declared.term.Term.{Term}
use Rattle.alg_core.specs.Spaces.{SpaceOver}
use Rattle.alg_core.specs.Vectors.{Vect}
use Rattle.poly_module.specs.SpaceVectors.{IsPoly, vector_of}
use Rattle.module_groebner.specs.declared.bound.BasisBound.{BasisBound}
use Rattle.module_groebner.specs.declared.bound.Which.TheVariants.{Ideal}
use Rattle.module_groebner.specs.BasisBounds.{NothingAbove, IsBasisBound}
use Rattle.module_groebner.specs.HomogeneousLists.{IsHomogeneousUpTo}
use Rattle.finite_certificate.specs.Ideals.{InIdeal}

module _ {E : Type 0} (S : SpaceOver E) where
  -- a homogeneous polynomial of a degree that is at most d
  pub record IsHomogeneousPoly (d : ℕ) (p : List (Term E (List ℕ))) : Type 0 where
    pub polynomial : IsPoly S (λ m. m) p
    pub homogeneous : IsHomogeneousUpTo S d (vector_of S (λ m. m) p)

  abbrev pub AreHomogeneousPolys : ℕ → List (List (Term E (List ℕ))) → Type 0
  AreHomogeneousPolys d ps = All (IsHomogeneousPoly d) ps

  abbrev pub NoIdealAbove : List (Vect S.field) → ℕ → Type 0
  NoIdealAbove θ cap = NothingAbove S (InIdeal S.field θ) cap

  abbrev pub IsIdealBound : List (Vect S.field) → ℕ → BasisBound E → Type 0
  IsIdealBound θ cap b = IsBasisBound S (InIdeal S.field θ) cap Ideal b
