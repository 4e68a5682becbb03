-- Elements of a module above a cap, as they are named by those who look for a basis. The module is a set U of vectors.
--
--   SomeAbove S U cap          there is an element above the cap: a homogeneous one of a degree over the cap whose lead no lead
--                              of an element of degree at most the cap divides
--   NothingAbove S U cap       there is none: the reduced basis of the module has no member of a degree over the cap
--   IsBasisBound S U cap w b   b names such an element of the least degree, that degree, and which module it is: w
use Rattle.std.specs.Prelude.{◌≡◌, ◌≤◌, ℕ}
use Rattle.alg_core.specs.Keys.{Key}
use Rattle.alg_core.specs.Vectors.{Vect}
use Rattle.alg_core.specs.Spaces.{SpaceOver}
use Rattle.alg_core.specs.SpaceGrading.{degree}
use Rattle.poly_module.specs.SpaceVectors.{IsVector, vector_of}
use Rattle.poly_module.specs.Caps.{IsAboveCap}
use Rattle.module_groebner.specs.declared.bound.BasisBound.{BasisBound}
use Rattle.module_groebner.specs.declared.bound.Which.{Which}

module _ {E : Type 0} (S : SpaceOver E) (U : Vect S.field → Type 0) (cap : ℕ) where
  abbrev pub SomeAbove : Type 0
  SomeAbove = (v : Vect S.field) × (t : Key) × IsAboveCap S U cap v t

  abbrev pub NothingAbove : Type 0
  NothingAbove = (v : Vect S.field) (t : Key) → ¬ IsAboveCap S U cap v t

  pub record IsBasisBound (w : Which) (b : BasisBound E) : Type 0 where
    pub fits : IsVector S (λ m. m) b.vector
    pub lead : Key
    pub above : IsAboveCap S U cap (vector_of S (λ m. m) b.vector) lead
    pub reached : degree S lead ≡ b.degree
    pub least : (v : Vect S.field) (t : Key) → IsAboveCap S U cap v t → b.degree ≤ degree S t
    pub which : b.which ≡ w
