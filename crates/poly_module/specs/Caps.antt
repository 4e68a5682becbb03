-- Elements of a module above a degree. The module is given as a set U of vectors.
--
--   IsAboveCap S U cap v t    v is a homogeneous element with the lead t, of a degree over the cap; no lead of an element that has
--                             no key of a degree over the cap divides t
use Rattle.std.specs.Prelude.{◌<◌, ℕ}
use Rattle.alg_core.specs.Keys.{Key, KeyDivides}
use Rattle.alg_core.specs.Vectors.{Vect}
use Rattle.alg_core.specs.Spaces.{SpaceOver}
use Rattle.alg_core.specs.SpaceOrder.{key_order}
use Rattle.alg_core.specs.SpaceGrading.{degree}
use Rattle.poly_module.specs.Modules.{LeadBy}
use Rattle.poly_module.specs.Degrees.{IsHomogeneous}
use Rattle.poly_module.specs.SpaceVectors.{IsUpTo}

-- an element above the cap that no smaller one explains
pub record IsAboveCap {E : Type 0} (S : SpaceOver E) (U : Vect S.field → Type 0) (cap : ℕ) (v : Vect S.field) (t : Key) : Type 0 where
  pub inside : U v
  pub lead : LeadBy S.field (key_order S) v t
  pub homogeneous : IsHomogeneous S (degree S t) v
  pub over : cap < degree S t
  pub new : (w : Vect S.field) (s : Key) → U w → IsUpTo S cap w → LeadBy S.field (key_order S) w s → ¬ KeyDivides s t
