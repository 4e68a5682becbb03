-- Reduced echelon lists: what Gaussian elimination makes of a finite list of vectors.
--
--   Spans k vs v          v lies in the span of the list of vectors
--   IsEchelon k o U vs    the reduced echelon list of a set U of vectors, by the order o of the keys: members of U that span U,
--                         not 0, with lead coefficients 1, in falling order of their leads, no lead a key of another member
use Rattle.std.specs.Prelude.{◌≡◌, List}
use Rattle.alg_core.specs.Fields.{FieldOn}
use Rattle.alg_core.specs.Keys.{Key}
use Rattle.alg_core.specs.KeyOrders.{OrderOn}
use Rattle.alg_core.specs.Vectors.{Vect, vectors}
use Rattle.alg_core.specs.Spans.{InSpan}
use Rattle.poly_module.specs.ReducedLists.{IsReduced}

module _ {E : Type 0} (k : FieldOn E) where
  -- in the span of a list of vectors
  abbrev pub Spans : List (Vect k) → Vect k → Type 0
  Spans vs v = InSpan (vectors k) vs v

  -- the reduced echelon list: the reduced list where a key is a multiple of itself alone
  pub record IsEchelon (o : OrderOn Key) (U : Vect k → Type 0) (vs : List (Vect k)) : Type 0 where
    pub reduced : IsReduced k o (λ s t. s ≡ t) U vs
    pub spans : (v : Vect k) → U v → Spans vs v
