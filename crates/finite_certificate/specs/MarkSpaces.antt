-- The space of the polynomials in the variables and the marks of some polynomials θ in the variables alone.
--
--   degree_limit               the greatest degree of a polynomial that is handed in: 65535, so that the product of two is an exponent
--   mark_space field s         the space that a space of the program with a block order stands for
--   IsMarkSpace S n ds         n variables of degree 1 and marks of the degrees ds, by their block order, with position 0 of shift 0
--   HasMark n t                the key t has a variable after the first n: a mark
--   ArePositiveForms k n ds θ  θ are homogeneous polynomials in n variables, of the positive degrees ds
use Rattle.std.specs.Prelude.{◌≡◌, ◌<◌, ℕ, List, ◌++◌, All, length, replicate}
use Rattle.alg_core.specs.Fields.{FieldOn}
use Rattle.alg_core.specs.Keys.{Key}
use Rattle.alg_core.specs.Vectors.{Vect}
use Rattle.alg_core.specs.BlockOrder.{block_order}
use Rattle.alg_core.specs.declared.block_order.BlockOrder.{BlockOrder}
use Rattle.alg_core.specs.declared.space.Space.{Space}
use Rattle.alg_core.specs.Spaces.{SpaceOver, over}
use Rattle.alg_core.specs.SpaceGrading.{AllPositive, height}
use Rattle.poly_module.specs.Parts.{InVariables}
use Rattle.poly_module.specs.Forms.{AreForms}

abbrev pub degree_limit : ℕ
degree_limit = 65535

-- no monomial ends with the exponent 0
abbrev pub HasMark : ℕ → Key → Type 0
HasMark n t = n < length t.1.0

abbrev pub mark_space : {F E : Type 0} → (F → FieldOn E) → Space F BlockOrder → SpaceOver E
mark_space field s = over field (λ o. block_order o.vars o.weights.items) s

pub record IsMarkSpace {E : Type 0} (S : SpaceOver E) (n : ℕ) (ds : List ℕ) : Type 0 where
  pub order : S.order ≡ block_order n ds
  pub weights : S.weights ≡ replicate n 1 ++ ds
  pub position : 0 < length S.shifts
  pub shift : height S.shifts 0 ≡ 0

-- homogeneous polynomials in n variables of positive degrees
pub record ArePositiveForms {E : Type 0} (k : FieldOn E) (n : ℕ) (ds : List ℕ) (θ : List (Vect k)) : Type 0 where
  pub forms : AreForms k (replicate n 1) ds θ
  pub variables : All (InVariables k n) θ
  pub positive : AllPositive ds
