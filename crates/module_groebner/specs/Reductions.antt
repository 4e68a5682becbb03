-- One step of division.
--
--   IsReduction S v g w     w is v less a multiple of g, by a scalar and a monomial, that cancels the lead of v
use Rattle.std.specs.Prelude.{◌≡◌}
use Rattle.std.specs.declared.cmp.Ordering.TheVariants.{Less}
use Rattle.alg_core.specs.Fields.{Scalar}
use Rattle.alg_core.specs.Monomials.{Mon}
use Rattle.alg_core.specs.Keys.{Key, times_key}
use Rattle.alg_core.specs.Vectors.{Vect, vectors, plus, shift}
use Rattle.alg_core.specs.Spaces.{SpaceOver}
use Rattle.alg_core.specs.SpaceOrder.{key_order}
use Rattle.poly_module.specs.Modules.{LeadBy}
use Rattle.poly_module.specs.Parts.{Supp}

pub record IsReduction {E : Type 0} (S : SpaceOver E) (v g w : Vect S.field) : Type 0 where
  pub factor : Scalar S.field
  pub monomial : Mon
  pub lead : Key
  pub is_lead : LeadBy S.field (key_order S) g lead
  pub top : LeadBy S.field (key_order S) v (times_key monomial lead)
  pub sum : plus S.field w ((vectors S.field).◌·◌ factor (shift S.field monomial g)) ≡ v
  pub below : Supp S.field (λ s. (key_order S).compare s (times_key monomial lead) ≡ Less) w
