-- The invariants are closed under sums, multiples and products.
use Rattle.matrix_group.proofs.Common.{List, ap, ap₂, ◌∙◌, FieldOn, Vect, plus, zero_vector, scale, product, one_vector, Matrix, Invariant}
use Rattle.matrix_group.proofs.ActionLaws.{act_plus, act_zero, act_scale, act_product, act_one}

module _ {E : Type 0} (k : FieldOn E) (gens : List (Matrix E)) where
  pub invariant_zero : Invariant k gens (zero_vector k)
  invariant_zero i m d = act_zero k _ _

  pub invariant_one : Invariant k gens (one_vector k)
  invariant_one i m d = act_one k _ _

  pub invariant_plus : (u v : Vect k) → Invariant k gens u → Invariant k gens v → Invariant k gens (plus k u v)
  invariant_plus u v h g i m d = act_plus k _ _ u v ∙ ap₂ (plus k) (h i m d) (g i m d)

  pub invariant_scale : (c : E) (u : Vect k) → Invariant k gens u → Invariant k gens (scale k c u)
  invariant_scale c u h i m d = act_scale k _ _ c u ∙ ap (scale k c) (h i m d)

  pub invariant_product : (u v : Vect k) → Invariant k gens u → Invariant k gens v → Invariant k gens (product k u v)
  invariant_product u v h g i m d = act_product k _ _ u v ∙ ap₂ (product k) (h i m d) (g i m d)
