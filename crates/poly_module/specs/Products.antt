-- The laws of the product of vectors: a commutative product, linear in each factor, with the vector 1 as unit.
use Rattle.std.specs.Prelude.{◌≡◌}
use mathlib.Core.Path.{sym, ap, ◌∙◌, refl}
use Rattle.alg_core.specs.Rings.{Linear}
use Rattle.alg_core.specs.ModuleLaws as modules
use Rattle.alg_core.specs.Fields.{FieldOn, scalars, scalar}
use Rattle.alg_core.specs.FreeModules.{single, linear_unique, extend_linear, extend_single}
use Rattle.alg_core.specs.Monomials.{Mon, monomials}
use Rattle.alg_core.specs.Keys.{Key, key_same, keys, times_key_product}
use Rattle.alg_core.specs.Vectors.{Vect, vectors, plus, zero_vector, scale, shift}
use Rattle.poly_module.specs.Polynomials.{times_left, times_right, times_single, times_comm, times_assoc, times_one, polynomials, single_vector, one_vector, product, vector_ring}

module _ {E : Type 0} (k : FieldOn E) where
  pub product_comm : (u v : Vect k) → product k u v ≡ product k v u
  unfolding product
  product_comm = times_comm (scalars k) key_same keys

  pub product_assoc : (u v w : Vect k) → product k (product k u v) w ≡ product k u (product k v w)
  unfolding product
  product_assoc = times_assoc (scalars k) key_same keys

  pub product_one : (u : Vect k) → product k u (one_vector k) ≡ u
  unfolding product one_vector
  product_one = times_one (scalars k) key_same keys

  pub one_product : (u : Vect k) → product k (one_vector k) u ≡ u
  one_product u = product_comm (one_vector k) u ∙ product_one u

  -- linear in each factor
  pub product_linear : (u : Vect k) → Linear (vectors k) (vectors k) (product k u)
  unfolding product
  product_linear = times_right (scalars k) key_same keys

  pub product_linear_left : (v : Vect k) → Linear (vectors k) (vectors k) (λ u. product k u v)
  unfolding product
  product_linear_left = times_left (scalars k) key_same keys

  pub product_plus : (u v w : Vect k) → product k u (plus k v w) ≡ plus k (product k u v) (product k u w)
  unfolding plus
  product_plus u = (product_linear u).add

  pub plus_product : (u v w : Vect k) → product k (plus k u v) w ≡ plus k (product k u w) (product k v w)
  unfolding plus
  plus_product u v w = (product_linear_left w).add u v

  pub product_scale : (c : E) (u v : Vect k) → product k u (scale k c v) ≡ scale k c (product k u v)
  unfolding scale
  product_scale c u v = (product_linear u).act (scalar k c) v

  pub scale_product : (c : E) (u v : Vect k) → product k (scale k c u) v ≡ scale k c (product k u v)
  unfolding scale
  scale_product c u v = (product_linear_left v).act (scalar k c) u

  pub product_zero : (u : Vect k) → product k u (zero_vector k) ≡ zero_vector k
  unfolding zero_vector
  product_zero u = modules.linear_zero (vectors k) (vectors k) (product k u) (product_linear u)

  pub zero_product : (v : Vect k) → product k (zero_vector k) v ≡ zero_vector k
  zero_product v = product_comm (zero_vector k) v ∙ product_zero v

  pub product_single : (s t : Key) → product k (single_vector k s) (single_vector k t) ≡ single_vector k (keys.◌·◌ s t)
  unfolding product single_vector
  product_single = times_single (scalars k) key_same keys

  pub one_vector_single : one_vector k ≡ single_vector k (0, monomials.one)
  unfolding one_vector single_vector keys
  one_vector_single = refl

  -- the multiple by a monomial is the product with it
  pub shift_product : (m : Mon) (v : Vect k) → shift k m v ≡ product k (single_vector k (0, m)) v
  unfolding shift single_vector product
  shift_product m = linear_unique (scalars k) key_same (vectors k) (shift k m) (product k (single_vector k (0, m))) (extend_linear (scalars k) key_same (vectors k) _) (product_linear _)
      (λ t. extend_single (scalars k) key_same (vectors k) _ t ∙ ap (single (scalars k) key_same) (times_key_product m t) ∙ sym (times_single (scalars k) key_same keys (0, m) t))

  pub product_shift : (m : Mon) (u v : Vect k) → product k u (shift k m v) ≡ shift k m (product k u v)
  product_shift m u v = ap (product k u) (shift_product m v) ∙ sym (product_assoc u _ v) ∙ ap (λ w. product k w v) (product_comm u _) ∙ product_assoc _ u v ∙ sym (shift_product m _)

  pub shift_product_left : (m : Mon) (u v : Vect k) → product k (shift k m u) v ≡ shift k m (product k u v)
  shift_product_left m u v = product_comm _ v ∙ product_shift m v u ∙ ap (shift k m) (product_comm v u)

  -- the operations of the ring of vectors
  pub ring_product : (u v : Vect k) → (vector_ring k).◌*◌ u v ≡ product k u v
  unfolding product polynomials
  ring_product u v = refl

  pub ring_plus : (u v : Vect k) → (vector_ring k).◌+◌ u v ≡ plus k u v
  unfolding plus polynomials
  ring_plus u v = refl

  pub ring_zero : (vector_ring k).zero ≡ zero_vector k
  unfolding zero_vector polynomials
  ring_zero = refl

  pub ring_one : (vector_ring k).one ≡ one_vector k
  unfolding one_vector polynomials
  ring_one = refl
