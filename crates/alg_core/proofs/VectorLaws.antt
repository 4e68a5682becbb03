-- Sums and multiples of vectors, and the vectors of lists of entries.
use Rattle.std.proofs.Common.{ℕ, length, ◌≡◌, List, [], ◌∷◌, ◌++◌, sym, ap, ◌∙◌}
use Rattle.std.proofs.lemmas.List.{map-append}
use Rattle.alg_core.specs.ModuleLaws as modules
use Rattle.alg_core.specs.Rings.{Linear}
use Rattle.alg_core.specs.Fields.{FieldOn, Has, scalars, scalar, scalar_add, scalar_mul, scalar_neg, scalar_zero}
use Rattle.alg_core.specs.FreeModules.{single, class, extend_linear, extend_single, coef_ext, coef_add, coef_act, coef_zero, class_append, class_nothing, class_cons, class_twice, class_zero}
use Rattle.alg_core.specs.Monomials.{Mon, mono}
use Rattle.alg_core.specs.Keys.{TermPlace, Key, key, key_same, times_key}
use Rattle.alg_core.specs.PlaceOrders.{times_place}
use Rattle.alg_core.proofs.MonomialLists.{mono_product}
use Rattle.alg_core.specs.Vectors.{Entry, Vect, vectors, formal_sum, vec, coef_at, plus, zero_vector, scale, shift}

module _ {E : Type 0} (k : FieldOn E) where
  pub plus_assoc : (x y z : Vect k) → plus k (plus k x y) z ≡ plus k x (plus k y z)
  unfolding plus
  plus_assoc = (vectors k).add_assoc

  pub plus_comm : (x y : Vect k) → plus k x y ≡ plus k y x
  unfolding plus
  plus_comm = (vectors k).add_comm

  pub plus_left_comm : (x y z : Vect k) → plus k x (plus k y z) ≡ plus k y (plus k x z)
  unfolding plus
  plus_left_comm = modules.add_left_comm (vectors k)

  pub plus_swap : (a b x y : Vect k) → plus k (plus k a b) (plus k x y) ≡ plus k (plus k a x) (plus k b y)
  unfolding plus
  plus_swap = modules.add_swap (vectors k)

  pub plus_cancel : (x y z : Vect k) → plus k x y ≡ plus k x z → y ≡ z
  unfolding plus
  plus_cancel = modules.add_cancel (vectors k)

  pub plus_zero : (x : Vect k) → plus k x (zero_vector k) ≡ x
  unfolding plus zero_vector
  plus_zero = (vectors k).add_zero

  pub zero_plus : (x : Vect k) → plus k (zero_vector k) x ≡ x
  zero_plus x = plus_comm _ _ ∙ plus_zero x

  -- vectors with the same coefficients are equal
  pub coef_at_ext : (x y : Vect k) → ((t : Key) → coef_at k x t ≡ coef_at k y t) → x ≡ y
  unfolding coef_at
  coef_at_ext x y e = coef_ext (scalars k) key_same x y e

  pub coef_at_plus : (x y : Vect k) (t : Key) → coef_at k (plus k x y) t ≡ (scalars k).◌+◌ (coef_at k x t) (coef_at k y t)
  unfolding coef_at plus
  coef_at_plus = coef_add (scalars k) key_same

  pub coef_at_scale : (c : E) (x : Vect k) (t : Key) → coef_at k (scale k c x) t ≡ (scalars k).◌*◌ (scalar k c) (coef_at k x t)
  unfolding coef_at scale
  coef_at_scale c = coef_act (scalars k) key_same (scalar k c)

  pub coef_at_zero : (t : Key) → coef_at k (zero_vector k) t ≡ (scalars k).zero
  unfolding coef_at zero_vector
  coef_at_zero = coef_zero (scalars k) key_same

  pub vec_nothing : vec k [] ≡ zero_vector k
  unfolding vec zero_vector
  vec_nothing = class_nothing (scalars k) key_same

  pub vec_append : (l l' : List (Entry E)) → vec k (l ++ l') ≡ plus k (vec k l) (vec k l')
  unfolding vec plus
  vec_append l l' = ap (class (scalars k) key_same) (map-append _ l l') ∙ class_append (scalars k) key_same (formal_sum k l) (formal_sum k l')

  pub vec_cons : (e : Entry E) (l : List (Entry E)) → vec k (e ∷ l) ≡ plus k (vec k (e ∷ [])) (vec k l)
  vec_cons e l = vec_append (e ∷ []) l

  -- two entries at one place are one
  pub vec_twice : (p : TermPlace) (a b : E) → Has k a → Has k b → plus k (vec k ((p, a) ∷ [])) (vec k ((p, b) ∷ [])) ≡ vec k ((p, k.add a b) ∷ [])
  unfolding plus vec
  vec_twice p a b h g = sym (class_append (scalars k) key_same _ _) ∙ class_twice (scalars k) key_same (key p) _ _ ∙ ap (λ c. class (scalars k) key_same ((key p, c) ∷ [])) (sym (scalar_add k a b h g))

  -- an entry of 0 is nothing
  pub vec_zero : (p : TermPlace) → vec k ((p, k.zero) ∷ []) ≡ zero_vector k
  unfolding vec zero_vector
  vec_zero p = ap (λ c. class (scalars k) key_same ((key p, c) ∷ [])) (scalar_zero k) ∙ class_zero (scalars k) key_same (key p) ∙ class_nothing (scalars k) key_same

  -- the vector of one entry
  pub vec_single : (e : Entry E) → vec k (e ∷ []) ≡ (vectors k).◌·◌ (scalar k e.1) (single (scalars k) key_same (key e.0))
  unfolding vec
  vec_single e = class_cons (scalars k) key_same (key e.0, scalar k e.1) [] ∙ ap ((vectors k).◌+◌ _) (class_nothing (scalars k) key_same) ∙ (vectors k).add_zero _

  pub scale_plus : (c : E) (x y : Vect k) → scale k c (plus k x y) ≡ plus k (scale k c x) (scale k c y)
  unfolding scale plus
  scale_plus c = (vectors k).act_add (scalar k c)

  pub scale_zero_vector : (c : E) → scale k c (zero_vector k) ≡ zero_vector k
  unfolding scale zero_vector
  scale_zero_vector c = modules.act_zero (vectors k) (scalar k c)

  pub scale_zero : (x : Vect k) → scale k k.zero x ≡ zero_vector k
  unfolding scale zero_vector
  scale_zero x = ap (λ d. (vectors k).◌·◌ d x) (scalar_zero k) ∙ (vectors k).zero_act x

  pub scale_entry : (c : E) (p : TermPlace) (a : E) → Has k c → Has k a → scale k c (vec k ((p, a) ∷ [])) ≡ vec k ((p, k.mul c a) ∷ [])
  unfolding scale
  scale_entry c p a h g = ap ((vectors k).◌·◌ (scalar k c)) (vec_single (p, a)) ∙ sym ((vectors k).mul_act _ _ _) ∙ ap (λ d. (vectors k).◌·◌ d (single (scalars k) key_same (key p))) (sym (scalar_mul k c a h g)) ∙ sym (vec_single (p, k.mul c a))

  -- a multiple and the multiple by the opposite
  pub scale_neg : (c : E) → Has k c → (x : Vect k) → plus k (scale k (k.neg c) x) (scale k c x) ≡ zero_vector k
  unfolding scale plus zero_vector
  scale_neg c h x = sym ((vectors k).add_act _ _ x) ∙ ap (λ d. (vectors k).◌·◌ d x) (ap (λ d. (scalars k).◌+◌ d (scalar k c)) (scalar_neg k c h) ∙ (scalars k).add_comm _ _ ∙ (scalars k).add_neg _) ∙ (vectors k).zero_act x

  pub shift_linear : (m : Mon) → Linear (vectors k) (vectors k) (shift k m)
  unfolding shift
  shift_linear m = extend_linear (scalars k) key_same (vectors k) _

  pub shift_plus : (m : Mon) (x y : Vect k) → shift k m (plus k x y) ≡ plus k (shift k m x) (shift k m y)
  unfolding plus
  shift_plus m = (shift_linear m).add

  pub shift_zero_vector : (m : Mon) → shift k m (zero_vector k) ≡ zero_vector k
  unfolding zero_vector
  shift_zero_vector m = modules.linear_zero (vectors k) (vectors k) (shift k m) (shift_linear m)

  pub shift_single : (m : Mon) (t : Key) → shift k m (single (scalars k) key_same t) ≡ single (scalars k) key_same (times_key m t)
  unfolding shift
  shift_single m t = extend_single (scalars k) key_same (vectors k) _ t

  -- one entry times a monomial
  pub shift_entry : (m : List ℕ) (p : TermPlace) (a : E) → length m ≡ length p.1 → shift k (mono m) (vec k ((p, a) ∷ [])) ≡ vec k ((times_place m p, a) ∷ [])
  unfolding key
  shift_entry m p a e = ap (shift k (mono m)) (vec_single (p, a)) ∙ (shift_linear (mono m)).act _ _ ∙ ap ((vectors k).◌·◌ (scalar k a)) (shift_single (mono m) (key p) ∙ ap (λ n. single (scalars k) key_same (p.0, n)) (sym (mono_product m p.1 e))) ∙ sym (vec_single (times_place m p, a))
