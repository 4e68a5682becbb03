-- Polynomials: the finite maps on a commutative monoid of keys, whose product multiplies the keys. Vectors over a field
-- are such a ring too: positions add, so that a polynomial, at position 0, times a vector is the product of the two.
--
--   extend₂ R same same' X f u v   linear in each of u and v, with the value f s t at the single keys s and t
--   times R same N u v             the product of finite maps, over all pairs of keys
--   polynomials R same N           the finite maps as a ring
--   polynomial_algebra R same N    and as an algebra over the ring of their coefficients
--   single_vector k t              the vector that is 1 at the key t and 0 elsewhere
--   one_vector k                   the vector 1
--   product k u v                  the product of two vectors
--   vector_ring k                  the vectors as a ring
--   vector_algebra k               and as an algebra over the scalars
use Rattle.std.specs.Prelude.{◌≡◌}
use mathlib.Core.Path.{sym, ap, ap₂, ◌∙◌}
use Rattle.alg_core.specs.Rings.{Ring, Module, Linear, Monoid, Algebra}
use Rattle.alg_core.specs.ModuleLaws as modules
use Rattle.alg_core.specs.FormalSums.{Free}
use Rattle.alg_core.specs.FreeModules.{free, single, extend, extend_linear, extend_single, linear_unique}
use Rattle.alg_core.specs.Fields.{FieldOn, scalars}
use Rattle.alg_core.specs.Keys.{Key, key_same, keys}
use Rattle.alg_core.specs.Vectors.{Vect}

module _ {K : Type 0} (R : Ring K) {T T' A : Type 0} (same : (s t : T) → Dec (s ≡ t)) (same' : (s t : T') → Dec (s ≡ t)) (X : Module R A) where
  -- linear in each of two arguments, by its values on pairs of keys
  pub extend₂ : (T → T' → A) → Free R same → Free R same' → A
  extend₂ f u v = extend R same X (λ s. extend R same' X (f s) v) u

  pub extend₂_left : (f : T → T' → A) (v : Free R same') → Linear (free R same) X (λ u. extend₂ f u v)
  unfolding extend₂
  extend₂_left f v = extend_linear R same X (λ s. extend R same' X (f s) v)

  extend_add : (f g h : T → A) → ((s : T) → h s ≡ X.◌+◌ (f s) (g s)) → (u : Free R same) → extend R same X h u ≡ X.◌+◌ (extend R same X f u) (extend R same X g u)
  extend_add f g h e = linear_unique R same X (extend R same X h) (λ u. X.◌+◌ (extend R same X f u) (extend R same X g u)) (extend_linear R same X h)
      (modules.linear_add (free R same) X (extend R same X f) (extend R same X g) (extend_linear R same X f) (extend_linear R same X g))
      (λ s. extend_single R same X h s ∙ e s ∙ sym (ap₂ X.◌+◌ (extend_single R same X f s) (extend_single R same X g s)))

  extend_act : (c : K) (f h : T → A) → ((s : T) → h s ≡ X.◌·◌ c (f s)) → (u : Free R same) → extend R same X h u ≡ X.◌·◌ c (extend R same X f u)
  extend_act c f h e = linear_unique R same X (extend R same X h) (λ u. X.◌·◌ c (extend R same X f u)) (extend_linear R same X h)
      (modules.linear_act (free R same) X c (extend R same X f) (extend_linear R same X f))
      (λ s. extend_single R same X h s ∙ e s ∙ sym (ap (X.◌·◌ c) (extend_single R same X f s)))

  pub extend₂_right : (f : T → T' → A) (u : Free R same) → Linear (free R same') X (λ v. extend₂ f u v)
  unfolding extend₂
  extend₂_right f u = record {
    add = λ v w. extend_add (λ s. extend R same' X (f s) v) (λ s. extend R same' X (f s) w) _ (λ s. (extend_linear R same' X (f s)).add v w) u;
    act = λ c v. extend_act c (λ s. extend R same' X (f s) v) _ (λ s. (extend_linear R same' X (f s)).act c v) u;
  }

  pub extend₂_single : (f : T → T' → A) (s : T) (t : T') → extend₂ f (single R same s) (single R same' t) ≡ f s t
  unfolding extend₂
  extend₂_single f s t = extend_single R same X _ s ∙ extend_single R same' X _ t

module _ {K : Type 0} (R : Ring K) {T A : Type 0} (same : (s t : T) → Dec (s ≡ t)) (X : Module R A) where
  -- two functions that are linear in each of two arguments agree where they agree on the single keys
  pub linear_unique₂ : (f g : Free R same → Free R same → A)
      → ((v : Free R same) → Linear (free R same) X (λ u. f u v)) → ((u : Free R same) → Linear (free R same) X (f u))
      → ((v : Free R same) → Linear (free R same) X (λ u. g u v)) → ((u : Free R same) → Linear (free R same) X (g u))
      → ((s t : T) → f (single R same s) (single R same t) ≡ g (single R same s) (single R same t)) → (u v : Free R same) → f u v ≡ g u v
  linear_unique₂ f g fl fr gl gr e u v = linear_unique R same X (λ u. f u v) (λ u. g u v) (fl v) (gl v) (λ s. linear_unique R same X (f (single R same s)) (g (single R same s)) (fr _) (gr _) (e s) v) u

module _ {K : Type 0} (R : Ring K) {T : Type 0} (same : (s t : T) → Dec (s ≡ t)) (N : Monoid T) where
  abbrev V : Type 0
  V = Free R same

  abbrev X : Module R V
  X = free R same

  -- the product: keys multiply, and so do coefficients
  pub times : V → V → V
  times = extend₂ R same same X (λ s t. single R same (N.◌·◌ s t))

  pub times_left : (v : V) → Linear X X (λ u. times u v)
  unfolding times
  times_left v = extend₂_left R same same X _ v

  pub times_right : (u : V) → Linear X X (times u)
  unfolding times
  times_right u = extend₂_right R same same X _ u

  pub times_single : (s t : T) → times (single R same s) (single R same t) ≡ single R same (N.◌·◌ s t)
  unfolding times
  times_single s t = extend₂_single R same same X _ s t

  pub times_comm : (u v : V) → times u v ≡ times v u
  times_comm = linear_unique₂ R same X times (λ u v. times v u) times_left times_right times_right times_left
      (λ s t. times_single s t ∙ ap (single R same) (N.comm s t) ∙ sym (times_single t s))

  pub times_assoc : (u v w : V) → times (times u v) w ≡ times u (times v w)
  times_assoc u v w =
      linear_unique R same X (λ w. times (times u v) w) (λ w. times u (times v w)) (times_right (times u v)) (modules.linear_after X X X (times v) (times u) (times_right v) (times_right u))
      (λ r. linear_unique₂ R same X (λ u v. times (times u v) (single R same r)) (λ u v. times u (times v (single R same r)))
      (λ v. modules.linear_after X X X (λ u. times u v) (λ u. times u (single R same r)) (times_left v) (times_left _))
      (λ u. modules.linear_after X X X (times u) (λ u. times u (single R same r)) (times_right u) (times_left _))
      (λ v. times_left _)
      (λ u. modules.linear_after X X X (λ v. times v (single R same r)) (times u) (times_left _) (times_right u))
      (λ s t. ap (λ u. times u (single R same r)) (times_single s t) ∙ times_single _ r ∙ ap (single R same) (N.assoc s t r) ∙ sym (ap (times (single R same s)) (times_single t r) ∙ times_single s _)) u v) w

  pub times_one : (u : V) → times u (single R same N.one) ≡ u
  times_one = linear_unique R same X (λ u. times u (single R same N.one)) (λ u. u) (times_left _) (modules.linear_same X) (λ s. times_single s N.one ∙ ap (single R same) (N.mul_one s))

  -- the finite maps as a ring
  unfoldable pub polynomials : Ring V
  polynomials = record {
    is_set = X.is_set;
    zero = X.zero;
    one = single R same N.one;
    ◌+◌ = X.◌+◌;
    ◌*◌ = times;
    neg = modules.minus X;
    add_assoc = X.add_assoc;
    add_comm = X.add_comm;
    add_zero = X.add_zero;
    add_neg = modules.add_minus X;
    mul_assoc = times_assoc;
    mul_comm = times_comm;
    mul_one = times_one;
    mul_add = λ x y z. (times_right x).add y z;
  }

  -- and as an algebra over their coefficients
  unfoldable pub polynomial_algebra : Algebra R V
  unfolding polynomials
  polynomial_algebra = record {
    ring = polynomials;
    act = X.◌·◌;
    act_add = X.act_add;
    add_act = X.add_act;
    mul_act = X.mul_act;
    one_act = X.one_act;
    zero_act = X.zero_act;
    act_mul = λ c x y. (times_left y).act c x;
  }

module _ {E : Type 0} (k : FieldOn E) where
  -- 1 at one key, 0 elsewhere
  unfoldable pub single_vector : Key → Vect k
  single_vector = single (scalars k) key_same

  -- the vector 1
  unfoldable pub one_vector : Vect k
  one_vector = single (scalars k) key_same keys.one

  -- the product of two vectors
  unfoldable pub product : Vect k → Vect k → Vect k
  product = times (scalars k) key_same keys

  -- the vectors as a ring
  abbrev pub vector_ring : Ring (Vect k)
  vector_ring = polynomials (scalars k) key_same keys

  -- and as an algebra over the scalars
  abbrev pub vector_algebra : Algebra (scalars k) (Vect k)
  vector_algebra = polynomial_algebra (scalars k) key_same keys
