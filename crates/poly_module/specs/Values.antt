-- The value of a polynomial where each key has a value: the one homomorphism of algebras with these values.
--
--   module_of Y              the algebra Y as a module
--   value R same N Y f       the linear function with the value f t at each single key t
--   value_homomorphism       it keeps products where f does
--   homomorphism_unique      homomorphisms that agree on the single keys agree
--   value_after              a homomorphism after a value is the value of the images
use Rattle.std.specs.Prelude.{◌≡◌}
use mathlib.Core.Path.{sym, ap, ap₂, ◌∙◌, refl}
use Rattle.alg_core.specs.Rings.{Ring, Module, Linear, Monoid, Algebra, Homomorphism, Multiplicative}
use Rattle.alg_core.specs.RingLaws as rings
use Rattle.alg_core.specs.ModuleLaws as modules
use Rattle.alg_core.specs.FormalSums.{Free}
use Rattle.alg_core.specs.FreeModules.{free, single, extend, extend_linear, extend_single, linear_unique}
use Rattle.poly_module.specs.Polynomials.{times_left, times_right, times_single, linear_unique₂, polynomials, polynomial_algebra}

module _ {K S : Type 0} {R : Ring K} (Y : Algebra R S) where
  -- an algebra as a module
  unfoldable pub module_of : Module R S
  module_of = record {
    is_set = Y.ring.is_set;
    zero = Y.ring.zero;
    ◌+◌ = Y.ring.◌+◌;
    ◌·◌ = Y.act;
    add_assoc = Y.ring.add_assoc;
    add_comm = Y.ring.add_comm;
    add_zero = Y.ring.add_zero;
    act_add = Y.act_add;
    add_act = Y.add_act;
    mul_act = Y.mul_act;
    one_act = Y.one_act;
    zero_act = Y.zero_act;
  }

  mul_linear_left : (y : S) → Linear module_of module_of (λ x. Y.ring.◌*◌ x y)
  unfolding module_of
  mul_linear_left y = record { add = λ a b. rings.add_mul Y.ring a b y; act = λ c a. Y.act_mul c a y }

  mul_linear : (x : S) → Linear module_of module_of (Y.ring.◌*◌ x)
  unfolding module_of
  mul_linear x = record { add = λ a b. Y.ring.mul_add x a b; act = λ c a. Y.ring.mul_comm x _ ∙ Y.act_mul c a x ∙ ap (Y.act c) (Y.ring.mul_comm a x) }

  pub homomorphism_same : Homomorphism Y Y (λ x. x)
  homomorphism_same = record { add = λ x y. refl; act = λ c x. refl; mul = λ x y. refl; one = refl }

module _ {K S S' S'' : Type 0} {R : Ring K} (X : Algebra R S) (Y : Algebra R S') (Z : Algebra R S'') where
  -- one after another
  pub homomorphism_after : (f : S → S') (g : S' → S'') → Homomorphism X Y f → Homomorphism Y Z g → Homomorphism X Z (λ x. g (f x))
  homomorphism_after f g h j = record {
    add = λ x y. ap g (h.add x y) ∙ j.add _ _;
    act = λ c x. ap g (h.act c x) ∙ j.act c _;
    mul = λ x y. ap g (h.mul x y) ∙ j.mul _ _;
    one = ap g h.one ∙ j.one;
  }

module _ {K S S' : Type 0} {R : Ring K} (X : Algebra R S) (Y : Algebra R S') where
  pub homomorphism_linear : (f : S → S') → Homomorphism X Y f → Linear (module_of X) (module_of Y) f
  unfolding module_of
  homomorphism_linear f h = record { add = h.add; act = h.act }

module _ {K : Type 0} (R : Ring K) {T : Type 0} (same : (s t : T) → Dec (s ≡ t)) (N : Monoid T) where
  abbrev V : Type 0
  V = Free R same

  abbrev P : Algebra R V
  P = polynomial_algebra R same N

  module _ {S : Type 0} (Y : Algebra R S) (f : T → S) where
    abbrev Z : Module R S
    Z = module_of Y

    -- the sum of c · f t over the terms
    pub value : V → S
    value = extend R same Z f

    pub value_single : (t : T) → value (single R same t) ≡ f t
    unfolding value
    value_single t = extend_single R same Z f t

    pub value_linear : Linear (free R same) Z value
    unfolding value
    value_linear = extend_linear R same Z f

    value_mul : Multiplicative N Y f → (u v : V) → value ((polynomials R same N).◌*◌ u v) ≡ Y.ring.◌*◌ (value u) (value v)
    unfolding polynomials
    value_mul h = let X = free R same in
        linear_unique₂ R same Z (λ u v. value ((polynomials R same N).◌*◌ u v)) (λ u v. Y.ring.◌*◌ (value u) (value v))
        (λ v. modules.linear_after X X Z (λ u. (polynomials R same N).◌*◌ u v) value (times_left R same N v) value_linear)
        (λ u. modules.linear_after X X Z ((polynomials R same N).◌*◌ u) value (times_right R same N u) value_linear)
        (λ v. modules.linear_after X Z Z value (λ x. Y.ring.◌*◌ x (value v)) value_linear (mul_linear_left Y (value v)))
        (λ u. modules.linear_after X Z Z value (Y.ring.◌*◌ (value u)) value_linear (mul_linear Y (value u)))
        (λ s t. ap value (times_single R same N s t) ∙ value_single (N.◌·◌ s t) ∙ h.mul s t ∙ sym (ap₂ Y.ring.◌*◌ (value_single s) (value_single t)))

    -- it keeps sums, multiples, products and 1
    pub value_homomorphism : Multiplicative N Y f → Homomorphism P Y value
    unfolding polynomial_algebra module_of polynomials
    value_homomorphism h = record { add = value_linear.add; act = value_linear.act; mul = value_mul h; one = value_single N.one ∙ h.one }

  -- homomorphisms that agree on the single keys agree
  pub homomorphism_unique : {S : Type 0} (Y : Algebra R S) (f g : V → S) → Homomorphism P Y f → Homomorphism P Y g → ((t : T) → f (single R same t) ≡ g (single R same t)) → (u : V) → f u ≡ g u
  unfolding polynomial_algebra module_of polynomials
  homomorphism_unique Y f g hf hg e = linear_unique R same (module_of Y) f g (record { add = hf.add; act = hf.act }) (record { add = hg.add; act = hg.act }) e

  -- a homomorphism keeps products of single keys
  pub homomorphism_multiplicative : {S : Type 0} (Y : Algebra R S) (f : V → S) → Homomorphism P Y f → Multiplicative N Y (λ t. f (single R same t))
  unfolding polynomial_algebra polynomials
  homomorphism_multiplicative Y f h = record { mul = λ s t. ap f (sym (times_single R same N s t)) ∙ h.mul _ _; one = h.one }

  -- a homomorphism after a value
  pub value_after : {S S' : Type 0} (Y : Algebra R S) (Z : Algebra R S') (f : T → S) (g : S → S') → Multiplicative N Y f → Homomorphism Y Z g → (u : V) → g (value Y f u) ≡ value Z (λ t. g (f t)) u
  value_after Y Z f g h j = homomorphism_unique Z (λ u. g (value Y f u)) (value Z (λ t. g (f t)))
      (homomorphism_after P Y Z (value Y f) g (value_homomorphism Y f h) j)
      (value_homomorphism Z (λ t. g (f t)) (record { mul = λ x y. ap g (h.mul x y) ∙ j.mul _ _; one = ap g h.one ∙ j.one }))
      (λ t. ap g (value_single Y f t) ∙ sym (value_single Z (λ t. g (f t)) t))
