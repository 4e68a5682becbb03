-- What follows from the laws of a module, and linear functions made of linear functions.
--
--   minus X x   the opposite of x in the module X
use Rattle.std.proofs.Common.{◌≡◌, sym, ap, ap₂, ◌∙◌, refl}
use Rattle.alg_core.specs.Rings.{Ring, Module, Linear}

module _ {K : Type 0} {R : Ring K} {A : Type 0} (X : Module R A) where
  open X use {zero, ◌+◌, ◌·◌}

  infixl 6 ◌+◌
  infixl 7 ◌·◌
  -- the opposite
  pub minus : A → A
  minus x = R.neg R.one · x

  pub zero_add : (x : A) → zero + x ≡ x
  zero_add x = X.add_comm zero x ∙ X.add_zero x

  pub minus_is : (x : A) → minus x ≡ R.neg R.one · x
  unfolding minus
  minus_is x = refl

  pub add_minus : (x : A) → x + minus x ≡ zero
  unfolding minus
  add_minus x = ap (λ u. u + (R.neg R.one · x)) (sym (X.one_act x)) ∙ sym (X.add_act R.one (R.neg R.one) x) ∙ ap (λ c. c · x) (R.add_neg R.one) ∙ X.zero_act x

  pub minus_add : (x : A) → minus x + x ≡ zero
  minus_add x = X.add_comm (minus x) x ∙ add_minus x

  pub add_left_comm : (x y z : A) → x + (y + z) ≡ y + (x + z)
  add_left_comm x y z = sym (X.add_assoc x y z) ∙ ap (λ u. u + z) (X.add_comm x y) ∙ X.add_assoc y x z

  pub add_swap : (a b c d : A) → (a + b) + (c + d) ≡ (a + c) + (b + d)
  add_swap a b c d = X.add_assoc a b _ ∙ ap (λ u. a + u) (add_left_comm b c d) ∙ sym (X.add_assoc a c _)

  pub add_cancel : (x y z : A) → x + y ≡ x + z → y ≡ z
  add_cancel x y z e =
      let left : minus x + (x + y) ≡ y = sym (X.add_assoc (minus x) x y) ∙ ap (λ u. u + y) (minus_add x) ∙ zero_add y in
      let right : minus x + (x + z) ≡ z = sym (X.add_assoc (minus x) x z) ∙ ap (λ u. u + z) (minus_add x) ∙ zero_add z in
      sym left ∙ ap (λ u. minus x + u) e ∙ right

  pub act_zero : (c : K) → c · zero ≡ zero
  act_zero c = add_cancel (c · zero) (c · zero) zero (sym (X.act_add c zero zero) ∙ ap (λ u. c · u) (X.add_zero zero) ∙ sym (X.add_zero (c · zero)))

  -- two elements whose difference is 0 are equal
  pub eq_of_minus : (x y : A) → x + minus y ≡ zero → x ≡ y
  eq_of_minus x y e = add_cancel (minus y) x y (X.add_comm (minus y) x ∙ e ∙ sym (minus_add y))

module _ {K : Type 0} {R : Ring K} {A B : Type 0} (X : Module R A) (Y : Module R B) where
  pub linear_zero : (f : A → B) → Linear X Y f → f X.zero ≡ Y.zero
  linear_zero f l = ap f (sym (X.zero_act X.zero)) ∙ l.act R.zero X.zero ∙ Y.zero_act _

  pub linear_minus : (f : A → B) → Linear X Y f → (x : A) → f (minus X x) ≡ minus Y (f x)
  linear_minus f l x = ap f (minus_is X x) ∙ l.act _ x ∙ sym (minus_is Y (f x))

  pub linear_add : (f g : A → B) → Linear X Y f → Linear X Y g → Linear X Y (λ x. Y.◌+◌ (f x) (g x))
  linear_add f g lf lg = record {
    add = λ x y. ap₂ Y.◌+◌ (lf.add x y) (lg.add x y) ∙ add_swap Y _ _ _ _;
    act = λ c x. ap₂ Y.◌+◌ (lf.act c x) (lg.act c x) ∙ sym (Y.act_add c _ _);
  }

  pub linear_act : (c : K) (f : A → B) → Linear X Y f → Linear X Y (λ x. Y.◌·◌ c (f x))
  linear_act c f lf = record {
    add = λ x y. ap (Y.◌·◌ c) (lf.add x y) ∙ Y.act_add c _ _;
    act = λ d x. ap (Y.◌·◌ c) (lf.act d x) ∙ sym (Y.mul_act c d _) ∙ ap (λ e. Y.◌·◌ e (f x)) (R.mul_comm c d) ∙ Y.mul_act d c _;
  }

module _ {K : Type 0} {R : Ring K} {A : Type 0} (X : Module R A) where
  pub linear_same : Linear X X (λ x. x)
  linear_same = record { add = λ x y. refl; act = λ c x. refl }

module _ {K : Type 0} {R : Ring K} {A B C : Type 0} (X : Module R A) (Y : Module R B) (Z : Module R C) where
  -- one after another
  pub linear_after : (f : A → B) (g : B → C) → Linear X Y f → Linear Y Z g → Linear X Z (λ x. g (f x))
  linear_after f g lf lg = record {
    add = λ x y. ap g (lf.add x y) ∙ lg.add _ _;
    act = λ c x. ap g (lf.act c x) ∙ lg.act c _;
  }
