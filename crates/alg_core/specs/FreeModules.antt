-- The free module on a type of keys, its linear functions, and what a vector of it is told by.
--
--   class l                the vector of a formal sum
--   free R same            the vectors as a module
--   single R same t        the vector that is 1 at the key t and 0 elsewhere
--   coef R same v t        the coefficient of v at the key t
--   extend R same X f      the linear function with the value f t at each single t
use Rattle.std.specs.Prelude.{◌≡◌, [], ◌∷◌, ◌++◌}
use mathlib.Core.Path.{sym, ap, ap₂, ◌∙◌, refl, subst}
use mathlib.Core.HLevel.{Π_prop}
use mathlib.Core.Quot.{mk as class_of, sound, Quot-set}
use Rattle.alg_core.specs.Quotients.{quotient_lift, quotient_lift₂, quotient_ind, quotient_ind₂, quotient_ind₃}
use Rattle.alg_core.specs.Rings.{Ring, Module, Linear}
use Rattle.alg_core.specs.ModuleLaws as modules
use Rattle.alg_core.specs.FormalSums.{FormalSum, combined, regular, coefficient, indicator, Free}
use Rattle.alg_core.specs.FormalSumLaws.{combined_append, combined_scaled, scaled, combined_same}

module _ {K : Type 0} (R : Ring K) {T : Type 0} (same : (s t : T) → Dec (s ≡ t)) where
  -- the vectors
  abbrev V : Type 0
  V = Free R same

  -- the vector of a formal sum
  abbrev pub class : FormalSum K T → V
  class l = class_of l

  sum_of : V → V → V
  sum_of = quotient_lift₂ Quot-set (λ l l'. class (l ++ l'))
      (λ a a' b r. sound (λ t. combined_append R (regular R) _ a b ∙ ap₂ (regular R).◌+◌ (r t) refl ∙ sym (combined_append R (regular R) _ a' b)))
      (λ a b b' r. sound (λ t. combined_append R (regular R) _ a b ∙ ap₂ (regular R).◌+◌ refl (r t) ∙ sym (combined_append R (regular R) _ a b')))

  multiple_of : K → V → V
  multiple_of c = quotient_lift Quot-set (λ l. class (scaled R c l)) (λ a a' r. sound (λ t. combined_scaled R (regular R) _ c a ∙ ap (λ u. (regular R).◌·◌ c u) (r t) ∙ sym (combined_scaled R (regular R) _ c a')))

  -- formal sums with the same coefficients are one vector
  pub class_ext : (l l' : FormalSum K T) → ((t : T) → coefficient R same l t ≡ coefficient R same l' t) → ◌≡◌ {A = V} (class l) (class l')
  class_ext l l' e = sound e

  coefficient_append : (l l' : FormalSum K T) (t : T) → coefficient R same (l ++ l') t ≡ (regular R).◌+◌ (coefficient R same l t) (coefficient R same l' t)
  coefficient_append l l' t = combined_append R (regular R) _ l l'

  coefficient_scaled : (c : K) (l : FormalSum K T) (t : T) → coefficient R same (scaled R c l) t ≡ (regular R).◌·◌ c (coefficient R same l t)
  coefficient_scaled c l t = combined_scaled R (regular R) _ c l

  -- the vectors as a module
  pub free : Module R V
  unfolding sum_of multiple_of quotient_lift₂ quotient_lift scaled
  free = record {
    is_set = Quot-set;
    zero = class [];
    ◌+◌ = sum_of;
    ◌·◌ = multiple_of;
    add_assoc = quotient_ind₃ (λ x y z. sum_of (sum_of x y) z ≡ sum_of x (sum_of y z)) (λ x y z. Quot-set _ _)
        (λ a b c. class_ext _ _ (λ t. coefficient_append (a ++ b) c t ∙ ap₂ (regular R).◌+◌ (coefficient_append a b t) refl ∙ (regular R).add_assoc _ _ _ ∙ ap₂ (regular R).◌+◌ refl (sym (coefficient_append b c t)) ∙ sym (coefficient_append a (b ++ c) t)));
    add_comm = quotient_ind₂ (λ x y. sum_of x y ≡ sum_of y x) (λ x y. Quot-set _ _)
        (λ a b. class_ext _ _ (λ t. coefficient_append a b t ∙ (regular R).add_comm _ _ ∙ sym (coefficient_append b a t)));
    add_zero = quotient_ind (λ x. sum_of x (class []) ≡ x) (λ x. Quot-set _ _)
        (λ a. class_ext _ _ (λ t. coefficient_append a [] t ∙ (regular R).add_zero _));
    act_add = λ c. quotient_ind₂ (λ x y. multiple_of c (sum_of x y) ≡ sum_of (multiple_of c x) (multiple_of c y)) (λ x y. Quot-set _ _)
        (λ a b. class_ext _ _ (λ t. coefficient_scaled c (a ++ b) t ∙ ap ((regular R).◌·◌ c) (coefficient_append a b t) ∙ (regular R).act_add c _ _ ∙ sym (ap₂ (regular R).◌+◌ (coefficient_scaled c a t) (coefficient_scaled c b t)) ∙ sym (coefficient_append _ _ t)));
    add_act = λ c d. quotient_ind (λ x. multiple_of (R.◌+◌ c d) x ≡ sum_of (multiple_of c x) (multiple_of d x)) (λ x. Quot-set _ _)
        (λ a. class_ext _ _ (λ t. coefficient_scaled (R.◌+◌ c d) a t ∙ (regular R).add_act c d _ ∙ sym (ap₂ (regular R).◌+◌ (coefficient_scaled c a t) (coefficient_scaled d a t)) ∙ sym (coefficient_append _ _ t)));
    mul_act = λ c d. quotient_ind (λ x. multiple_of (R.◌*◌ c d) x ≡ multiple_of c (multiple_of d x)) (λ x. Quot-set _ _)
        (λ a. class_ext _ _ (λ t. coefficient_scaled (R.◌*◌ c d) a t ∙ (regular R).mul_act c d _ ∙ sym (coefficient_scaled c _ t ∙ ap ((regular R).◌·◌ c) (coefficient_scaled d a t))));
    one_act = quotient_ind (λ x. multiple_of R.one x ≡ x) (λ x. Quot-set _ _)
        (λ a. class_ext _ _ (λ t. coefficient_scaled R.one a t ∙ (regular R).one_act _));
    zero_act = quotient_ind (λ x. multiple_of R.zero x ≡ class []) (λ x. Quot-set _ _)
        (λ a. class_ext _ _ (λ t. coefficient_scaled R.zero a t ∙ (regular R).zero_act _));
  }

  -- 1 at one key, 0 elsewhere
  pub single : T → V
  single t = class ((t, R.one) ∷ [])

  -- the linear extension of a function on the keys
  pub extend : {A : Type 0} (X : Module R A) → (T → A) → V → A
  unfolding quotient_lift
  extend X f = quotient_lift X.is_set (combined R X f) (combined_same R same X f)

  pub extend_linear : {A : Type 0} (X : Module R A) (f : T → A) → Linear free X (extend X f)
  unfolding extend free sum_of multiple_of quotient_lift₂ quotient_lift
  extend_linear X f = record {
    add = quotient_ind₂ (λ x y. extend X f (sum_of x y) ≡ X.◌+◌ (extend X f x) (extend X f y)) (λ x y. X.is_set _ _) (λ a b. combined_append R X f a b);
    act = λ c. quotient_ind (λ x. extend X f (multiple_of c x) ≡ X.◌·◌ c (extend X f x)) (λ x. X.is_set _ _) (λ a. combined_scaled R X f c a);
  }

  pub extend_zero : {A : Type 0} (X : Module R A) (f : T → A) → extend X f free.zero ≡ X.zero
  unfolding extend free quotient_lift
  extend_zero X f = refl

  pub extend_single : {A : Type 0} (X : Module R A) (f : T → A) (t : T) → extend X f (single t) ≡ f t
  unfolding extend single quotient_lift
  extend_single X f t = X.add_zero _ ∙ X.one_act (f t)

  pub extend_class : {A : Type 0} (X : Module R A) (f : T → A) (l : FormalSum K T) → extend X f (class l) ≡ combined R X f l
  unfolding extend quotient_lift
  extend_class X f l = refl

  -- the coefficient at a key
  pub coef : V → T → K
  coef v t = extend (regular R) (λ s. indicator R (same s t)) v

  -- vectors with the same coefficients are equal
  pub coef_ext : (u v : V) → ((t : T) → coef u t ≡ coef v t) → u ≡ v
  unfolding coef extend quotient_lift
  coef_ext = quotient_ind₂ (λ u v. ((t : T) → coef u t ≡ coef v t) → u ≡ v) (λ u v. Π_prop (λ _. Quot-set _ _)) (λ a b e. class_ext a b e)

  pub coef_linear : (t : T) → Linear free (regular R) (λ v. coef v t)
  unfolding coef
  coef_linear t = extend_linear (regular R) (λ s. indicator R (same s t))

  pub coef_single : (s t : T) → coef (single s) t ≡ indicator R (same s t)
  unfolding coef
  coef_single s t = extend_single (regular R) (λ u. indicator R (same u t)) s

  pub coef_class : (l : FormalSum K T) (t : T) → coef (class l) t ≡ coefficient R same l t
  unfolding coef extend quotient_lift
  coef_class l t = refl

  pub coef_zero : (t : T) → coef free.zero t ≡ R.zero
  unfolding coef regular
  coef_zero t = extend_zero (regular R) (λ s. indicator R (same s t))

  pub coef_add : (u v : V) (t : T) → coef (free.◌+◌ u v) t ≡ R.◌+◌ (coef u t) (coef v t)
  unfolding regular
  coef_add u v t = (coef_linear t).add u v

  pub coef_act : (c : K) (v : V) (t : T) → coef (free.◌·◌ c v) t ≡ R.◌*◌ c (coef v t)
  unfolding regular
  coef_act c v t = (coef_linear t).act c v

  -- the vector of a formal sum, term by term
  pub class_nothing : class [] ≡ free.zero
  unfolding free
  class_nothing = refl

  pub class_append : (l l' : FormalSum K T) → class (l ++ l') ≡ free.◌+◌ (class l) (class l')
  unfolding free sum_of quotient_lift₂ quotient_lift
  class_append l l' = refl

  pub class_cons : (e : T × K) (l : FormalSum K T) → ◌≡◌ {A = V} (class (e ∷ l)) (free.◌+◌ (free.◌·◌ e.1 (single e.0)) (class l))
  unfolding free sum_of multiple_of single scaled quotient_lift₂ quotient_lift regular
  class_cons e l = class_ext _ _ (λ t. ap₂ R.◌+◌ (ap₂ R.◌*◌ (sym (R.mul_one e.1)) refl) refl)

  -- two terms with one key
  pub class_twice : (t : T) (c d : K) → ◌≡◌ {A = V} (class ((t, c) ∷ (t, d) ∷ [])) (class ((t, R.◌+◌ c d) ∷ []))
  class_twice t c d = class_ext _ _ (λ s. sym ((regular R).add_assoc _ _ _) ∙ ap₂ (regular R).◌+◌ (sym ((regular R).add_act c d _)) refl)

  -- a term with the coefficient 0
  pub class_zero : (t : T) → ◌≡◌ {A = V} (class ((t, R.zero) ∷ [])) (class [])
  class_zero t = class_ext _ _ (λ s. ap₂ (regular R).◌+◌ ((regular R).zero_act _) refl ∙ (regular R).add_zero _)

  -- induction by one term
  pub free_ind : (P : V → Type 0) → ((v : V) → IsProp (P v)) → P free.zero → ((c : K) (t : T) (v : V) → P v → P (free.◌+◌ (free.◌·◌ c (single t)) v)) → (v : V) → P v
  unfolding free
  free_ind P prop none step = quotient_ind P prop go
    where
      go : (l : FormalSum K T) → P (class l)
      go [] = none
      go (e ∷ l) = subst P (sym (class_cons e l)) (step e.1 e.0 (class l) (go l))

  -- linear functions that agree on the single keys agree
  pub linear_unique : {A : Type 0} (X : Module R A) (f g : V → A) → Linear free X f → Linear free X g → ((t : T) → f (single t) ≡ g (single t)) → (v : V) → f v ≡ g v
  linear_unique X f g lf lg e = free_ind (λ v. f v ≡ g v) (λ v. X.is_set _ _) (modules.linear_zero free X f lf ∙ sym (modules.linear_zero free X g lg))
      (λ c t v h. lf.add _ _ ∙ ap₂ X.◌+◌ (lf.act c _ ∙ ap (X.◌·◌ c) (e t) ∙ sym (lg.act c _)) h ∙ sym (lg.add _ _))
