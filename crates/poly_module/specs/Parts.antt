-- Which keys a vector has, and its part at the keys that pass a test.
--
--   Supp k Q v            each key at which the coefficient of v is not 0 satisfies Q
--   select k test v       the part of v at the keys that pass the test
--   passing f t           whether the key t passes the test f
--   IsPolynomial k v      the keys of v have position 0
--   InVariables k n v     the keys of v have no variable but the first n
--   supp_ind              induction by one term with a key that satisfies Q
use Rattle.std.specs.Prelude.{◌≡◌, ℕ, ◌≤◌, length, Bool, true}
use mathlib.Core.Bool.{Bool-discrete}
use mathlib.Core.Path.{sym, ap, ap₂, ◌∙◌, refl, subst}
use mathlib.Core.HLevel.{Π_prop}
use Rattle.alg_core.specs.Rings.{Module, Linear}
use Rattle.alg_core.specs.RingLaws as rings
use Rattle.alg_core.specs.ModuleLaws as modules
use Rattle.alg_core.specs.FormalSums.{regular, indicator}
use Rattle.alg_core.specs.FreeModules.{extend, extend_linear, extend_single, linear_unique, coef_linear, coef_single, free_ind}
use Rattle.alg_core.specs.CanonicalLists.{indicator_no}
use Rattle.alg_core.specs.Fields.{FieldOn, Scalar, scalars, scalar, scalar_same, scalar_of_value}
use Rattle.alg_core.specs.Monomials.{Mon}
use Rattle.alg_core.specs.Keys.{Key, key_same, keys, times_key}
use Rattle.alg_core.specs.Vectors.{Vect, vectors, coef_at, plus, zero_vector, scale, shift}
use Rattle.alg_core.proofs.VectorLaws.{coef_at_ext, coef_at_plus, coef_at_scale, coef_at_zero, zero_plus}
use Rattle.poly_module.specs.Polynomials.{single_vector, product}
use Rattle.poly_module.specs.Products.{product_linear, product_linear_left, product_single}

-- a test of keys as a decision
abbrev pub passing : (f : Key → Bool) (t : Key) → Dec (f t ≡ true)
passing f t = Bool-discrete (f t) true

-- where the decided fact does not hold, nothing
unfoldable chosen : {P A : Type 0} → Dec P → A → A → A
chosen (yes p) x none = x
chosen (no p) x none = none

module _ {E : Type 0} (k : FieldOn E) where
  abbrev zero : Scalar k
  zero = (scalars k).zero

  -- each key with a coefficient other than 0 satisfies Q
  abbrev pub Supp : (Key → Type 0) → Vect k → Type 0
  Supp Q v = (t : Key) → ¬ (coef_at k v t ≡ (scalars k).zero) → Q t

  -- position 0 alone
  abbrev pub IsPolynomial : Vect k → Type 0
  IsPolynomial v = Supp (λ t. t.0 ≡ 0) v

  -- no variable but the first n
  abbrev pub InVariables : ℕ → Vect k → Type 0
  InVariables n v = Supp (λ t. length t.1.0 ≤ n) v

  coef_is_zero : (v : Vect k) (t : Key) → Dec (coef_at k v t ≡ zero)
  coef_is_zero v t = scalar_same k (coef_at k v t) zero

  -- a key that does not satisfy Q has the coefficient 0
  pub supp_outside : (Q : Key → Type 0) (v : Vect k) → Supp Q v → (t : Key) → ¬ Q t → coef_at k v t ≡ (scalars k).zero
  supp_outside Q v h t n = go (coef_is_zero v t)
    where
      go : Dec (coef_at k v t ≡ zero) → coef_at k v t ≡ zero
      go (yes z) = z
      go (no c) = absurd (n (h t c))

  pub outside_supp : (Q : Key → Type 0) → ((t : Key) → Dec (Q t)) → (v : Vect k) → ((t : Key) → ¬ Q t → coef_at k v t ≡ (scalars k).zero) → Supp Q v
  outside_supp Q test v h t c = go (test t)
    where
      go : Dec (Q t) → Q t
      go (yes q) = q
      go (no n) = absurd (c (h t n))

  pub supp_weaken : (P Q : Key → Type 0) → ((t : Key) → P t → Q t) → (v : Vect k) → Supp P v → Supp Q v
  supp_weaken P Q w v h t c = w t (h t c)

  pub supp_zero : (Q : Key → Type 0) → Supp Q (zero_vector k)
  supp_zero Q t c = absurd (c (coef_at_zero k t))

  pub supp_plus : (Q : Key → Type 0) (u v : Vect k) → Supp Q u → Supp Q v → Supp Q (plus k u v)
  supp_plus Q u v h g t c = go (coef_is_zero u t)
    where
      go : Dec (coef_at k u t ≡ zero) → Q t
      go (yes z) = g t (λ y. c (coef_at_plus k u v t ∙ ap₂ (scalars k).◌+◌ z y ∙ (scalars k).add_zero zero))
      go (no n) = h t n

  pub supp_scale : (Q : Key → Type 0) (c : E) (v : Vect k) → Supp Q v → Supp Q (scale k c v)
  supp_scale Q c v h t n = h t (λ z. n (coef_at_scale k c v t ∙ ap ((scalars k).◌*◌ (scalar k c)) z ∙ rings.mul_zero (scalars k) _))

  pub supp_act : (Q : Key → Type 0) (c : Scalar k) (v : Vect k) → Supp Q v → Supp Q ((vectors k).◌·◌ c v)
  unfolding scale
  supp_act Q c v h = subst (λ d. Supp Q ((vectors k).◌·◌ d v)) (scalar_of_value k c) (supp_scale Q c.0 v h)

  pub coef_at_single : (s t : Key) → coef_at k (single_vector k s) t ≡ indicator (scalars k) (key_same s t)
  unfolding coef_at single_vector
  coef_at_single = coef_single (scalars k) key_same

  pub coef_at_linear : (t : Key) → Linear (vectors k) (regular (scalars k)) (λ v. coef_at k v t)
  unfolding coef_at
  coef_at_linear = coef_linear (scalars k) key_same

  pub supp_single : (Q : Key → Type 0) (s : Key) → Q s → Supp Q (single_vector k s)
  supp_single Q s q t c = go (key_same s t)
    where
      go : Dec (s ≡ t) → Q t
      go (yes e) = subst Q e q
      go (no n) = absurd (c (coef_at_single s t ∙ indicator_no (scalars k) (key_same s t) n))

  zero_linear : Linear (vectors k) (regular (scalars k)) (λ v. zero)
  unfolding regular
  zero_linear = record { add = λ x y. sym ((scalars k).add_zero zero); act = λ d x. sym (rings.mul_zero (scalars k) d) }

  module _ {Q : Key → Type 0} (test : (t : Key) → Dec (Q t)) where
    -- the part at the keys that pass
    pub select : Vect k → Vect k
    select = extend (scalars k) key_same (vectors k) (λ t. chosen (test t) (single_vector k t) (zero_vector k))

    pub select_linear : Linear (vectors k) (vectors k) select
    unfolding select
    select_linear = extend_linear (scalars k) key_same (vectors k) _

    pub select_plus : (u v : Vect k) → select (plus k u v) ≡ plus k (select u) (select v)
    unfolding plus
    select_plus = select_linear.add

    pub select_scale : (c : E) (v : Vect k) → select (scale k c v) ≡ scale k c (select v)
    unfolding scale
    select_scale c = select_linear.act (scalar k c)

    pub select_zero : select (zero_vector k) ≡ zero_vector k
    unfolding zero_vector
    select_zero = modules.linear_zero (vectors k) (vectors k) select select_linear

    select_single : (s : Key) → select (single_vector k s) ≡ chosen (test s) (single_vector k s) (zero_vector k)
    unfolding select single_vector
    select_single s = extend_single (scalars k) key_same (vectors k) _ s

    pub select_single_yes : (s : Key) → Q s → select (single_vector k s) ≡ single_vector k s
    unfolding chosen
    select_single_yes s q = select_single s ∙ go (test s)
      where
        go : (d : Dec (Q s)) → chosen d (single_vector k s) (zero_vector k) ≡ single_vector k s
        go (yes p) = refl
        go (no n) = absurd (n q)

    pub select_single_no : (s : Key) → ¬ Q s → select (single_vector k s) ≡ zero_vector k
    unfolding chosen
    select_single_no s n = select_single s ∙ go (test s)
      where
        go : (d : Dec (Q s)) → chosen d (single_vector k s) (zero_vector k) ≡ zero_vector k
        go (yes p) = absurd (n p)
        go (no p) = refl

    chosen_linear : {P : Type 0} (d : Dec P) (t : Key) → Linear (vectors k) (regular (scalars k)) (λ v. chosen d (coef_at k v t) zero)
    unfolding chosen
    chosen_linear (yes p) t = coef_at_linear t
    chosen_linear (no p) t = zero_linear

    coef_at_select : (v : Vect k) (t : Key) → coef_at k (select v) t ≡ chosen (test t) (coef_at k v t) zero
    unfolding chosen single_vector
    coef_at_select v t = linear_unique (scalars k) key_same (regular (scalars k)) (λ v. coef_at k (select v) t) (λ v. chosen (test t) (coef_at k v t) zero)
        (modules.linear_after (vectors k) (vectors k) (regular (scalars k)) select (λ v. coef_at k v t) select_linear (coef_at_linear t)) (chosen_linear (test t) t)
        (λ s. ap (λ v. coef_at k v t) (select_single s) ∙ at s (test s) (test t)) v
      where
        at : (s : Key) (x : Dec (Q s)) (y : Dec (Q t)) → coef_at k (chosen x (single_vector k s) (zero_vector k)) t ≡ chosen y (coef_at k (single_vector k s) t) zero
        at s (yes p) (yes q) = refl
        at s (yes p) (no q) = coef_at_single s t ∙ indicator_no (scalars k) (key_same s t) (λ e. q (subst Q e p))
        at s (no p) (yes q) = coef_at_zero k t ∙ sym (coef_at_single s t ∙ indicator_no (scalars k) (key_same s t) (λ e. p (subst Q (sym e) q)))
        at s (no p) (no q) = coef_at_zero k t

    -- at a key that passes the coefficient stays; elsewhere it is 0
    pub select_inside : (v : Vect k) (t : Key) → Q t → coef_at k (select v) t ≡ coef_at k v t
    unfolding chosen
    select_inside v t q = coef_at_select v t ∙ go (test t)
      where
        go : (d : Dec (Q t)) → chosen d (coef_at k v t) zero ≡ coef_at k v t
        go (yes p) = refl
        go (no n) = absurd (n q)

    pub select_outside : (v : Vect k) (t : Key) → ¬ Q t → coef_at k (select v) t ≡ (scalars k).zero
    unfolding chosen
    select_outside v t n = coef_at_select v t ∙ go (test t)
      where
        go : (d : Dec (Q t)) → chosen d (coef_at k v t) zero ≡ zero
        go (yes p) = absurd (n p)
        go (no p) = refl

    -- what is selected passes, and keeps every other property
    pub supp_select : (v : Vect k) → Supp Q (select v)
    supp_select v = outside_supp Q test (select v) (select_outside v)

    pub select_supp : (P : Key → Type 0) (v : Vect k) → Supp P v → Supp P (select v)
    select_supp P v h t c = go (test t)
      where
        go : Dec (Q t) → P t
        go (yes q) = h t (λ z. c (select_inside v t q ∙ z))
        go (no n) = absurd (c (select_outside v t n))

    -- all of a vector whose keys pass
    pub select_all : (v : Vect k) → Supp Q v → select v ≡ v
    select_all v h = coef_at_ext k _ _ (λ t. go t (test t))
      where
        go : (t : Key) → Dec (Q t) → coef_at k (select v) t ≡ coef_at k v t
        go t (yes q) = select_inside v t q
        go t (no n) = select_outside v t n ∙ sym (supp_outside Q v h t n)

    -- nothing of a vector whose keys do not
    pub select_none : (P : Key → Type 0) → ((t : Key) → P t → ¬ Q t) → (v : Vect k) → Supp P v → select v ≡ zero_vector k
    select_none P apart v h = coef_at_ext k _ _ (λ t. go t (test t))
      where
        go : (t : Key) → Dec (Q t) → coef_at k (select v) t ≡ coef_at k (zero_vector k) t
        go t (yes q) = select_inside v t q ∙ supp_outside P v h t (λ p. apart t p q) ∙ sym (coef_at_zero k t)
        go t (no n) = select_outside v t n ∙ sym (coef_at_zero k t)

  -- induction by one term with a key that satisfies Q
  pub supp_ind : (Q : Key → Type 0) (P : Vect k → Type 0) → ((v : Vect k) → IsProp (P v)) → P (zero_vector k)
      → ((c : Scalar k) (t : Key) (v : Vect k) → Q t → P v → P (plus k ((vectors k).◌·◌ c (single_vector k t)) v)) → (u : Vect k) → Supp Q u → P u
  unfolding zero_vector plus single_vector
  supp_ind Q P prop none step u h = subst P (select_all passes u (λ t c. c)) (free_ind (scalars k) key_same (λ v. P (select passes v)) (λ v. prop _) (subst P (sym (select_zero passes)) none) (λ c t v p. more c t v p (coef_is_zero u t)) u)
    where
      passes : (t : Key) → Dec (¬ (coef_at k u t ≡ zero))
      passes t = go (coef_is_zero u t)
        where
          go : Dec (coef_at k u t ≡ zero) → Dec (¬ (coef_at k u t ≡ zero))
          go (yes z) = no (λ n. n z)
          go (no n) = yes n

      splits : (c : Scalar k) (t : Key) (v : Vect k) → select passes (plus k ((vectors k).◌·◌ c (single_vector k t)) v) ≡ plus k ((vectors k).◌·◌ c (select passes (single_vector k t))) (select passes v)
      splits c t v = select_plus passes _ v ∙ ap (λ w. plus k w (select passes v)) ((select_linear passes).act c _)

      more : (c : Scalar k) (t : Key) (v : Vect k) → P (select passes v) → Dec (coef_at k u t ≡ zero) → P (select passes (plus k ((vectors k).◌·◌ c (single_vector k t)) v))
      more c t v p (yes z) = subst P (sym (splits c t v ∙ ap (λ w. plus k ((vectors k).◌·◌ c w) (select passes v)) (select_single_no passes t (λ n. n z)) ∙ ap (λ w. plus k w (select passes v)) (modules.act_zero (vectors k) c) ∙ zero_plus k _)) p
      more c t v p (no n) = subst P (sym (splits c t v ∙ ap (λ w. plus k ((vectors k).◌·◌ c w) (select passes v)) (select_single_yes passes t n))) (step c t (select passes v) (h t n) p)

  -- linear functions that agree on the keys of a vector agree there
  pub linear_unique_supp : {A : Type 0} (Y : Module (scalars k) A) (f g : Vect k → A) → Linear (vectors k) Y f → Linear (vectors k) Y g
      → (Q : Key → Type 0) → ((t : Key) → Q t → f (single_vector k t) ≡ g (single_vector k t)) → (u : Vect k) → Supp Q u → f u ≡ g u
  unfolding zero_vector plus
  linear_unique_supp Y f g lf lg Q e = supp_ind Q (λ v. f v ≡ g v) (λ v. Y.is_set _ _) (modules.linear_zero (vectors k) Y f lf ∙ sym (modules.linear_zero (vectors k) Y g lg))
      (λ c t v q h. lf.add _ _ ∙ ap₂ Y.◌+◌ (lf.act c _ ∙ ap (Y.◌·◌ c) (e t q) ∙ sym (lg.act c _)) h ∙ sym (lg.add _ _))

  -- the keys of a value of a linear function, by those of its values on single keys
  pub linear_supp : (f : Vect k → Vect k) → Linear (vectors k) (vectors k) f → (Q P : Key → Type 0) → ((t : Key) → Dec (P t)) → ((t : Key) → Q t → Supp P (f (single_vector k t))) → (u : Vect k) → Supp Q u → Supp P (f u)
  unfolding zero_vector plus regular
  linear_supp f lf Q P test each u h = outside_supp P test (f u) (supp_ind Q Outside (λ v. Π_prop (λ t. Π_prop (λ n. (scalars k).is_set _ _))) none more u h)
    where
      Outside : Vect k → Type 0
      Outside v = (t : Key) → ¬ P t → coef_at k (f v) t ≡ zero

      none : Outside (zero_vector k)
      none t n = ap (λ w. coef_at k w t) (modules.linear_zero (vectors k) (vectors k) f lf) ∙ coef_at_zero k t

      more : (c : Scalar k) (t : Key) (v : Vect k) → Q t → Outside v → Outside (plus k ((vectors k).◌·◌ c (single_vector k t)) v)
      more c t v q o s n = ap (λ w. coef_at k w s) (lf.add _ _) ∙ coef_at_plus k _ _ s
          ∙ ap₂ (scalars k).◌+◌ (ap (λ w. coef_at k w s) (lf.act c _) ∙ (coef_at_linear s).act c _ ∙ ap ((scalars k).◌*◌ c) (supp_outside P _ (each t q) s n) ∙ rings.mul_zero (scalars k) c) (o s n)
          ∙ (scalars k).add_zero zero

  -- the keys of a product are products of keys
  pub supp_product : (P Q M : Key → Type 0) → ((t : Key) → Dec (M t)) → ((s t : Key) → P s → Q t → M (keys.◌·◌ s t)) → (u v : Vect k) → Supp P u → Supp Q v → Supp M (product k u v)
  supp_product P Q M test both u v h g = linear_supp (λ u. product k u v) (product_linear_left k v) P M test
      (λ s p. linear_supp (product k (single_vector k s)) (product_linear k _) Q M test (λ t q. subst (Supp M) (sym (product_single k s t)) (supp_single M (keys.◌·◌ s t) (both s t p q))) v g) u h

  pub supp_shift : (P Q : Key → Type 0) → ((t : Key) → Dec (Q t)) → (m : Mon) → ((t : Key) → P t → Q (times_key m t)) → (v : Vect k) → Supp P v → Supp Q (shift k m v)
  unfolding shift single_vector
  supp_shift P Q test m moves = linear_supp (shift k m) (extend_linear (scalars k) key_same (vectors k) _) P Q test
      (λ t p. subst (Supp Q) (sym (extend_single (scalars k) key_same (vectors k) _ t)) (supp_single Q (times_key m t) (moves t p)))
