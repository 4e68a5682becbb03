-- Linear forms by their coefficients.
use Rattle.matrix_group.proofs.Common.{◌≡◌, ℕ, zero, suc, ◌<◌, ◌≤◌, [], ◌∷◌, length, replicate, if◌then◌else◌, ◌⊎◌, inl, inr, cases_lt, sym, ap, ap₂, ◌∙◌, refl, subst, ℕ_discrete, arith, FieldOn, Scalar, scalars, Key, Vect, vectors, plus, zero_vector, weight, weight_ext, exponent_mono, exponent, variable, after_zeros, variable_vector, length_mon, IsForm, OfDegree, Supp, IsPolynomial, InVariables, supp_zero, supp_plus, supp_act, supp_single, unit, linear_form, image}
use Rattle.alg_core.proofs.NumberTests.{is_below, not_below}
use Rattle.alg_core.specs.CanonicalLists.{indicator_no, indicator_yes}
use Rattle.alg_core.specs.ModuleLaws as modules

-- a variable is in the variables up to it, and has degree 1
pub length_variable : (i w : ℕ) → i < w → length (variable i).0 ≤ w
unfolding variable after_zeros
length_variable i w h = length_mon w (variable i) (λ j l. exponent_mono (after_zeros i (1 ∷ [])) j ∙ past i j (omega arith))
  where
    past : (i j : ℕ) → i < j → exponent (after_zeros i (1 ∷ [])) j ≡ 0
    past zero zero l = absurd (omega arith)
    past zero (suc j) l = refl
    past (suc i) zero l = absurd (omega arith)
    past (suc i) (suc j) l = past i j (omega arith)

pub weight_variable : (i w : ℕ) → i < w → weight (replicate w 1) 0 (variable i).0 ≡ 1
unfolding variable after_zeros weight
weight_variable i w h = weight_ext (replicate w 1) 0 _ (after_zeros i (1 ∷ [])) (exponent_mono (after_zeros i (1 ∷ []))) ∙ go i w 0 h
  where
    go : (i w s : ℕ) → i < w → weight (replicate w 1) s (after_zeros i (1 ∷ [])) ≡ 1
    go i zero s h = absurd (omega arith)
    go zero (suc w) s h = refl
    go (suc i) (suc w) s h = let r = go i w (suc s) (omega arith) in omega arith

module _ {E : Type 0} (k : FieldOn E) where
  pub variable_polynomial : (i : ℕ) → IsPolynomial k (variable_vector k i)
  unfolding variable_vector
  variable_polynomial i = supp_single k (λ t. t.0 ≡ 0) (0, variable i) refl

  pub variable_in_variables : (i w : ℕ) → i < w → InVariables k w (variable_vector k i)
  unfolding variable_vector
  variable_in_variables i w h = supp_single k (λ t. length t.1.0 ≤ w) (0, variable i) (length_variable i w h)

  pub variable_form : (i w : ℕ) → i < w → IsForm k (replicate w 1) 1 (variable_vector k i)
  unfolding variable_vector
  variable_form i w h = supp_single k (OfDegree k (replicate w 1) 1) (0, variable i) (refl, weight_variable i w h)

  -- a property of the keys of the first n variables is one of the keys of linear forms in them
  pub linear_form_supp : (P : Key → Type 0) (n : ℕ) (c : ℕ → Scalar k) → ((i : ℕ) → i < n → Supp k P (variable_vector k i)) → Supp k P (linear_form k n c)
  linear_form_supp P zero c h = supp_zero k P
  linear_form_supp P (suc n) c h = supp_plus k P _ _ (linear_form_supp P n c (λ i l. h i (omega arith))) (supp_act k P (c n) (variable_vector k n) (h n (omega arith)))

  pub linear_form_polynomial : (n : ℕ) (c : ℕ → Scalar k) → IsPolynomial k (linear_form k n c)
  linear_form_polynomial n c = linear_form_supp (λ t. t.0 ≡ 0) n c (λ i l. variable_polynomial i)

  pub linear_form_in_variables : (n w : ℕ) → n ≤ w → (c : ℕ → Scalar k) → InVariables k w (linear_form k n c)
  linear_form_in_variables n w le c = linear_form_supp (λ t. length t.1.0 ≤ w) n c (λ i l. variable_in_variables i w (omega arith))

  pub linear_form_form : (n w : ℕ) → n ≤ w → (c : ℕ → Scalar k) → IsForm k (replicate w 1) 1 (linear_form k n c)
  linear_form_form n w le c = linear_form_supp (OfDegree k (replicate w 1) 1) n c (λ i l. variable_form i w (omega arith))

  -- it depends on the first n coefficients
  pub linear_form_agree : (n : ℕ) (c d : ℕ → Scalar k) → ((i : ℕ) → i < n → c i ≡ d i) → linear_form k n c ≡ linear_form k n d
  linear_form_agree zero c d e = refl
  linear_form_agree (suc n) c d e = ap₂ (plus k) (linear_form_agree n c d (λ i l. e i (omega arith))) (ap (λ a. (vectors k).◌·◌ a (variable_vector k n)) (e n (omega arith)))

  -- and is linear in them
  pub linear_form_zero : (n : ℕ) → linear_form k n (λ i. (scalars k).zero) ≡ zero_vector k
  unfolding plus zero_vector
  linear_form_zero zero = refl
  linear_form_zero (suc n) = ap₂ (vectors k).◌+◌ (linear_form_zero n) ((vectors k).zero_act _) ∙ (vectors k).add_zero _

  pub linear_form_plus : (n : ℕ) (c d : ℕ → Scalar k) → linear_form k n (λ i. (scalars k).◌+◌ (c i) (d i)) ≡ plus k (linear_form k n c) (linear_form k n d)
  unfolding plus zero_vector
  linear_form_plus zero c d = sym ((vectors k).add_zero _)
  linear_form_plus (suc n) c d = ap₂ (vectors k).◌+◌ (linear_form_plus n c d) ((vectors k).add_act (c n) (d n) _) ∙ modules.add_swap (vectors k) _ _ _ _

  pub linear_form_act : (n : ℕ) (a : Scalar k) (c : ℕ → Scalar k) → linear_form k n (λ i. (scalars k).◌*◌ a (c i)) ≡ (vectors k).◌·◌ a (linear_form k n c)
  unfolding plus zero_vector
  linear_form_act zero a c = sym (modules.act_zero (vectors k) a)
  linear_form_act (suc n) a c = ap₂ (vectors k).◌+◌ (linear_form_act n a c) ((vectors k).mul_act a (c n) _) ∙ sym ((vectors k).act_add a _ _)

  -- one coefficient 1 and the others 0
  unit_before : (n i : ℕ) → n ≤ i → linear_form k n (unit (scalars k) i) ≡ zero_vector k
  unit_before n i le = linear_form_agree n (unit (scalars k) i) (λ j. (scalars k).zero) (λ j l. indicator_no (scalars k) (ℕ_discrete i j) (λ e. omega arith)) ∙ linear_form_zero n

  pub linear_form_unit : (n i : ℕ) → i < n → linear_form k n (unit (scalars k) i) ≡ variable_vector k i
  unfolding plus zero_vector
  linear_form_unit zero i h = absurd (omega arith)
  linear_form_unit (suc n) i h = go (linear_form_unit n i) (cases_lt i n)
    where
      go : (i < n → linear_form k n (unit (scalars k) i) ≡ variable_vector k i) → (i < n) ⊎ (n ≤ i) → linear_form k (suc n) (unit (scalars k) i) ≡ variable_vector k i
      go rest (inl b) = ap₂ (vectors k).◌+◌ (rest b) (ap (λ c. (vectors k).◌·◌ c (variable_vector k n)) (indicator_no (scalars k) (ℕ_discrete i n) (λ e. omega arith)) ∙ (vectors k).zero_act _) ∙ (vectors k).add_zero _
      go rest (inr b) = let e : n ≡ i = omega arith in
          ap₂ (vectors k).◌+◌ (unit_before n i b) (ap (λ c. (vectors k).◌·◌ c (variable_vector k n)) (indicator_yes (scalars k) (ℕ_discrete i n) (sym e)) ∙ (vectors k).one_act _)
          ∙ modules.zero_add (vectors k) _ ∙ ap (variable_vector k) e

  -- the image of one of the first n variables, and of any other
  pub image_inside : (n : ℕ) (a : ℕ → ℕ → Scalar k) (i : ℕ) → i < n → image k n a i ≡ linear_form k n (a i)
  image_inside n a i h = ap (λ t. if t then linear_form k n (a i) else variable_vector k i) (is_below i n h)

  pub image_outside : (n : ℕ) (a : ℕ → ℕ → Scalar k) (i : ℕ) → n ≤ i → image k n a i ≡ variable_vector k i
  image_outside n a i h = ap (λ t. if t then linear_form k n (a i) else variable_vector k i) (not_below i n h)

  -- a property of images, by cases
  pub image_has : (P : Vect k → Type 0) (n : ℕ) (a : ℕ → ℕ → Scalar k) (i : ℕ) → (i < n → P (linear_form k n (a i))) → (n ≤ i → P (variable_vector k i)) → P (image k n a i)
  image_has P n a i inside outside = go (cases_lt i n)
    where
      go : (i < n) ⊎ (n ≤ i) → P (image k n a i)
      go (inl h) = subst P (sym (image_inside n a i h)) (inside h)
      go (inr h) = subst P (sym (image_outside n a i h)) (outside h)
