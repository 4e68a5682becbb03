-- The members of a reduced basis have the variables of the generators alone.
use Rattle.std.proofs.Common.{◌≡◌, ℕ, ◌+◌, ◌-◌, ◌≤◌, true, List, length, sym, ap, ap₂, ◌∙◌, refl, subst, arith, inl, inr}
use native.Mathlib.Decide.{ℕ_discrete}
use Rattle.alg_core.specs.Rings.{Linear}
use Rattle.alg_core.specs.ModuleLaws as modules
use Rattle.alg_core.specs.Fields.{FieldOn, scalars, is_field}
use Rattle.alg_core.specs.FreeModules.{extend, extend_linear, extend_single}
use Rattle.alg_core.specs.Monomials.{Mon, mon_same, monomials, exponent, exponent_mul}
use Rattle.alg_core.specs.Keys.{Key, key_same, keys, times_key, times_key_mul}
use Rattle.alg_core.specs.Leads.{HasLead, has_lead, lead_unique}
use Rattle.alg_core.specs.Lists.{In}
use Rattle.alg_core.specs.Spaces.{SpaceOver}
use Rattle.alg_core.specs.SpaceOrder.{key_order}
use Rattle.alg_core.specs.Vectors.{Vect, vectors, coef_at, plus, zero_vector, shift}
use Rattle.alg_core.specs.MonomialParts.{variable_part, mark_part, as_marks}
use Rattle.alg_core.proofs.VectorLaws.{shift_linear, shift_single, shift_zero_vector, coef_at_zero}
use Rattle.alg_core.proofs.MonomialParts.{parts, variable_part_mul, variable_part_same, mark_part_mul, mark_part_none, exponent_mark_part, exponent_as_marks}
use Rattle.poly_module.specs.Polynomials.{single_vector, product}
use Rattle.poly_module.specs.Products.{product_linear, product_linear_left, product_single, zero_product}
use Rattle.poly_module.specs.Parts.{Supp, IsPolynomial, InVariables, select, select_linear, select_plus, select_zero, select_single_yes, select_single_no, select_supp, supp_single, linear_supp, linear_unique_supp}
use Rattle.poly_module.specs.Variables.{length_mon}
use Rattle.poly_module.specs.Modules.{LeadBy, InModule}
use Rattle.poly_module.specs.ReducedLists.{FitsOrder, IsReducedBasis}
use Rattle.poly_module.proofs.LeadLaws.{lead_shift}
use Rattle.poly_module.proofs.Marks.{keeps_products}
use Rattle.poly_module.proofs.ModuleElements.{module_zero, module_plus, module_product, module_member, module_ind}
use Rattle.poly_module.proofs.Reduced.{divides_trans, reduced_selected}

module _ {E : Type 0} (k : FieldOn E) where
  -- the part of a product, where factors with keys in P do not change whether a key passes
  product_select : {Q : Key → Type 0} (test : (t : Key) → Dec (Q t)) (P : Key → Type 0) → ((s t : Key) → P t → Q s → Q (keys.◌·◌ s t)) → ((s t : Key) → P t → Q (keys.◌·◌ s t) → Q s)
      → (f v : Vect k) → Supp k P v → select k test (product k f v) ≡ product k (select k test f) v
  product_select {Q = Q} test P to from f v h = linear_unique_supp k (vectors k) (λ f. select k test (product k f v)) (λ f. product k (select k test f) v)
      (modules.linear_after (vectors k) (vectors k) (vectors k) (λ f. product k f v) (select k test) (product_linear_left k v) (select_linear k test))
      (modules.linear_after (vectors k) (vectors k) (vectors k) (select k test) (λ f. product k f v) (select_linear k test) (product_linear_left k v))
      (λ t. Unit {0}) (λ s u. one_factor s) f (λ t c. tt)
    where
      two : (s t : Key) → P t → Dec (Q s) → select k test (product k (single_vector k s) (single_vector k t)) ≡ product k (select k test (single_vector k s)) (single_vector k t)
      two s t p (yes q) = ap (select k test) (product_single k s t) ∙ select_single_yes k test (keys.◌·◌ s t) (to s t p q) ∙ sym (ap (λ w. product k w (single_vector k t)) (select_single_yes k test s q) ∙ product_single k s t)
      two s t p (no n) = ap (select k test) (product_single k s t) ∙ select_single_no k test (keys.◌·◌ s t) (λ q. n (from s t p q)) ∙ sym (ap (λ w. product k w (single_vector k t)) (select_single_no k test s n) ∙ zero_product k _)

      one_factor : (s : Key) → select k test (product k (single_vector k s) v) ≡ product k (select k test (single_vector k s)) v
      one_factor s = linear_unique_supp k (vectors k) (λ v. select k test (product k (single_vector k s) v)) (product k (select k test (single_vector k s)))
          (modules.linear_after (vectors k) (vectors k) (vectors k) (product k (single_vector k s)) (select k test) (product_linear k (single_vector k s)) (select_linear k test))
          (product_linear k (select k test (single_vector k s))) P (λ t p. two s t p (test s)) v h

  module _ (n : ℕ) where
    -- each variable after the first n as 1
    stripped : Vect k → Vect k
    stripped = extend (scalars k) key_same (vectors k) (λ t. single_vector k (t.0, variable_part n t.1))

    stripped_linear : Linear (vectors k) (vectors k) stripped
    unfolding stripped
    stripped_linear = extend_linear (scalars k) key_same (vectors k) _

    stripped_single : (t : Key) → stripped (single_vector k t) ≡ single_vector k (t.0, variable_part n t.1)
    unfolding stripped single_vector
    stripped_single t = extend_single (scalars k) key_same (vectors k) _ t

    stripped_product : (u v : Vect k) → stripped (product k u v) ≡ product k (stripped u) (stripped v)
    unfolding keys
    stripped_product = keeps_products k stripped stripped_linear
        (λ s t. stripped_single (keys.◌·◌ s t) ∙ ap (λ m. single_vector k (s.0 + t.0, m)) (variable_part_mul n s.1 t.1) ∙ sym (ap₂ (product k) (stripped_single s) (stripped_single t) ∙ product_single k (s.0, variable_part n s.1) (t.0, variable_part n t.1)))

    stripped_same : (v : Vect k) → InVariables k n v → stripped v ≡ v
    stripped_same = linear_unique_supp k (vectors k) stripped (λ v. v) stripped_linear (modules.linear_same (vectors k)) (λ t. length t.1.0 ≤ n)
        (λ t h. stripped_single t ∙ ap (λ m. single_vector k (t.0, m)) (variable_part_same n t.1 h))

    stripped_polynomial : (v : Vect k) → IsPolynomial k v → IsPolynomial k (stripped v)
    stripped_polynomial = linear_supp k stripped stripped_linear (λ t. t.0 ≡ 0) (λ t. t.0 ≡ 0) (λ t. ℕ_discrete t.0 0)
        (λ t h. subst (IsPolynomial k) (sym (stripped_single t)) (supp_single k (λ t. t.0 ≡ 0) (t.0, variable_part n t.1) h))

    -- a vector with one part after the first n variables
    stripped_back : (u : Mon) (v : Vect k) → Supp k (λ t. mark_part n t.1 ≡ u) v → shift k (as_marks n u) (stripped v) ≡ v
    unfolding single_vector
    stripped_back u = linear_unique_supp k (vectors k) (λ v. shift k (as_marks n u) (stripped v)) (λ v. v)
        (modules.linear_after (vectors k) (vectors k) (vectors k) stripped (shift k (as_marks n u)) stripped_linear (shift_linear k (as_marks n u))) (modules.linear_same (vectors k))
        (λ t. mark_part n t.1 ≡ u)
        (λ t h. ap (shift k (as_marks n u)) (stripped_single t) ∙ shift_single k (as_marks n u) (t.0, variable_part n t.1)
        ∙ ap (λ m. single_vector k (t.0, m)) (monomials.comm (as_marks n u) (variable_part n t.1) ∙ ap (λ w. monomials.◌·◌ (variable_part n t.1) (as_marks n w)) (sym h) ∙ parts n t.1))

module _ {E : Type 0} (S : SpaceOver E) {I : Type 0} (g : I → Vect S.field) (n : ℕ) (given : (i : I) → InVariables S.field n (g i)) where
  abbrev Rest : Mon → Key → Type 0
  Rest u t = mark_part n t.1 ≡ u

  rest_test : (u : Mon) (t : Key) → Dec (Rest u t)
  rest_test u t = mon_same (mark_part n t.1) u

  rest_same : (s t : Key) → length t.1.0 ≤ n → mark_part n (keys.◌·◌ s t).1 ≡ mark_part n s.1
  unfolding keys
  rest_same s t h = mark_part_mul n s.1 t.1 ∙ ap (monomials.◌·◌ (mark_part n s.1)) (mark_part_none n t.1 h) ∙ monomials.mul_one _

  module_rest : (u : Mon) (v : Vect S.field) → InModule S.field g v → InModule S.field g (select S.field (rest_test u) v)
  module_rest u = module_ind S.field g (λ v. InModule S.field g (select S.field (rest_test u) v)) (subst (InModule S.field g) (sym (select_zero S.field (rest_test u))) (module_zero S.field g))
      (λ f v i p a. subst (InModule S.field g) (sym (select_plus S.field (rest_test u) _ v))
      (module_plus S.field g _ _
      (subst (InModule S.field g) (sym (product_select S.field (rest_test u) (λ t. length t.1.0 ≤ n) (λ s t h q. rest_same s t h ∙ q) (λ s t h q. sym (rest_same s t h) ∙ q) f (g i) (given i)))
      (module_product S.field g (select S.field (rest_test u) f) (g i) (select_supp S.field (rest_test u) (λ t. t.0 ≡ 0) f p) (module_member S.field g i))) a))

  module_stripped : (v : Vect S.field) → InModule S.field g v → InModule S.field g (stripped S.field n v)
  unfolding plus zero_vector
  module_stripped = module_ind S.field g (λ v. InModule S.field g (stripped S.field n v)) (subst (InModule S.field g) (sym (modules.linear_zero (vectors S.field) (vectors S.field) (stripped S.field n) (stripped_linear S.field n))) (module_zero S.field g))
      (λ f v i p a. subst (InModule S.field g) (sym ((stripped_linear S.field n).add _ v))
      (module_plus S.field g _ _
      (subst (InModule S.field g) (sym (stripped_product S.field n f (g i) ∙ ap (product S.field (stripped S.field n f)) (stripped_same S.field n (g i) (given i))))
      (module_product S.field g (stripped S.field n f) (g i) (stripped_polynomial S.field n f p) (module_member S.field g i))) a))

  factors_of_one : (a b t : Mon) → monomials.◌·◌ t (monomials.◌·◌ a b) ≡ t → (i : ℕ) → exponent a.0 i ≡ 0
  factors_of_one a b t e i =
      let p = exponent_mul t (monomials.◌·◌ a b) i in
      let q = exponent_mul a b i in
      let r : exponent (monomials.◌·◌ t (monomials.◌·◌ a b)).0 i ≡ exponent t.0 i = ap (λ m. exponent m.0 i) e in
      omega arith

  -- the members of a reduced basis have the variables of the generators alone
  pub reduced_variables : S.order.is_positive ≡ true → ((i : I) → Supp S.field (FitsOrder S) (g i)) → (vs : List (Vect S.field)) → IsReducedBasis S g vs → (v : Vect S.field) → In v vs → InVariables S.field n v
  unfolding coef_at zero_vector
  reduced_variables positive fits vs a v i =
      let lead = a.reduced.lead v i in
      let u = mark_part n lead.0.1 in
      let same = reduced_selected S g (rest_test u) (module_rest u) positive fits vs a v lead.0 i lead.1 refl in
      conclude lead.0 lead.1 same
    where
      conclude : (t : Key) → LeadBy S.field (key_order S) v t → Supp S.field (Rest (mark_part n t.1)) v → InVariables S.field n v
      conclude t lead same r nz = length_mon n r.1 (λ j l. let e : n + (j - n) ≡ j = omega arith in subst (λ m. exponent r.1.0 m ≡ 0) e (sym (exponent_mark_part n r.1 (j - n)) ∙ ap (λ m. exponent m.0 (j - n)) (same r nz) ∙ none (j - n)))
        where
          u : Mon
          u = mark_part n t.1

          w : Vect S.field
          w = stripped S.field n v

          back : shift S.field (as_marks n u) w ≡ v
          back = stripped_back S.field n u v same

          inside : InModule S.field g w
          inside = module_stripped v (a.reduced.inside v i)

          by_lead : (s : Key) → LeadBy S.field (key_order S) w s → (j : ℕ) → exponent (as_marks n u).0 j ≡ 0
          by_lead s l j =
              let above : times_key (as_marks n u) s ≡ t = lead_unique (scalars S.field) (is_field S.field) key_same (key_order S) v _ t (subst (λ x. LeadBy S.field (key_order S) x (times_key (as_marks n u) s)) back (lead_shift S (as_marks n u) w s l)) lead in
              let c = a.reduced.covers w s inside l in
              let one : c.0 ≡ v = a.reduced.apart v c.0 c.1 t i c.2 c.3 lead.there (divides_trans S g c.1 s t c.4 (as_marks n u, above)) in
              let equal : c.1 ≡ t = lead_unique (scalars S.field) (is_field S.field) key_same (key_order S) v c.1 t (subst (λ x. LeadBy S.field (key_order S) x c.1) one c.3) lead in
              let round : times_key (as_marks n u) (times_key c.4.0 t) ≡ t = ap (λ x. times_key (as_marks n u) (times_key c.4.0 x)) (sym equal) ∙ ap (times_key (as_marks n u)) c.4.1 ∙ above in
              factors_of_one (as_marks n u) c.4.0 t.1 (monomials.comm t.1 _ ∙ ap (λ x. x.1) (times_key_mul (as_marks n u) c.4.0 t ∙ round)) j

          all : HasLead (scalars S.field) (is_field S.field) key_same (key_order S) w → (j : ℕ) → exponent (as_marks n u).0 j ≡ 0
          all (inl z) = absurd (lead.there (ap (λ x. coef_at S.field x t) (sym back ∙ ap (shift S.field (as_marks n u)) z ∙ shift_zero_vector S.field (as_marks n u)) ∙ coef_at_zero S.field t))
          all (inr l) = by_lead l.0 l.1

          none : (j : ℕ) → exponent u.0 j ≡ 0
          none j = sym (exponent_as_marks n u j) ∙ all (has_lead (scalars S.field) (is_field S.field) key_same (key_order S) w) (n + j)
