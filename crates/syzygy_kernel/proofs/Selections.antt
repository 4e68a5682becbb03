-- The parts of vectors at the keys with one part after the first n variables.
use Rattle.std.proofs.Common.{◌≡◌, ◌∙◌, ◌≤◌, ℕ, length, sym, ap, subst}
use Rattle.std.specs.declared.cmp.Ordering.TheVariants.{Less}
use Rattle.alg_core.specs.ModuleLaws as modules
use Rattle.alg_core.specs.Fields.{FieldOn, scalars}
use Rattle.alg_core.specs.Keys.{Key, keys}
use Rattle.alg_core.specs.KeyOrders.{OrderOn}
use Rattle.alg_core.specs.MonomialParts.{mark_part}
use Rattle.alg_core.specs.Monomials.{Mon, monomials, mon_same}
use Rattle.alg_core.specs.Vectors.{Vect, vectors, coef_at}
use Rattle.alg_core.proofs.MonomialParts.{mark_part_mul, mark_part_none}
use Rattle.poly_module.specs.Modules.{InModule, LeadBy}
use Rattle.poly_module.specs.Parts.{Supp, InVariables, select, select_linear, select_plus, select_zero, select_inside, select_outside, select_single_yes, select_single_no, select_supp, linear_unique_supp}
use Rattle.poly_module.specs.Polynomials.{single_vector, product}
use Rattle.poly_module.specs.Products.{product_linear, product_linear_left, product_single, zero_product}
use Rattle.poly_module.proofs.ModuleElements.{module_zero, module_plus, module_product, module_member, module_ind}

module _ {E : Type 0} (k : FieldOn E) where
  -- the part of a product, where factors with keys in P do not change whether a key passes
  product_select : {Q : Key → Type 0} (test : (t : Key) → Dec (Q t)) (P : Key → Type 0) → ((s t : Key) → P t → Q s → Q (keys.◌·◌ s t)) → ((s t : Key) → P t → Q (keys.◌·◌ s t) → Q s)
      → (f v : Vect k) → Supp k P v → select k test (product k f v) ≡ product k (select k test f) v
  product_select {Q = Q} test P to from f v h = linear_unique_supp k (vectors k) (λ f. select k test (product k f v)) (λ f. product k (select k test f) v)
      (modules.linear_after (vectors k) (vectors k) (vectors k) (λ f. product k f v) (select k test) (product_linear_left k v) (select_linear k test))
      (modules.linear_after (vectors k) (vectors k) (vectors k) (select k test) (λ f. product k f v) (select_linear k test) (product_linear_left k v))
      (λ t. Unit {0}) (λ s u. one_factor s) f (λ t c. tt)
    where
      two : (s t : Key) → P t → Dec (Q s) → select k test (product k (single_vector k s) (single_vector k t)) ≡ product k (select k test (single_vector k s)) (single_vector k t)
      two s t p (yes q) = ap (select k test) (product_single k s t) ∙ select_single_yes k test (keys.◌·◌ s t) (to s t p q) ∙ sym (ap (λ w. product k w (single_vector k t)) (select_single_yes k test s q) ∙ product_single k s t)
      two s t p (no n) = ap (select k test) (product_single k s t) ∙ select_single_no k test (keys.◌·◌ s t) (λ q. n (from s t p q)) ∙ sym (ap (λ w. product k w (single_vector k t)) (select_single_no k test s n) ∙ zero_product k _)

      one_factor : (s : Key) → select k test (product k (single_vector k s) v) ≡ product k (select k test (single_vector k s)) v
      one_factor s = linear_unique_supp k (vectors k) (λ v. select k test (product k (single_vector k s) v)) (product k (select k test (single_vector k s)))
          (modules.linear_after (vectors k) (vectors k) (vectors k) (product k (single_vector k s)) (select k test) (product_linear k (single_vector k s)) (select_linear k test))
          (product_linear k (select k test (single_vector k s))) P (λ t p. two s t p (test s)) v h

  module _ (n : ℕ) (u : Mon) where
    pub rest_test : (t : Key) → Dec (mark_part n t.1 ≡ u)
    rest_test t = mon_same (mark_part n t.1) u

    rest_same : (s t : Key) → length t.1.0 ≤ n → mark_part n (keys.◌·◌ s t).1 ≡ mark_part n s.1
    unfolding keys
    rest_same s t h = mark_part_mul n s.1 t.1 ∙ ap (monomials.◌·◌ (mark_part n s.1)) (mark_part_none n t.1 h) ∙ monomials.mul_one _

    -- the module of vectors in the first n variables has these parts of its elements
    pub module_rest : {I : Type 0} (g : I → Vect k) → ((i : I) → InVariables k n (g i)) → (v : Vect k) → InModule k g v → InModule k g (select k rest_test v)
    module_rest g given = module_ind k g (λ v. InModule k g (select k rest_test v)) (subst (InModule k g) (sym (select_zero k rest_test)) (module_zero k g))
        (λ f v i p a. subst (InModule k g) (sym (select_plus k rest_test _ v))
        (module_plus k g _ _
        (subst (InModule k g) (sym (product_select rest_test (λ t. length t.1.0 ≤ n) (λ s t h q. rest_same s t h ∙ q) (λ s t h q. sym (rest_same s t h) ∙ q) f (g i) (given i)))
        (module_product k g (select k rest_test f) (g i) (select_supp k rest_test (λ t. t.0 ≡ 0) f p) (module_member k g i))) a))

  -- a lead that passes is the lead of the part that passes
  pub select_lead : {Q : Key → Type 0} (test : (t : Key) → Dec (Q t)) (o : OrderOn Key) (v : Vect k) (t : Key) → LeadBy k o v t → Q t → LeadBy k o (select k test v) t
  unfolding coef_at
  select_lead {Q = Q} test o v t lead q = record {
    there = λ z. lead.there (sym (select_inside k test v t q) ∙ z);
    above = λ s less. go s less (test s);
  }
    where
      go : (s : Key) → o.compare t s ≡ Less → Dec (Q s) → coef_at k (select k test v) s ≡ (scalars k).zero
      go s less (yes p) = select_inside k test v s p ∙ lead.above s less
      go s less (no p) = select_outside k test v s p
