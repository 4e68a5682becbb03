-- The part in the variables of an element of the ideal of the relations lies in the ideal of the polynomials.
use Rattle.std.proofs.Common.{◌≡◌, ◌∙◌, ◌+◌, ◌<◌, ◌≤◌, ℕ, suc, List, [], ◌∷◌, length, replicate, refl, sym, ap, subst, inl, inr, arith}
use Rattle.std.specs.Prelude.{All}
use native.Mathlib.Decide.{dec_le}
use Rattle.alg_core.specs.ModuleLaws as modules
use Rattle.alg_core.specs.Fields.{FieldOn}
use Rattle.alg_core.specs.Keys.{Key, keys}
use Rattle.alg_core.specs.KeyOrders.{OrderOn}
use Rattle.alg_core.specs.Lists.{In}
use Rattle.alg_core.specs.PolynomialSpaces.{plain_space}
use Rattle.alg_core.specs.SpaceOrder.{key_order}
use Rattle.alg_core.specs.Vectors.{Vect, vectors, zero_vector}
use Rattle.poly_module.specs.MonomialVariables.{variable}
use Rattle.poly_module.specs.Polynomials.{single_vector, product}
use Rattle.poly_module.specs.Products.{product_linear, product_linear_left, product_single, product_zero}
use Rattle.poly_module.specs.Substitutions.{variable_vector}
use Rattle.poly_module.specs.Variables.{length_mul}
use Rattle.poly_module.specs.Parts.{IsPolynomial, InVariables, supp_single, supp_product, select, select_linear, select_plus, select_zero, select_all, select_none, select_single_no}
use Rattle.poly_module.specs.Forms.{AreForms}
use Rattle.poly_module.specs.Modules.{listed}
use Rattle.poly_module.specs.Signs.{minus}
use Rattle.poly_module.specs.Marks.{relations, relation}
use Rattle.poly_module.proofs.ModuleElements.{module_zero, module_subspace, module_product, module_member, module_ind}
use Rattle.poly_module.proofs.RelationIdeals.{linear_in_subspace}
use Rattle.finite_certificate.specs.Ideals.{InIdeal}
use Rattle.finite_certificate.specs.MarkSpaces.{ArePositiveForms}
use Rattle.finite_certificate.proofs.ModuleTerms.{listed_all, relation_at, relation_past, linear_less, less_zero, marked_product, factor_length}

dec_not : {A : Type 0} → Dec A → Dec (¬ A)
dec_not (yes a) = no (λ n. n a)
dec_not (no n) = yes n

module _ {E : Type 0} (k : FieldOn E) (n : ℕ) where
  pub in_variables : (t : Key) → Dec (length t.1.0 ≤ n)
  in_variables t = dec_le (length t.1.0) n

  -- the terms without a mark
  abbrev pub unmarked : Vect k → Vect k
  unmarked = select k in_variables

  module _ (ds : List ℕ) (θ : List (Vect k)) (primaries : ArePositiveForms k n ds θ) where
    pub each_member : (f : Vect k) → In f θ → IsPolynomial k f × InVariables k n f
    each_member f i = go ds θ primaries.forms primaries.variables i
      where
        go : (es : List ℕ) (fs : List (Vect k)) → AreForms k (replicate n 1) es fs → All (InVariables k n) fs → In f fs → IsPolynomial k f × InVariables k n f
        go [] [] h v i = absurd i
        go [] (g ∷ fs) h v i = absurd h
        go (d ∷ es) [] h v i = absurd h
        go (d ∷ es) (g ∷ fs) h v (inl e) = (subst (IsPolynomial k) e (λ t c. (h.0 t c).0), subst (InVariables k n) e (v 0 g (omega arith)))
        go (d ∷ es) (g ∷ fs) h v (inr i) = go es fs h.1 (λ j d w. v (suc j) d (omega arith)) i

    unmarked_mark : (i : ℕ) (s : Key) → unmarked (product k (single_vector k s) (variable_vector k (n + i))) ≡ zero_vector k
    unfolding variable_vector keys
    unmarked_mark i s = ap unmarked (product_single k s (0, variable (n + i))) ∙ select_single_no k in_variables (keys.◌·◌ s (0, variable (n + i))) (λ short. let long = marked_product n i s.1 in omega arith)

    unmarked_member : (i : ℕ) (s : Key) → i < length θ → s.0 ≡ 0 → InIdeal k θ (unmarked (product k (single_vector k s) (listed k θ i)))
    unfolding keys
    unmarked_member i s h z = at (in_variables s)
      where
        at : Dec (length s.1.0 ≤ n) → InIdeal k θ (unmarked (product k (single_vector k s) (listed k θ i)))
        at (yes short) = subst (InIdeal k θ)
            (sym (select_all k in_variables _
            (supp_product k (λ t. length t.1.0 ≤ n) (λ t. length t.1.0 ≤ n) (λ t. length t.1.0 ≤ n) in_variables (λ r t a b. length_mul n r.1 t.1 a b) (single_vector k s) (listed k θ i)
            (supp_single k (λ t. length t.1.0 ≤ n) s short) (listed_all k (InVariables k n) θ primaries.variables i h))))
            (module_product k (listed k θ) (single_vector k s) (listed k θ i) (supp_single k (λ t. t.0 ≡ 0) s z) (module_member k (listed k θ) i))
        at (no long) = subst (InIdeal k θ)
            (sym (select_none k in_variables (λ t. ¬ (length t.1.0 ≤ n)) (λ t q. q) _
            (supp_product k (λ t. t ≡ s) (λ t. Unit {0}) (λ t. ¬ (length t.1.0 ≤ n)) (λ t. dec_not (in_variables t))
            (λ r t e q short. long (subst (λ (x : Key). length x.1.0 ≤ n) e (factor_length n r.1 t.1 short))) (single_vector k s) (listed k θ i) (supp_single k (λ t. t ≡ s) s refl) (λ t c. tt))))
            (module_zero k (listed k θ))

    unmarked_single : (i : ℕ) (s : Key) → s.0 ≡ 0 → InIdeal k θ (unmarked (product k (single_vector k s) (listed k (relations k n θ) i)))
    unmarked_single i s z = at (dec_le (suc i) (length θ))
      where
        at : Dec (suc i ≤ length θ) → InIdeal k θ (unmarked (product k (single_vector k s) (listed k (relations k n θ) i)))
        at (no past) = subst (InIdeal k θ)
            (sym (ap (λ v. unmarked (product k (single_vector k s) v)) (relation_past k n 0 θ i (omega arith)) ∙ ap unmarked (product_zero k (single_vector k s)) ∙ select_zero k in_variables))
            (module_zero k (listed k θ))
        at (yes h) =
            let place : 0 + i ≡ i = omega arith in
            let split = ap (λ v. unmarked (product k (single_vector k s) v)) (relation_at k n 0 θ i h ∙ ap (relation k n (listed k θ i)) place)
            ∙ linear_less k (λ v. unmarked (product k (single_vector k s) v)) (modules.linear_after (vectors k) (vectors k) (vectors k) (product k (single_vector k s)) unmarked (product_linear k (single_vector k s)) (select_linear k in_variables))
            (listed k θ i) (variable_vector k (n + i))
            ∙ ap (minus k (unmarked (product k (single_vector k s) (listed k θ i)))) (unmarked_mark i s) ∙ less_zero k _ in
            subst (InIdeal k θ) (sym split) (unmarked_member i s h z)

    abbrev o : OrderOn Key
    o = key_order (plain_space k n)

    pub unmarked_inside : (v : Vect k) → InIdeal k (relations k n θ) v → InIdeal k θ (unmarked v)
    unmarked_inside = module_ind k (listed k (relations k n θ)) (λ v. InIdeal k θ (unmarked v)) (subst (InIdeal k θ) (sym (select_zero k in_variables)) (module_zero k (listed k θ)))
        (λ f v i p h. subst (InIdeal k θ) (sym (select_plus k in_variables (product k f (listed k (relations k n θ) i)) v))
        ((module_subspace k (listed k θ)).plus _ _ (linear_in_subspace k o (λ f. unmarked (product k f (listed k (relations k n θ) i)))
        (modules.linear_after (vectors k) (vectors k) (vectors k) (λ f. product k f (listed k (relations k n θ) i)) unmarked (product_linear_left k (listed k (relations k n θ) i)) (select_linear k in_variables))
        (InIdeal k θ) (module_subspace k (listed k θ)) (λ t. t.0 ≡ 0) (unmarked_single i) f p) h))
