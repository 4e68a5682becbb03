-- Elements of an ideal of polynomials in the first variables: what stands there with one monomial in the others is an element, too.
use Rattle.std.proofs.Common.{◌≡◌, ◌∙◌, ◌≤◌, ℕ, List, [], length, refl, sym, ap, ap₂, subst}
use Rattle.std.specs.declared.cmp.Ordering.TheVariants.{Less}
use native.Mathlib.Decide.{ℕ_discrete, dec_le}
use Rattle.alg_core.specs.Fields.{FieldOn, scalars}
use Rattle.alg_core.specs.KeyOrders.{OrderOn}
use Rattle.alg_core.specs.Keys.{Key, keys, times_key}
use Rattle.alg_core.specs.Lists.{In}
use Rattle.alg_core.specs.ModuleLaws as modules
use Rattle.alg_core.specs.MonomialParts.{variable_part, mark_part, as_marks}
use Rattle.alg_core.specs.Monomials.{Mon, monomials, mon_same}
use Rattle.alg_core.specs.SpaceOrder.{key_order, key_kept}
use Rattle.alg_core.specs.Spaces.{SpaceOver}
use Rattle.alg_core.specs.Vectors.{Vect, vectors, coef_at, shift}
use Rattle.alg_core.proofs.MonomialParts.{parts, length_variable_part, mark_part_mul, mark_part_none, mark_part_as_marks}
use Rattle.alg_core.proofs.VectorLaws.{shift_linear, shift_single}
use Rattle.poly_module.specs.Combinations.{mark_value}
use Rattle.poly_module.specs.Marks.{in_marks}
use Rattle.poly_module.specs.Modules.{LeadBy, listed}
use Rattle.poly_module.specs.Parts.{Supp, IsPolynomial, InVariables, supp_zero, supp_single, supp_product, supp_outside, linear_unique_supp, select, select_linear, select_plus, select_zero, select_all, select_none, select_inside, supp_select, select_supp}
use Rattle.poly_module.specs.Polynomials.{single_vector, product}
use Rattle.poly_module.specs.Products.{product_linear_left, product_comm, one_product, ring_one}
use Rattle.poly_module.specs.Substitutions.{substitute_zero, substitute_plus, substitute_product, substitute_single}
use Rattle.poly_module.specs.Variables.{substitute_linear}
use Rattle.poly_module.proofs.LeadLaws.{coef_shift}
use Rattle.poly_module.proofs.MarkValues.{mark_value_polynomial}
use Rattle.poly_module.proofs.Marks.{single_parts, mark_value_in_marks}
use Rattle.poly_module.proofs.ModuleElements.{module_zero, module_plus, module_product, module_member, module_ind, module_subspace, module_positions}
use Rattle.poly_module.proofs.Reduced.{listed_has}
use Rattle.poly_module.proofs.RelationIdeals.{linear_in_subspace}
use Rattle.finite_certificate.specs.Ideals.{InIdeal}
use Rattle.groebner_hom.proofs.MarkedValues.{value_polynomial, value_variables}

module _ {E : Type 0} (k : FieldOn E) (n : ℕ) where
  -- each variable after the first n as 1
  abbrev pub strip : Vect k → Vect k
  strip = mark_value k n []

  no_members : (f : Vect k) → In f [] → IsPolynomial k f × InVariables k n f
  no_members f i = absurd i

  strip_single : (q : ℕ) (m : Mon) → strip (single_vector k (q, m)) ≡ single_vector k (0, variable_part n m)
  strip_single q m =
      let x = single_vector k (0, variable_part n m) in
      let y = single_vector k (q, mark_part n m) in
      ap strip (single_parts k n q m) ∙ substitute_product k _ x (in_marks k n y)
      ∙ ap₂ (product k)
      (mark_value_polynomial k n [] x (supp_single k (λ t. t.0 ≡ 0) (0, variable_part n m) refl) (supp_single k (λ t. length t.1.0 ≤ n) (0, variable_part n m) (length_variable_part n m)))
      (mark_value_in_marks k n [] y ∙ substitute_single k [] (q, mark_part n m) ∙ ring_one k)
      ∙ product_comm k x _ ∙ one_product k x

  abbrev Rest : Mon → Key → Type 0
  Rest b t = mark_part n t.1 ≡ b

  pub rest : (b : Mon) (t : Key) → Dec (mark_part n t.1 ≡ b)
  rest b t = mon_same (mark_part n t.1) b

  -- a polynomial with one monomial in the other variables
  strip_back : (b : Mon) (v : Vect k) → Supp k (λ t. (t.0 ≡ 0) × Rest b t) v → shift k (as_marks n b) (strip v) ≡ v
  unfolding single_vector
  strip_back b = linear_unique_supp k (vectors k) (λ v. shift k (as_marks n b) (strip v)) (λ v. v)
      (modules.linear_after (vectors k) (vectors k) (vectors k) strip (shift k (as_marks n b)) (substitute_linear k _) (shift_linear k (as_marks n b))) (modules.linear_same (vectors k))
      (λ t. (t.0 ≡ 0) × Rest b t)
      (λ t h. ap (shift k (as_marks n b)) (strip_single t.0 t.1) ∙ shift_single k (as_marks n b) (0, variable_part n t.1)
      ∙ ap₂ (λ (i : ℕ) (m : Mon). single_vector k (i, m)) (sym h.0) (monomials.comm (as_marks n b) (variable_part n t.1) ∙ ap (λ (c : Mon). monomials.◌·◌ (variable_part n t.1) (as_marks n c)) (sym h.1) ∙ parts n t.1))

  module _ (o : OrderOn Key) (gs : List (Vect k)) (given : (f : Vect k) → In f gs → IsPolynomial k f × InVariables k n f) where
    g : ℕ → Vect k
    g = listed k gs

    member_variables : (i : ℕ) → InVariables k n (listed k gs i)
    member_variables = listed_has k (InVariables k n) (supp_zero k (λ t. length t.1.0 ≤ n)) gs (λ f i. (given f i).1)

    member_polynomial : (i : ℕ) → IsPolynomial k (listed k gs i)
    member_polynomial = listed_has k (IsPolynomial k) (supp_zero k (λ t. t.0 ≡ 0)) gs (λ f i. (given f i).0)

    pub element_polynomial : (v : Vect k) → InIdeal k gs v → IsPolynomial k v
    element_polynomial = module_positions k (listed k gs) (λ q. q ≡ 0) (λ q. ℕ_discrete q 0) member_polynomial

    factor_rest : (s t : Key) → length t.1.0 ≤ n → mark_part n (keys.◌·◌ s t).1 ≡ mark_part n s.1
    unfolding keys
    factor_rest s t h = mark_part_mul n s.1 t.1 ∙ ap (monomials.◌·◌ (mark_part n s.1)) (mark_part_none n t.1 h) ∙ monomials.mul_one _

    multiple_keys : (i : ℕ) (s : Key) → Supp k (λ t. mark_part n t.1 ≡ mark_part n s.1) (product k (single_vector k s) (listed k gs i))
    multiple_keys i s = supp_product k (λ t. t ≡ s) (λ t. length t.1.0 ≤ n) (λ t. mark_part n t.1 ≡ mark_part n s.1) (λ t. mon_same _ _)
        (λ r t e h. factor_rest r t h ∙ ap (λ (x : Key). mark_part n x.1) e) (single_vector k s) (listed k gs i) (supp_single k (λ t. t ≡ s) s refl) (member_variables i)

    multiple_inside : (b : Mon) (i : ℕ) (s : Key) → s.0 ≡ 0 → InIdeal k gs (strip (select k (rest b) (product k (single_vector k s) (listed k gs i))))
    multiple_inside b i s z = at (rest b s)
      where
        at : Dec (Rest b s) → InIdeal k gs (strip (select k (rest b) (product k (single_vector k s) (listed k gs i))))
        at (yes e) = subst (InIdeal k gs)
            (sym (ap strip (select_all k (rest b) _ (λ t c. multiple_keys i s t c ∙ e)) ∙ substitute_product k _ (single_vector k s) (listed k gs i)
            ∙ ap (product k (strip (single_vector k s))) (mark_value_polynomial k n [] (listed k gs i) (member_polynomial i) (member_variables i))))
            (module_product k (listed k gs) (strip (single_vector k s)) (listed k gs i) (value_polynomial k n [] no_members (single_vector k s)) (module_member k (listed k gs) i))
        at (no other) = subst (InIdeal k gs) (sym (ap strip (select_none k (rest b) (λ t. mark_part n t.1 ≡ mark_part n s.1) (λ t e q. other (sym e ∙ q)) _ (multiple_keys i s)) ∙ substitute_zero k _)) (module_zero k (listed k gs))

    stripped_inside : (b : Mon) (v : Vect k) → InIdeal k gs v → InIdeal k gs (strip (select k (rest b) v))
    stripped_inside b = module_ind k (listed k gs) (λ v. InIdeal k gs (strip (select k (rest b) v))) (subst (InIdeal k gs) (sym (ap strip (select_zero k (rest b)) ∙ substitute_zero k _)) (module_zero k (listed k gs)))
        (λ f v i p h. subst (InIdeal k gs) (sym (ap strip (select_plus k (rest b) (product k f (listed k gs i)) v) ∙ substitute_plus k _ _ _))
        (module_plus k (listed k gs) _ _ (linear_in_subspace k o (λ f. strip (select k (rest b) (product k f (listed k gs i))))
        (modules.linear_after (vectors k) (vectors k) (vectors k) (λ f. select k (rest b) (product k f (listed k gs i))) strip
        (modules.linear_after (vectors k) (vectors k) (vectors k) (λ f. product k f (listed k gs i)) (select k (rest b)) (product_linear_left k (listed k gs i)) (select_linear k (rest b))) (substitute_linear k _))
        (InIdeal k gs) (module_subspace k (listed k gs)) (λ t. t.0 ≡ 0) (multiple_inside b i) f p) h))

module _ {E : Type 0} (S : SpaceOver E) (n : ℕ) (gs : List (Vect S.field)) (given : (f : Vect S.field) → In f gs → IsPolynomial S.field f × InVariables S.field n f) where
  abbrev k : FieldOn E
  k = S.field

  abbrev o : OrderOn Key
  o = key_order S

  -- an element in the first n variables, whose lead is the part in these of that of a given one
  pub record Inner (t : Key) : Type 0 where
    pub element : Vect S.field
    pub inside : InIdeal S.field gs element
    pub polynomial : IsPolynomial S.field element
    pub variables : InVariables S.field n element
    pub lead : LeadBy S.field (key_order S) element (0, variable_part n t.1)

  module _ (v : Vect S.field) (t : Key) (inside : InIdeal S.field gs v) (lead : LeadBy S.field (key_order S) v t) where
    polynomial : IsPolynomial S.field v
    polynomial = element_polynomial S.field n o gs given v inside

    at_zero : t.0 ≡ 0
    unfolding coef_at
    at_zero = polynomial t lead.there

    abbrev b : Mon
    b = mark_part n t.1

    abbrev a : Mon
    a = as_marks n b

    abbrev m : Mon
    m = variable_part n t.1

    part : Vect S.field
    part = select k (rest k n b) v

    w : Vect S.field
    w = strip k n part

    back : shift k a w ≡ part
    unfolding part w
    back = strip_back k n b part (λ s c. (select_supp k (rest k n b) (λ s. s.0 ≡ 0) v polynomial s c, supp_select k (rest k n b) v s c))

    coef_w : (s : Key) → coef_at k w s ≡ coef_at k part (times_key a s)
    coef_w s = sym (coef_shift k a w s) ∙ ap (λ x. coef_at k x (times_key a s)) back

    whole : times_key a (0, m) ≡ t
    whole = ap₂ (λ (i : ℕ) (c : Mon). (i, c)) (sym at_zero) (monomials.comm a m ∙ parts n t.1)

    w_variables : InVariables k n w
    unfolding w
    w_variables = value_variables k n [] (no_members k n) part

    w_lead : LeadBy k o w (0, m)
    unfolding coef_at part
    w_lead = record { there = λ z. lead.there (sym (coef_w (0, m) ∙ ap (coef_at k part) whole ∙ select_inside k (rest k n b) v t refl) ∙ z); above = λ s less. at s less (dec_le (length s.1.0) n) }
      where
        at : (s : Key) → o.compare (0, m) s ≡ Less → Dec (length s.1.0 ≤ n) → coef_at k w s ≡ (scalars k).zero
        at s less (no long) = supp_outside k (λ s. length s.1.0 ≤ n) w w_variables s long
        at s less (yes short) =
            let same : mark_part n (times_key a s).1 ≡ b = mark_part_mul n a s.1 ∙ ap₂ monomials.◌·◌ (mark_part_as_marks n b) (mark_part_none n s.1 short) ∙ monomials.mul_one b in
            coef_w s ∙ select_inside k (rest k n b) v (times_key a s) same
            ∙ lead.above (times_key a s) (ap (λ (x : Key). o.compare x (times_key a s)) (sym whole) ∙ key_kept (length S.weights) S.order a (0, m) s ∙ less)

    pub inner : Inner t
    unfolding w part
    inner = record {
      element = w;
      inside = stripped_inside k n o gs given b v inside;
      polynomial = value_polynomial k n [] (no_members k n) part;
      variables = w_variables;
      lead = w_lead;
    }
