-- The leads of an ideal of positive forms and of the ideal of the relations in the variables agree.
use Rattle.std.proofs.Common.{◌≡◌, ◌∙◌, ◌↔◌, ◌+◌, ◌<◌, ◌≤◌, ℕ, suc, List, [], ◌∷◌, ◌++◌, length, get_or, replicate, refl, sym, ap, ap₂, subst, inl, inr, arith}
use Rattle.std.specs.Prelude.{All}
use Rattle.std.specs.declared.cmp.Ordering.TheVariants.{Less}
use Rattle.std.proofs.lemmas.List.{length-append}
use native.Mathlib.Decide.{ℕ_discrete, dec_le}
use Rattle.alg_core.specs.BlockOrder.{block_order, length_ones}
use Rattle.alg_core.specs.DpOrder.{dp_order}
use Rattle.alg_core.specs.ModuleLaws as modules
use Rattle.alg_core.specs.Fields.{FieldOn, scalars}
use Rattle.alg_core.specs.Keys.{Key, keys}
use Rattle.alg_core.specs.KeyOrders.{OrderOn}
use Rattle.alg_core.specs.Lists.{In}
use Rattle.alg_core.specs.Monomials.{Mon}
use Rattle.alg_core.specs.PolynomialSpaces.{plain_space, marked_space}
use Rattle.alg_core.specs.SpaceGrading.{weight, weight_mul}
use Rattle.alg_core.specs.SpaceOrder.{key_order, key_compare}
use Rattle.alg_core.specs.Vectors.{Vect, vectors, coef_at, plus, zero_vector}
use Rattle.alg_core.proofs.BlockKeys.{smaller_degree, in_variables_alone}
use Rattle.alg_core.proofs.MonomialParts.{variable_part_same}
use Rattle.poly_module.specs.MonomialVariables.{variable}
use Rattle.poly_module.specs.Polynomials.{single_vector, product}
use Rattle.poly_module.specs.Products.{product_linear, product_linear_left, product_single, product_zero}
use Rattle.poly_module.specs.Substitutions.{variable_vector, substitute_zero, substitute_plus, substitute_product}
use Rattle.poly_module.specs.Variables.{substitute_linear, length_mul}
use Rattle.poly_module.specs.Parts.{Supp, IsPolynomial, InVariables, supp_zero, supp_plus, supp_act, supp_single, supp_product, supp_select, select, select_linear, select_plus, select_zero, select_all, select_none, select_single_no, select_inside, select_outside}
use Rattle.poly_module.specs.Forms.{key_weight, AreForms, dec_both}
use Rattle.poly_module.specs.Modules.{InModule, IsSubspace, LeadBy, listed}
use Rattle.poly_module.specs.Signs.{minus}
use Rattle.poly_module.specs.Combinations.{mark_value}
use Rattle.poly_module.specs.Marks.{relations, relation, IsRelation}
use Rattle.poly_module.proofs.LeadLaws.{lead_plus}
use Rattle.poly_module.proofs.MarkValues.{mark_value_polynomial, mark_value_mark}
use Rattle.poly_module.proofs.ModuleElements.{module_zero, module_subspace, module_product, module_member, module_ind}
use Rattle.poly_module.proofs.RelationIdeals.{linear_in_subspace, relations_exact}
use Rattle.finite_certificate.specs.Ideals.{InIdeal}
use Rattle.finite_certificate.specs.MarkSpaces.{HasMark, ArePositiveForms}
use Rattle.finite_certificate.specs.StandardMonomials.{IsStandard}
use Rattle.finite_certificate.proofs.MarkDegrees.{variable_degree, marked_degree}
use Rattle.finite_certificate.proofs.ModuleTerms.{forms_at, listed_past, listed_all, image_member, relation_at, relation_past, linear_less, less_zero, less_itself, weight_variables, weight_of_mark, marked_product, factor_length, variable_length}
use Rattle.finite_certificate.proofs.PowerForms.{forms_count}

module _ {E : Type 0} (k : FieldOn E) (n : ℕ) (ds : List ℕ) (θ : List (Vect k)) (primaries : ArePositiveForms k n ds θ) where
  abbrev W : List ℕ
  W = replicate n 1 ++ ds

  abbrev value : Vect k → Vect k
  value = mark_value k n θ

  abbrev o : OrderOn Key
  o = key_order (plain_space k n)

  abbrev blocks : OrderOn Key
  blocks = key_order (marked_space k n ds)

  count : length θ ≡ length ds
  count = forms_count k (replicate n 1) ds θ primaries.forms

  -- keys of polynomials in the variables, of a degree
  abbrev pub Passes : ℕ → Key → Type 0
  Passes D t = (t.0 ≡ 0) × ((length t.1.0 ≤ n) × (key_weight (replicate n 1) t ≡ D))

  pub passes : (D : ℕ) (t : Key) → Dec (Passes D t)
  passes D t = dec_both (ℕ_discrete t.0 0) (dec_both (dec_le (length t.1.0) n) (ℕ_discrete (key_weight (replicate n 1) t) D))

  -- keys with a mark, of a degree
  abbrev pub Marked : ℕ → Key → Type 0
  Marked D t = (t.0 ≡ 0) × (key_weight W t ≡ D) × (length t.1.0 ≤ n + length ds) × HasMark n t

  -- a polynomial with a mark in each term has this value
  abbrev pub LiftOf : ℕ → Vect k → Type 0
  LiftOf D v = (w : Vect k) × Supp k (Marked D) w × (value w ≡ v)

  lifts : (D : ℕ) → IsSubspace k (LiftOf D)
  lifts D = record {
    zero = (zero_vector k, supp_zero k (Marked D), substitute_zero k _);
    plus = λ u v a b. (plus k a.0 b.0, supp_plus k (Marked D) a.0 b.0 a.1 b.1, substitute_plus k _ a.0 b.0 ∙ ap₂ (plus k) a.2 b.2);
    act = λ c u a. ((vectors k).◌·◌ c a.0, supp_act k (Marked D) c a.0 a.1, (substitute_linear k _).act c a.0 ∙ ap ((vectors k).◌·◌ c) a.2);
  }

  -- the keys of a member
  pub member_keys : (i : ℕ) → i < length θ → Supp k (λ t. (t.0 ≡ 0) × (key_weight (replicate n 1) t ≡ get_or ds i 0) × (length t.1.0 ≤ n)) (listed k θ i)
  member_keys i h t c =
      let f = forms_at k (replicate n 1) ds θ primaries.forms i h t c in
      let v = listed_all k (InVariables k n) θ primaries.variables i h t c in
      (f.0, f.1, v)

  module _ (D : ℕ) where
    abbrev pub part : Vect k → Vect k
    part = select k (passes D)

    -- a multiple of a member by a monomial of the right degree
    pub member_passes : (i : ℕ) (s : Key) → i < length θ → s.0 ≡ 0 → length s.1.0 ≤ n → key_weight (replicate n 1) s + get_or ds i 0 ≡ D → Supp k (Passes D) (product k (single_vector k s) (listed k θ i))
    unfolding keys
    member_passes i s h z short degree = supp_product k (λ t. t ≡ s) (λ t. (t.0 ≡ 0) × (key_weight (replicate n 1) t ≡ get_or ds i 0) × (length t.1.0 ≤ n)) (Passes D) (passes D)
        (λ r t e q.
        let same : length r.1.0 ≤ n = subst (λ (x : Key). length x.1.0 ≤ n) (sym e) short in
        let zr : r.0 ≡ 0 = ap (λ (x : Key). x.0) e ∙ z in
        let dr : key_weight (replicate n 1) r ≡ key_weight (replicate n 1) s = ap (key_weight (replicate n 1)) e in
        let w = weight_mul (replicate n 1) r.1 t.1 in
        let zt = q.0 in
        let dt = q.1 in
        (omega arith, (length_mul n r.1 t.1 same q.2, omega arith)))
        (single_vector k s) (listed k θ i) (supp_single k (λ t. t ≡ s) s refl) (member_keys i h)

    lift_inside : (i : ℕ) (s : Key) → i < length θ → s.0 ≡ 0 → length s.1.0 ≤ n → key_weight (replicate n 1) s + get_or ds i 0 ≡ D → LiftOf D (part (product k (single_vector k s) (listed k θ i)))
    unfolding variable_vector keys
    lift_inside i s h z short degree =
        let w = product k (single_vector k s) (variable_vector k (n + i)) in
        let all : part (product k (single_vector k s) (listed k θ i)) ≡ product k (single_vector k s) (listed k θ i) = select_all k (passes D) _ (member_passes i s h z short degree) in
        (w, subst (Supp k (Marked D)) (sym (product_single k s (0, variable (n + i)))) (supp_single k (Marked D) _ key_marked), whole ∙ sym all)
      where
        key_marked : Marked D (keys.◌·◌ s (0, variable (n + i)))
        key_marked =
            let w = weight_mul W s.1 (variable (n + i)) in
            let a : weight W 0 s.1.0 ≡ key_weight (replicate n 1) s = weight_variables n ds 0 s.1.0 short in
            let b = weight_of_mark n ds i (omega (arith, count)) in
            (omega arith, omega arith, length_mul (n + length ds) s.1 (variable (n + i)) (omega arith) (variable_length (n + length ds) (n + i) (omega (arith, count))), marked_product n i s.1)

        whole : value (product k (single_vector k s) (variable_vector k (n + i))) ≡ product k (single_vector k s) (listed k θ i)
        whole = substitute_product k _ (single_vector k s) (variable_vector k (n + i))
            ∙ ap₂ (product k) (mark_value_polynomial k n θ (single_vector k s) (supp_single k (λ t. t.0 ≡ 0) s z) (supp_single k (λ t. length t.1.0 ≤ n) s short)) (mark_value_mark k n θ i ∙ image_member k θ i h)

    -- of another degree, or with another variable
    pub lift_outside : (i : ℕ) (s : Key) → i < length θ → ¬ ((length s.1.0 ≤ n) × (key_weight (replicate n 1) s + get_or ds i 0 ≡ D)) → part (product k (single_vector k s) (listed k θ i)) ≡ zero_vector k
    unfolding keys
    lift_outside i s h other = select_none k (passes D) (λ t. ¬ Passes D t) (λ t no. no) _
        (supp_product k (λ t. t ≡ s) (λ t. (t.0 ≡ 0) × (key_weight (replicate n 1) t ≡ get_or ds i 0) × (length t.1.0 ≤ n)) (λ t. ¬ Passes D t) (λ t. dec_not (passes D t))
        (λ r t e q p. other (
          subst (λ (x : Key). length x.1.0 ≤ n) e (factor_length n r.1 t.1 p.1.0),
          let w = weight_mul (replicate n 1) r.1 t.1 in
              let dr : key_weight (replicate n 1) r ≡ key_weight (replicate n 1) s = ap (key_weight (replicate n 1)) e in
              let dt = q.1 in
              let dp = p.1.1 in
              omega arith,
        ))
        (single_vector k s) (listed k θ i) (supp_single k (λ t. t ≡ s) s refl) (member_keys i h))
      where
        dec_not : {A : Type 0} → Dec A → Dec (¬ A)
        dec_not (yes a) = no (λ n. n a)
        dec_not (no n) = yes n

    lift_single : (i : ℕ) (s : Key) → s.0 ≡ 0 → LiftOf D (part (product k (single_vector k s) (listed k θ i)))
    lift_single i s z = at (dec_le (suc i) (length θ))
      where
        at : Dec (suc i ≤ length θ) → LiftOf D (part (product k (single_vector k s) (listed k θ i)))
        at (no past) = subst (LiftOf D) (sym (ap (λ v. part (product k (single_vector k s) v)) (listed_past k θ i (omega arith)) ∙ ap part (product_zero k (single_vector k s)) ∙ select_zero k (passes D))) (lifts D).zero
        at (yes h) = go (dec_both (dec_le (length s.1.0) n) (ℕ_discrete (key_weight (replicate n 1) s + get_or ds i 0) D))
          where
            go : Dec ((length s.1.0 ≤ n) × (key_weight (replicate n 1) s + get_or ds i 0 ≡ D)) → LiftOf D (part (product k (single_vector k s) (listed k θ i)))
            go (yes p) = lift_inside i s h z p.0 p.1
            go (no p) = subst (LiftOf D) (sym (lift_outside i s h p)) (lifts D).zero

    -- the part of an element of the ideal
    pub lift : (v : Vect k) → InIdeal k θ v → LiftOf D (part v)
    lift = module_ind k (listed k θ) (λ v. LiftOf D (part v)) (subst (LiftOf D) (sym (select_zero k (passes D))) (lifts D).zero)
        (λ f v i p h. subst (LiftOf D) (sym (select_plus k (passes D) (product k f (listed k θ i)) v))
        ((lifts D).plus _ _ (linear_in_subspace k o (λ f. part (product k f (listed k θ i))) (modules.linear_after (vectors k) (vectors k) (vectors k) (λ f. product k f (listed k θ i)) part (product_linear_left k (listed k θ i)) (select_linear k (passes D)))
        (LiftOf D) (lifts D) (λ t. t.0 ≡ 0) (lift_single i) f p) h))

  -- in the variables the orders agree
  same_order : (s t : Key) → length s.1.0 ≤ n → length t.1.0 ≤ n → blocks.compare s t ≡ o.compare s t
  same_order s t hs ht =
      ap (λ (m : ℕ). key_compare m (block_order n ds) s t) (length-append (replicate n 1) ds ∙ ap (λ m. m + length ds) (length_ones n))
      ∙ in_variables_alone n ds s t hs ht ∙ ap (λ (m : ℕ). key_compare m (dp_order (replicate n 1)) s t) (sym (length_ones n))

  smaller : (s t : Key) → length s.1.0 ≤ n + length ds → length t.1.0 ≤ n + length ds → variable_degree n s < variable_degree n t → blocks.compare s t ≡ Less
  smaller s t hs ht less =
      ap (λ (m : ℕ). key_compare m (block_order n ds) s t) (length-append (replicate n 1) ds ∙ ap (λ m. m + length ds) (length_ones n)) ∙ smaller_degree n ds s t hs ht less

  -- a lead of the ideal is one of the relations
  pub lead_lifts : (m : Mon) → length m.0 ≤ n → (f : Vect k) → InIdeal k θ f → LeadBy k o f (0, m) → (u : Vect k) × IsRelation k n θ u × LeadBy k blocks u (0, m)
  unfolding minus plus zero_vector coef_at
  lead_lifts m short f inside lead = (minus k h w.0, record { mixed = record { polynomial = position; variables = variables }; value = none }, lead_plus k blocks h (modules.minus (vectors k) w.0) (0, m) lead_part below)
    where
      D : ℕ
      D = key_weight (replicate n 1) (0, m)

      h : Vect k
      h = select k (passes D) f

      w : LiftOf D h
      w = lift D f inside

      opposite : Supp k (Marked D) (modules.minus (vectors k) w.0)
      opposite = subst (Supp k (Marked D)) (sym (modules.minus_is (vectors k) w.0)) (supp_act k (Marked D) _ w.0 w.1)

      here : Supp k (Passes D) h
      here = supp_select k (passes D) f

      position : IsPolynomial k (minus k h w.0)
      position = supp_plus k (λ t. t.0 ≡ 0) h (modules.minus (vectors k) w.0) (λ t c. (here t c).0) (λ t c. (opposite t c).0)

      variables : InVariables k (n + length θ) (minus k h w.0)
      variables = supp_plus k (λ t. length t.1.0 ≤ n + length θ) h (modules.minus (vectors k) w.0) (λ t c. let l = (here t c).1.0 in omega arith) (λ t c. let l = (opposite t c).2 in omega (arith, count))

      none : value (minus k h w.0) ≡ zero_vector k
      none = linear_less k value (substitute_linear k _) h w.0 ∙ ap₂ (minus k) (mark_value_polynomial k n θ h (λ t c. (here t c).0) (λ t c. (here t c).1.0)) w.2 ∙ less_itself k h

      below : Supp k (λ s. blocks.compare s (0, m) ≡ Less) (modules.minus (vectors k) w.0)
      below s c =
          let q = opposite s c in
          let less = marked_degree n ds s primaries.positive q.2 q.3 in
          let is = q.1 in
          let whole : variable_degree n (0, m) ≡ D = ap (λ (a : Mon). weight (replicate n 1) 0 a.0) (variable_part_same n m short) in
          smaller s (0, m) q.2 (omega arith) (omega arith)

      lead_part : LeadBy k blocks h (0, m)
      lead_part = record {
        there = λ z. lead.there (sym (select_inside k (passes D) f (0, m) (refl, (short, refl))) ∙ z);
        above = λ s less. at s less (passes D s);
      }
        where
          at : (s : Key) → blocks.compare (0, m) s ≡ Less → Dec (Passes D s) → coef_at k h s ≡ (scalars k).zero
          at s less (yes p) = select_inside k (passes D) f s p ∙ lead.above s (sym (same_order (0, m) s short p.1.0) ∙ less)
          at s less (no p) = select_outside k (passes D) f s p

  -- the part in the variables
  in_variables : (t : Key) → Dec (length t.1.0 ≤ n)
  in_variables t = dec_le (length t.1.0) n

  abbrev kept : Vect k → Vect k
  kept = select k in_variables

  kept_mark : (i : ℕ) (s : Key) → kept (product k (single_vector k s) (variable_vector k (n + i))) ≡ zero_vector k
  unfolding variable_vector keys
  kept_mark i s = ap kept (product_single k s (0, variable (n + i))) ∙ select_single_no k in_variables (keys.◌·◌ s (0, variable (n + i))) (λ short. let long = marked_product n i s.1 in omega arith)

  kept_member : (i : ℕ) (s : Key) → i < length θ → s.0 ≡ 0 → InIdeal k θ (kept (product k (single_vector k s) (listed k θ i)))
  unfolding keys
  kept_member i s h z = at (in_variables s)
    where
      at : Dec (length s.1.0 ≤ n) → InIdeal k θ (kept (product k (single_vector k s) (listed k θ i)))
      at (yes short) = subst (InIdeal k θ)
          (sym (select_all k in_variables _
          (supp_product k (λ t. length t.1.0 ≤ n) (λ t. length t.1.0 ≤ n) (λ t. length t.1.0 ≤ n) in_variables (λ r t a b. length_mul n r.1 t.1 a b) (single_vector k s) (listed k θ i)
          (supp_single k (λ t. length t.1.0 ≤ n) s short) (listed_all k (InVariables k n) θ primaries.variables i h))))
          (module_product k (listed k θ) (single_vector k s) (listed k θ i) (supp_single k (λ t. t.0 ≡ 0) s z) (module_member k (listed k θ) i))
      at (no long) = subst (InIdeal k θ)
          (sym (select_none k in_variables (λ t. ¬ (length t.1.0 ≤ n)) (λ t q. q) _
          (supp_product k (λ t. t ≡ s) (λ t. Unit {0}) (λ t. ¬ (length t.1.0 ≤ n)) (λ t. dec_not (in_variables t))
          (λ r t e q short. long (subst (λ (x : Key). length x.1.0 ≤ n) e (factor_length n r.1 t.1 short))) (single_vector k s) (listed k θ i) (supp_single k (λ t. t ≡ s) s refl) (λ t c. tt))))
          (module_zero k (listed k θ))
        where
          dec_not : {A : Type 0} → Dec A → Dec (¬ A)
          dec_not (yes a) = no (λ n. n a)
          dec_not (no n) = yes n

  kept_single : (i : ℕ) (s : Key) → s.0 ≡ 0 → InIdeal k θ (kept (product k (single_vector k s) (listed k (relations k n θ) i)))
  kept_single i s z = at (dec_le (suc i) (length θ))
    where
      at : Dec (suc i ≤ length θ) → InIdeal k θ (kept (product k (single_vector k s) (listed k (relations k n θ) i)))
      at (no past) = subst (InIdeal k θ) (sym (ap (λ v. kept (product k (single_vector k s) v)) (relation_past k n 0 θ i (omega arith)) ∙ ap kept (product_zero k (single_vector k s)) ∙ select_zero k in_variables)) (module_zero k (listed k θ))
      at (yes h) =
          let place : 0 + i ≡ i = omega arith in
          let split = ap (λ v. kept (product k (single_vector k s) v)) (relation_at k n 0 θ i h ∙ ap (relation k n (listed k θ i)) place)
          ∙ linear_less k (λ v. kept (product k (single_vector k s) v)) (modules.linear_after (vectors k) (vectors k) (vectors k) (product k (single_vector k s)) kept (product_linear k (single_vector k s)) (select_linear k in_variables)) (listed k θ i) (variable_vector k (n + i))
          ∙ ap (minus k (kept (product k (single_vector k s) (listed k θ i)))) (kept_mark i s) ∙ less_zero k _ in
          subst (InIdeal k θ) (sym split) (kept_member i s h z)

  -- of an element of the ideal of the relations
  drop : (v : Vect k) → InModule k (listed k (relations k n θ)) v → InIdeal k θ (kept v)
  drop = module_ind k (listed k (relations k n θ)) (λ v. InIdeal k θ (kept v)) (subst (InIdeal k θ) (sym (select_zero k in_variables)) (module_zero k (listed k θ)))
      (λ f v i p h. subst (InIdeal k θ) (sym (select_plus k in_variables (product k f (listed k (relations k n θ) i)) v))
      ((module_subspace k (listed k θ)).plus _ _ (linear_in_subspace k o (λ f. kept (product k f (listed k (relations k n θ) i)))
      (modules.linear_after (vectors k) (vectors k) (vectors k) (λ f. product k f (listed k (relations k n θ) i)) kept (product_linear_left k (listed k (relations k n θ) i)) (select_linear k in_variables))
      (InIdeal k θ) (module_subspace k (listed k θ)) (λ t. t.0 ≡ 0) (kept_single i) f p) h))

  each_member : (f : Vect k) → In f θ → IsPolynomial k f × InVariables k n f
  each_member f i = go ds θ primaries.forms primaries.variables i
    where
      go : (es : List ℕ) (fs : List (Vect k)) → AreForms k (replicate n 1) es fs → All (InVariables k n) fs → In f fs → IsPolynomial k f × InVariables k n f
      go [] [] h v i = absurd i
      go [] (g ∷ fs) h v i = absurd h
      go (d ∷ es) [] h v i = absurd h
      go (d ∷ es) (g ∷ fs) h v (inl e) = (subst (IsPolynomial k) e (λ t c. (h.0 t c).0), subst (InVariables k n) e (v 0 g (omega arith)))
      go (d ∷ es) (g ∷ fs) h v (inr i) = go es fs h.1 (λ j d w. v (suc j) d (omega arith)) i

  -- a lead of the relations in the variables is one of the ideal
  pub lead_drops : (m : Mon) → length m.0 ≤ n → (u : Vect k) → IsRelation k n θ u → LeadBy k blocks u (0, m) → (f : Vect k) × InIdeal k θ f × LeadBy k o f (0, m)
  unfolding coef_at
  lead_drops m short u relation lead = (
    kept u,
    drop u ((relations_exact k n θ each_member o u).0 relation).1,
    record {
      there = λ z. lead.there (sym (select_inside k in_variables u (0, m) short) ∙ z);
      above = λ s less. at s less (in_variables s);
    },
  )
    where
      at : (s : Key) → o.compare (0, m) s ≡ Less → Dec (length s.1.0 ≤ n) → coef_at k (kept u) s ≡ (scalars k).zero
      at s less (yes p) = select_inside k in_variables u s p ∙ lead.above s (same_order (0, m) s short p ∙ less)
      at s less (no p) = select_outside k in_variables u s p

  -- standard is what is the lead of no relation
  pub standard_by_relations : (m : Mon) → length m.0 ≤ n → IsStandard k n θ m ↔ ((u : Vect k) → IsRelation k n θ u → ¬ LeadBy k blocks u (0, m))
  standard_by_relations m short = (
    λ standard u relation lead. let d = lead_drops m short u relation lead in standard d.0 d.1 d.2,
    λ no f inside lead. let l = lead_lifts m short f inside lead in no l.0 l.1 l.2,
  )
