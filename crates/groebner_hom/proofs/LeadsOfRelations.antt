-- Over a regular sequence of forms the lead of a relation has no standard part in the variables.
use Rattle.std.proofs.Common.{◌≡◌, ◌∙◌, ◌⊎◌, ◌+◌, ◌<◌, ◌≤◌, ℕ, zero, suc, List, [], ◌∷◌, ◌++◌, length, replicate, refl, sym, ap, ap₂, subst, inl, inr, arith}
use Rattle.std.specs.declared.cmp.Ordering.TheVariants.{Less}
use native.Mathlib.Decide.{ℕ_discrete}
use Rattle.alg_core.specs.Fields.{FieldOn, Scalar, scalars, is_field, mul_not_zero}
use Rattle.alg_core.specs.KeyOrders.{OrderOn, Trichotomy, trichotomy, less_transitive}
use Rattle.alg_core.specs.Keys.{Key, key_same, times_key}
use Rattle.alg_core.specs.Leads.{HasLead, has_lead}
use Rattle.alg_core.specs.ModuleLaws as modules
use Rattle.alg_core.specs.RingLaws as rings
use Rattle.alg_core.specs.MonomialParts.{variable_part, mark_part, as_marks}
use Rattle.alg_core.specs.Monomials.{Mon, monomials}
use Rattle.alg_core.specs.PolynomialSpaces.{plain_space, marked_space}
use Rattle.alg_core.specs.SpaceGrading.{height, degree, rank, rank_less}
use Rattle.alg_core.specs.SpaceOrder.{key_order}
use Rattle.alg_core.specs.Spaces.{SpaceOver}
use Rattle.alg_core.specs.Vectors.{Vect, vectors, coef_at, plus, zero_vector, shift}
use Rattle.alg_core.proofs.MonomialParts.{parts, length_variable_part, length_mark_part, length_as_marks}
use Rattle.alg_core.proofs.PolynomialSpaces.{marked_positive}
use Rattle.alg_core.proofs.VectorLaws.{coef_at_plus, coef_at_zero, plus_zero}
use Rattle.poly_module.specs.Combinations.{mark_value}
use Rattle.poly_module.specs.Degrees.{graded_part, graded_part_inside, graded_part_outside, graded_part_graded, graded_part_supp, grade_bound}
use Rattle.poly_module.specs.Forms.{key_weight, dec_both}
use Rattle.poly_module.specs.Marks.{IsRelation}
use Rattle.poly_module.specs.Modules.{LeadBy}
use Rattle.poly_module.specs.Parts.{Supp, supp_plus, supp_act, supp_single, select, select_inside, supp_select}
use Rattle.poly_module.specs.Polynomials.{single_vector, product}
use Rattle.poly_module.specs.Products.{shift_product, product_zero}
use Rattle.poly_module.specs.Substitutions.{substitute_plus, substitute_product}
use Rattle.poly_module.specs.Variables.{substitute_linear, product_polynomial, product_in_variables}
use Rattle.poly_module.proofs.EchelonLists.{coef_at_act}
use Rattle.poly_module.proofs.LeadLaws.{lead_greatest, lead_shift}
use Rattle.finite_certificate.specs.Ideals.{InIdeal, Regular}
use Rattle.finite_certificate.specs.MarkSpaces.{ArePositiveForms}
use Rattle.finite_certificate.specs.StandardMonomials.{IsStandard}
use Rattle.finite_certificate.proofs.Coordinates.{standard_decided}
use Rattle.finite_certificate.proofs.PowerForms.{forms_count}
use Rattle.finite_certificate.proofs.RelationLeads.{lead_lifts}
use Rattle.groebner_hom.proofs.Freeness.{part_value, std_value_injective}

module _ {E : Type 0} (k : FieldOn E) (g : Key → ℕ) (o : OrderOn Key) where
  -- the part of the degree of a lead has that lead
  pub part_lead : (u : Vect k) (t : Key) → LeadBy k o u t → LeadBy k o (graded_part k g (g t) u) t
  unfolding coef_at
  part_lead u t lead = record {
    there = λ z. lead.there (sym (graded_part_inside k g (g t) u t refl) ∙ z);
    above = λ s less. at s less (ℕ_discrete (g s) (g t));
  }
    where
      at : (s : Key) → o.compare t s ≡ Less → Dec (g s ≡ g t) → coef_at k (graded_part k g (g t) u) s ≡ (scalars k).zero
      at s less (yes e) = graded_part_inside k g (g t) u s e ∙ lead.above s less
      at s less (no n) = graded_part_outside k g (g t) u s n

module _ {E : Type 0} (k : FieldOn E) (n : ℕ) (ds : List ℕ) (θ : List (Vect k)) (primaries : ArePositiveForms k n ds θ) where
  abbrev W : List ℕ
  W = replicate n 1 ++ ds

  abbrev value : Vect k → Vect k
  value = mark_value k n θ

  abbrev S : SpaceOver E
  S = marked_space k n ds

  abbrev blocks : OrderOn Key
  blocks = key_order S

  count : length θ ≡ length ds
  count = forms_count k (replicate n 1) ds θ primaries.forms

  -- each monomial is standard or not
  pub standard_dec : (m : Mon) → length m.0 ≤ n → Dec (IsStandard k n θ m)
  standard_dec m short = at (standard_decided k n ds θ primaries m short)
    where
      at : IsStandard k n θ m ⊎ ((f : Vect k) × InIdeal k θ f × LeadBy k (key_order (plain_space k n)) f (0, m)) → Dec (IsStandard k n θ m)
      at (inl s) = yes s
      at (inr f) = no (λ s. s f.0 f.1 f.2)

  -- homogeneous relations
  pub record IsFormRelation (D : ℕ) (v : Vect k) : Type 0 where
    pub keys : Supp k (λ t. (t.0 ≡ 0) × (key_weight (replicate n 1 ++ ds) t ≡ D) × (length t.1.0 ≤ n + length θ)) v
    pub value : mark_value k n θ v ≡ zero_vector k

  pub form_relation : (D : ℕ) (v : Vect k) → IsFormRelation D v → IsRelation k n θ v
  form_relation D v h = record { mixed = record { polynomial = λ t c. (h.keys t c).0; variables = λ t c. (h.keys t c).2 }; value = h.value }

  pub part_relation : (D : ℕ) (u : Vect k) → IsRelation k n θ u → IsFormRelation D (graded_part k (key_weight (replicate n 1 ++ ds)) D u)
  part_relation D u h = record {
    keys = λ t x. (
      graded_part_supp k (key_weight W) D (λ t. t.0 ≡ 0) u h.mixed.polynomial t x,
      graded_part_graded k (key_weight W) D u t x,
      graded_part_supp k (key_weight W) D (λ t. length t.1.0 ≤ n + length θ) u h.mixed.variables t x,
    );
    value = part_value k n ds θ primaries D u h.mixed.variables h.value;
  }

  relation_shift : (c : Mon) (u : Vect k) → length c.0 ≤ n + length θ → IsRelation k n θ u → IsRelation k n θ (shift k c u)
  relation_shift c u short h = subst (IsRelation k n θ) (sym (shift_product k c u)) (record {
    mixed = record {
      polynomial = product_polynomial k (single_vector k (0, c)) u (supp_single k (λ t. t.0 ≡ 0) (0, c) refl) h.mixed.polynomial;
      variables = product_in_variables k (n + length θ) (single_vector k (0, c)) u (supp_single k (λ t. length t.1.0 ≤ n + length θ) (0, c) short) h.mixed.variables;
    };
    value = substitute_product k _ (single_vector k (0, c)) u ∙ ap (product k (mark_value k n θ (single_vector k (0, c)))) h.value ∙ product_zero k _;
  })

  -- a key with no standard part is the lead of a relation
  pub relation_with_lead : (q : Key) → q.0 ≡ 0 → length q.1.0 ≤ n + length θ → ¬ IsStandard k n θ (variable_part n q.1)
      → (u : Vect k) × IsFormRelation (key_weight (replicate n 1 ++ ds) q) u × LeadBy k (key_order (marked_space k n ds)) u q
  relation_with_lead q z short other = at (standard_decided k n ds θ primaries m (length_variable_part n q.1))
    where
      m : Mon
      m = variable_part n q.1

      a : Mon
      a = as_marks n (mark_part n q.1)

      whole : times_key a (0, m) ≡ q
      whole = ap₂ (λ (i : ℕ) (b : Mon). (i, b)) (sym z) (monomials.comm a m ∙ parts n q.1)

      at : IsStandard k n θ m ⊎ ((f : Vect k) × InIdeal k θ f × LeadBy k (key_order (plain_space k n)) f (0, m)) → (u : Vect k) × IsFormRelation (key_weight W q) u × LeadBy k blocks u q
      at (inl s) = absurd (other s)
      at (inr f) =
          let l = lead_lifts k n ds θ primaries m (length_variable_part n q.1) f.0 f.1 f.2 in
          let low = length_mark_part n (length θ) q.1 short in
          let long = length_as_marks n (mark_part n q.1) in
          let lead : LeadBy k blocks (shift k a l.0) q = subst (LeadBy k blocks (shift k a l.0)) whole (lead_shift S a l.0 (0, m) l.2) in
          (graded_part k (key_weight W) (key_weight W q) (shift k a l.0), part_relation (key_weight W q) (shift k a l.0) (relation_shift a l.0 (omega arith) l.1), part_lead k (key_weight W) blocks (shift k a l.0) q lead)

  module _ (regular : Regular k θ) where
    ranks : Key → ℕ
    ranks = rank S (marked_positive k n ds primaries.positive).1

    ranks_less : (s t : Key) → s.0 ≡ 0 → t.0 ≡ 0 → key_weight W s ≡ key_weight W t → blocks.compare s t ≡ Less → ranks s < ranks t
    unfolding ranks degree
    ranks_less s t zs zt e less = rank_less S (marked_positive k n ds primaries.positive).1 s t (ap₂ ◌+◌ e (ap (height (0 ∷ [])) (zs ∙ sym zt))) less

    module _ (t : Key) (std : IsStandard k n θ (variable_part n t.1)) where
      abbrev Other : Key → Type 0
      Other q = ¬ IsStandard k n θ (variable_part n q.1)

      other : (q : Key) → Dec (Other q)
      other q = flip (standard_dec (variable_part n q.1) (length_variable_part n q.1))
        where
          flip : {A : Type 0} → Dec A → Dec (¬ A)
          flip (yes a) = no (λ n. n a)
          flip (no n) = yes n

      -- a homogeneous relation with this key, none above, and others but of small ranks standard
      record Reduced (D N : ℕ) (v : Vect k) : Type 0 where
        pub relation : IsFormRelation D v
        pub there : ¬ (coef_at k v t ≡ (scalars k).zero)
        pub below : Supp k (λ s. (s ≡ t) ⊎ (blocks.compare s t ≡ Less)) v
        pub small : Supp k (λ s. Other s → ranks s < N) v

      none_reduced : (D : ℕ) (v : Vect k) → ¬ Reduced D zero v
      none_reduced D v h = h.there (ap (λ w. coef_at k w t) (std_value_injective k n ds θ primaries regular v (form_relation D v h.relation).mixed standard h.relation.value) ∙ coef_at_zero k t)
        where
          standard : Supp k (λ s. IsStandard k n θ (variable_part n s.1)) v
          standard s c = at (standard_dec (variable_part n s.1) (length_variable_part n s.1))
            where
              at : Dec (IsStandard k n θ (variable_part n s.1)) → IsStandard k n θ (variable_part n s.1)
              at (yes p) = p
              at (no p) = let l = h.small s c p in absurd (omega arith)

      module _ (D N : ℕ) (v : Vect k) (h : Reduced D (suc N) v) where
        pass : (s : Key) → Dec (Other s × (ranks s ≡ N))
        pass s = dec_both (other s) (ℕ_discrete (ranks s) N)

        -- no key of that rank is left
        fewer : select k pass v ≡ zero_vector k → Reduced D N v
        fewer none = record { relation = h.relation; there = h.there; below = h.below; small = λ s c p. at s c p (ℕ_discrete (ranks s) N) }
          where
            at : (s : Key) → ¬ (coef_at k v s ≡ (scalars k).zero) → Other s → Dec (ranks s ≡ N) → ranks s < N
            at s c p (yes e) = absurd (c (sym (select_inside k pass v s (p, e)) ∙ ap (λ w. coef_at k w s) none ∙ coef_at_zero k s))
            at s c p (no e) = let l = h.small s c p in omega arith

        -- one key of that rank, which is taken away
        module _ (q : Key) (c : ¬ (coef_at k v q ≡ (scalars k).zero)) (p : Other q) (e : ranks q ≡ N) where
          abbrev key : (q.0 ≡ 0) × (key_weight W q ≡ D) × (length q.1.0 ≤ n + length θ)
          key = h.relation.keys q c

          abbrev r : (u : Vect k) × IsFormRelation (key_weight W q) u × LeadBy k blocks u q
          r = relation_with_lead q key.0 key.2 p

          x : Scalar k
          x = coef_at k v q

          y : Scalar k
          y = coef_at k r.0 q

          w : Vect k
          w = plus k ((vectors k).◌·◌ y v) ((vectors k).◌·◌ ((scalars k).neg x) r.0)

          coef_w : (s : Key) → coef_at k w s ≡ (scalars k).◌+◌ ((scalars k).◌*◌ y (coef_at k v s)) ((scalars k).◌*◌ ((scalars k).neg x) (coef_at k r.0 s))
          unfolding w
          coef_w s = coef_at_plus k _ _ s ∙ ap₂ (scalars k).◌+◌ (coef_at_act k y v s) (coef_at_act k ((scalars k).neg x) r.0 s)

          y_not_zero : ¬ (y ≡ (scalars k).zero)
          unfolding y coef_at
          y_not_zero = r.2.there

          cancels : coef_at k w q ≡ (scalars k).zero
          unfolding x y
          cancels = coef_w q ∙ ap (λ z. (scalars k).◌+◌ z ((scalars k).◌*◌ ((scalars k).neg x) y)) ((scalars k).mul_comm y x) ∙ sym (rings.add_mul (scalars k) x ((scalars k).neg x) y)
              ∙ ap (λ z. (scalars k).◌*◌ z y) ((scalars k).add_neg x) ∙ rings.zero_mul (scalars k) y

          -- the keys of the relation are below
          not_it : ¬ (q ≡ t)
          not_it same = p (subst (λ (s : Key). IsStandard k n θ (variable_part n s.1)) (sym same) std)

          smaller : blocks.compare q t ≡ Less
          smaller = at (h.below q c)
            where
              at : (q ≡ t) ⊎ (blocks.compare q t ≡ Less) → blocks.compare q t ≡ Less
              at (inl same) = absurd (not_it same)
              at (inr less) = less

          relation_keys : (s : Key) → ¬ (coef_at k r.0 s ≡ (scalars k).zero) → (s ≡ q) ⊎ (blocks.compare s q ≡ Less)
          relation_keys s d = lead_greatest k blocks r.0 q s r.2 d

          nothing_there : coef_at k r.0 t ≡ (scalars k).zero
          unfolding coef_at
          nothing_there = r.2.above t smaller

          still_there : ¬ (coef_at k w t ≡ (scalars k).zero)
          still_there z = mul_not_zero (scalars k) (is_field k) y (coef_at k v t) y_not_zero h.there
              (sym (coef_w t ∙ ap (λ a. (scalars k).◌+◌ ((scalars k).◌*◌ y (coef_at k v t)) ((scalars k).◌*◌ ((scalars k).neg x) a)) nothing_there
              ∙ ap ((scalars k).◌+◌ ((scalars k).◌*◌ y (coef_at k v t))) (rings.mul_zero (scalars k) ((scalars k).neg x)) ∙ (scalars k).add_zero _) ∙ z)

          -- the keys of the sum
          either : (Q : Key → Type 0) → ((s : Key) → ¬ (coef_at k v s ≡ (scalars k).zero) → Q s) → ((s : Key) → ¬ (coef_at k r.0 s ≡ (scalars k).zero) → Q s) → Supp k Q w
          unfolding w
          either Q a b = supp_plus k Q _ _ (supp_act k Q y v a) (supp_act k Q ((scalars k).neg x) r.0 b)

          new_value : value w ≡ zero_vector k
          unfolding w zero_vector
          new_value = substitute_plus k _ _ _ ∙ ap₂ (plus k)
              ((substitute_linear k _).act y v ∙ ap ((vectors k).◌·◌ y) h.relation.value ∙ modules.act_zero (vectors k) y)
              ((substitute_linear k _).act ((scalars k).neg x) r.0 ∙ ap ((vectors k).◌·◌ ((scalars k).neg x)) r.1.value ∙ modules.act_zero (vectors k) ((scalars k).neg x))
              ∙ plus_zero k _

          new_relation : IsFormRelation D w
          new_relation = record {
            keys = either (λ t. (t.0 ≡ 0) × (key_weight W t ≡ D) × (length t.1.0 ≤ n + length θ)) h.relation.keys (λ s d. let a = r.1.keys s d in (a.0, a.1 ∙ key.1, a.2));
            value = new_value;
          }

          new_below : Supp k (λ s. (s ≡ t) ⊎ (blocks.compare s t ≡ Less)) w
          new_below = either (λ s. (s ≡ t) ⊎ (blocks.compare s t ≡ Less)) h.below (λ s d. inr (at s (relation_keys s d)))
            where
              at : (s : Key) → (s ≡ q) ⊎ (blocks.compare s q ≡ Less) → blocks.compare s t ≡ Less
              at s (inl same) = subst (λ (a : Key). blocks.compare a t ≡ Less) (sym same) smaller
              at s (inr less) = less_transitive blocks s q t less smaller

          new_small : Supp k (λ s. Other s → ranks s < N) w
          new_small s d other_s = at s d (trichotomy blocks s q) (new_relation.keys s d) (either (λ s. Other s → ranks s < suc N) h.small from_relation s d other_s)
            where
              from_relation : (s : Key) → ¬ (coef_at k r.0 s ≡ (scalars k).zero) → Other s → ranks s < suc N
              from_relation s d o = go (relation_keys s d) (r.1.keys s d)
                where
                  go : (s ≡ q) ⊎ (blocks.compare s q ≡ Less) → (s.0 ≡ 0) × (key_weight W s ≡ key_weight W q) × (length s.1.0 ≤ n + length θ) → ranks s < suc N
                  go (inl same) a = let f : ranks s ≡ ranks q = ap ranks same in omega arith
                  go (inr less) a = let f = ranks_less s q a.0 key.0 a.1 less in omega arith

              at : (s : Key) → ¬ (coef_at k w s ≡ (scalars k).zero) → Trichotomy blocks s q → (s.0 ≡ 0) × (key_weight W s ≡ D) × (length s.1.0 ≤ n + length θ) → ranks s < suc N → ranks s < N
              at s d (inl (inl less)) a low = let f = ranks_less s q a.0 key.0 (a.1 ∙ sym key.1) less in omega arith
              at s d (inl (inr same)) a low = absurd (d (ap (coef_at k w) same ∙ cancels))
              at s d (inr less) a low = let f = ranks_less q s key.0 a.0 (key.1 ∙ sym a.1) less in absurd (omega arith)

          taken : Reduced D N w
          taken = record { relation = new_relation; there = still_there; below = new_below; small = new_small }

        lower : ((w : Vect k) → ¬ Reduced D N w) → ⊥
        unfolding zero_vector coef_at
        lower next = at (has_lead (scalars k) (is_field k) key_same blocks (select k pass v))
          where
            at : HasLead (scalars k) (is_field k) key_same blocks (select k pass v) → ⊥
            at (inl none) = next v (fewer none)
            at (inr l) = found l.0 l.1
              where
                found : (q : Key) → LeadBy k blocks (select k pass v) q → ⊥
                found q lead = let a = supp_select k pass v q lead.there in let c : ¬ (coef_at k v q ≡ (scalars k).zero) = λ z. lead.there (select_inside k pass v q a ∙ z) in next (w q c a.0 a.1) (taken q c a.0 a.1)

      nothing_reduced : (N D : ℕ) (v : Vect k) → ¬ Reduced D N v
      nothing_reduced zero D v h = none_reduced D v h
      nothing_reduced (suc N) D v h = lower D N v h (nothing_reduced N D)

    -- the lead of a relation
    pub lead_not_standard : (u : Vect k) (t : Key) → IsRelation k n θ u → LeadBy k (key_order (marked_space k n ds)) u t → ¬ IsStandard k n θ (variable_part n t.1)
    unfolding coef_at
    lead_not_standard u t relation lead std =
        let D = key_weight W t in
        let v = graded_part k (key_weight W) D u in
        let l = part_lead k (key_weight W) blocks u t lead in
        let b = grade_bound k ranks blocks v in
        nothing_reduced t std b.0 D v (record { relation = part_relation D u relation; there = there v l; below = λ s c. lead_greatest k blocks v t s l c; small = λ s c o. b.1 s c })
      where
        there : (v : Vect k) → LeadBy k blocks v t → ¬ (coef_at k v t ≡ (scalars k).zero)
        there v l = l.there
