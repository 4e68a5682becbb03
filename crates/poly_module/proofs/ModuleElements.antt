-- The elements of a module: sums, multiples, members, parts, and sums of multiples by scalars and monomials.
use Rattle.std.proofs.Common.{◌≡◌, ℕ, ◌+◌, ◌-◌, ◌≤◌, List, [], ◌∷◌, ◌++◌, sym, ap, ap₂, ◌∙◌, refl, subst, arith, inl, inr}
use native.Mathlib.Decide.{dec_le}
use Rattle.alg_core.specs.Fields.{FieldOn, Scalar, scalars, is_field}
use Rattle.alg_core.specs.KeyOrders.{OrderOn}
use Rattle.alg_core.specs.CanonicalLists.{IsCanonical, coefficient_head, coefficient_below, indicator_no, terms, terms_canonical, class_terms}
use Rattle.alg_core.specs.RingLaws as rings
use Rattle.alg_core.specs.FormalSums.{FormalSum, regular, coefficient}
use Rattle.alg_core.specs.Lists.{In}
use Rattle.alg_core.specs.FreeModules.{class, class_cons, class_nothing, coef_class}
use Rattle.alg_core.specs.Monomials.{Mon, monomials}
use Rattle.alg_core.specs.Keys.{Key, key_same}
use Rattle.alg_core.specs.Spaces.{SpaceOver}
use Rattle.alg_core.specs.SpaceGrading.{degree}
use Rattle.alg_core.specs.Vectors.{Vect, vectors, coef_at, plus, zero_vector, shift}
use Rattle.alg_core.proofs.VectorLaws.{plus_assoc, plus_zero, zero_plus}
use Rattle.poly_module.specs.Polynomials.{single_vector, one_vector, product}
use Rattle.poly_module.specs.Products.{product_linear_left, product_plus, plus_product, product_assoc, product_zero, zero_product, one_product, shift_product, one_vector_single}
use Rattle.poly_module.specs.Parts.{Supp, IsPolynomial, supp_single, supp_zero, supp_plus, supp_act}
use Rattle.poly_module.specs.Degrees.{graded_part_plus, graded_part_zero, IsHomogeneous, part}
use Rattle.poly_module.specs.Forms.{form_part, form_part_form, product_part, product_part_below}
use Rattle.poly_module.specs.Variables.{product_polynomial, product_positions}
use Rattle.poly_module.specs.Modules.{IsSubspace, ArePolynomials, multiples, summands, InModule}

module _ {E : Type 0} (k : FieldOn E) where
  pub polynomial_single : (m : Mon) → IsPolynomial k (single_vector k (0, m))
  polynomial_single m = supp_single k (λ t. t.0 ≡ 0) (0, m) refl

  pub polynomial_one : IsPolynomial k (one_vector k)
  polynomial_one = subst (IsPolynomial k) (sym (one_vector_single k)) (polynomial_single monomials.one)

  AtZero : FormalSum (Scalar k) Key → Type 0
  AtZero [] = Unit {0}
  AtZero (e ∷ l) = (e.0.0 ≡ 0) × AtZero l

  module _ {I : Type 0} (g : I → Vect k) where
    -- the entries of a product with f
    scaled_by : Vect k → List (Vect k × I) → List (Vect k × I)
    scaled_by f [] = []
    scaled_by f (e ∷ l) = (product k f e.0, e.1) ∷ scaled_by f l

    multiples_scaled : (f : Vect k) (l : List (Vect k × I)) → multiples k g (scaled_by f l) ≡ product k f (multiples k g l)
    unfolding scaled_by
    multiples_scaled f [] = sym (product_zero k f)
    multiples_scaled f (e ∷ l) = ap₂ (plus k) (product_assoc k f e.0 (g e.1)) (multiples_scaled f l) ∙ sym (product_plus k f _ _)

    polynomials_scaled : (f : Vect k) → IsPolynomial k f → (l : List (Vect k × I)) → ArePolynomials k l → ArePolynomials k (scaled_by f l)
    unfolding scaled_by
    polynomials_scaled f p [] h = tt
    polynomials_scaled f p (e ∷ l) h = (product_polynomial k f e.0 p h.0, polynomials_scaled f p l h.1)

    multiples_append : (l l' : List (Vect k × I)) → multiples k g (l ++ l') ≡ plus k (multiples k g l) (multiples k g l')
    multiples_append [] l' = sym (zero_plus k _)
    multiples_append (e ∷ l) l' = ap (plus k _) (multiples_append l l') ∙ sym (plus_assoc k _ _ _)

    polynomials_append : (l l' : List (Vect k × I)) → ArePolynomials k l → ArePolynomials k l' → ArePolynomials k (l ++ l')
    polynomials_append [] l' h j = j
    polynomials_append (e ∷ l) l' h j = (h.0, polynomials_append l l' h.1 j)

    pub module_zero : InModule k g (zero_vector k)
    module_zero = ([], tt, refl)

    pub module_plus : (u v : Vect k) → InModule k g u → InModule k g v → InModule k g (plus k u v)
    module_plus u v a b = (a.0 ++ b.0, polynomials_append a.0 b.0 a.1 b.1, multiples_append a.0 b.0 ∙ ap₂ (plus k) a.2 b.2)

    -- a polynomial times an element
    pub module_product : (f v : Vect k) → IsPolynomial k f → InModule k g v → InModule k g (product k f v)
    module_product f v p a = (scaled_by f a.0, polynomials_scaled f p a.0 a.1, multiples_scaled f a.0 ∙ ap (product k f) a.2)

    pub module_act : (c : Scalar k) (v : Vect k) → InModule k g v → InModule k g ((vectors k).◌·◌ c v)
    module_act c v a = subst (InModule k g) ((product_linear_left k v).act c (one_vector k) ∙ ap ((vectors k).◌·◌ c) (one_product k v))
        (module_product ((vectors k).◌·◌ c (one_vector k)) v (supp_act k (λ t. t.0 ≡ 0) c _ polynomial_one) a)

    pub module_subspace : IsSubspace k (InModule k g)
    module_subspace = record { zero = module_zero; plus = module_plus; act = module_act }

    pub module_shift : (m : Mon) (v : Vect k) → InModule k g v → InModule k g (shift k m v)
    module_shift m v a = subst (InModule k g) (sym (shift_product k m v)) (module_product (single_vector k (0, m)) v (polynomial_single m) a)

    pub module_member : (i : I) → InModule k g (g i)
    module_member i = ((one_vector k, i) ∷ [], (polynomial_one, tt), plus_zero k _ ∙ one_product k (g i))

    -- what holds of the members and is kept by sums and polynomial multiples holds of all elements
    pub module_ind : (P : Vect k → Type 0) → P (zero_vector k) → ((f v : Vect k) (i : I) → IsPolynomial k f → P v → P (plus k (product k f (g i)) v)) → (v : Vect k) → InModule k g v → P v
    module_ind P none more v a = subst P a.2 (go a.0 a.1)
      where
        go : (l : List (Vect k × I)) → ArePolynomials k l → P (multiples k g l)
        go [] h = none
        go (e ∷ l) h = more e.0 (multiples k g l) e.1 h.0 (go l h.1)

    -- positions of elements are positions of members
    pub module_positions : (P : ℕ → Type 0) → ((q : ℕ) → Dec (P q)) → ((i : I) → Supp k (λ t. P t.0) (g i)) → (v : Vect k) → InModule k g v → Supp k (λ t. P t.0) v
    module_positions P test h = module_ind (λ v. Supp k (λ t. P t.0) v) (supp_zero k (λ t. P t.0)) (λ f v i p s. supp_plus k (λ t. P t.0) _ v (product_positions k P test f (g i) p (h i)) s)

    -- sums of multiples by scalars and monomials
    summands_append : (l l' : List (Scalar k × Mon × I)) → summands k g (l ++ l') ≡ plus k (summands k g l) (summands k g l')
    summands_append [] l' = sym (zero_plus k _)
    summands_append (e ∷ l) l' = ap (plus k _) (summands_append l l') ∙ sym (plus_assoc k _ _ _)

    pub summands_in_module : (l : List (Scalar k × Mon × I)) → InModule k g (summands k g l)
    summands_in_module [] = module_zero
    summands_in_module (e ∷ l) = module_plus _ _ (module_act e.0 _ (module_shift e.1 _ (module_member e.2))) (summands_in_module l)

    expanded : FormalSum (Scalar k) Key → I → List (Scalar k × Mon × I)
    expanded [] i = []
    expanded (e ∷ l) i = (e.1, e.0.1, i) ∷ expanded l i

    summands_expanded : (l : FormalSum (Scalar k) Key) (i : I) → AtZero l → summands k g (expanded l i) ≡ product k (class (scalars k) key_same l) (g i)
    unfolding expanded AtZero zero_vector plus single_vector
    summands_expanded [] i h = sym (ap (λ w. product k w (g i)) (class_nothing (scalars k) key_same) ∙ zero_product k (g i))
    summands_expanded (e ∷ l) i h = ap₂ (plus k)
        (ap ((vectors k).◌·◌ e.1) (shift_product k e.0.1 (g i) ∙ ap (λ q. product k (single_vector k (q, e.0.1)) (g i)) (sym h.0)) ∙ sym ((product_linear_left k (g i)).act e.1 _))
        (summands_expanded l i h.1)
        ∙ sym (ap (λ w. product k w (g i)) (class_cons (scalars k) key_same e l) ∙ plus_product k _ _ (g i))

module _ {E : Type 0} (k : FieldOn E) {I J : Type 0} (g : I → Vect k) (h : J → Vect k) where
  -- where the members of one module lie in another, all its elements do
  pub module_within : ((i : I) → InModule k h (g i)) → (v : Vect k) → InModule k g v → InModule k h v
  module_within each = module_ind k g (InModule k h) (module_zero k h) (λ f v i p a. module_plus k h _ v (module_product k h f (g i) p (each i)) a)

module _ {E : Type 0} (S : SpaceOver E) {I : Type 0} (g : I → Vect S.field) (d : I → ℕ) (homogeneous : (i : I) → IsHomogeneous S (d i) (g i)) where
  -- the parts of an element of a module of homogeneous members
  pub module_part : (e : ℕ) (v : Vect S.field) → InModule S.field g v → InModule S.field g (part S e v)
  module_part e = module_ind S.field g (λ v. InModule S.field g (part S e v)) (subst (InModule S.field g) (sym (graded_part_zero S.field (degree S) e)) (module_zero S.field g))
      (λ f v i p a. subst (InModule S.field g) (sym (graded_part_plus S.field (degree S) e _ v)) (module_plus S.field g _ _ (go f i p (dec_le (d i) e)) a))
    where
      go : (f : Vect S.field) (i : I) → IsPolynomial S.field f → Dec (d i ≤ e) → InModule S.field g (part S e (product S.field f (g i)))
      go f i p (yes l) =
          let split : d i + (e - d i) ≡ e = omega arith in
          subst (InModule S.field g) (sym (product_part S (d i) (g i) (homogeneous i) (e - d i) f p) ∙ ap (λ n. part S n (product S.field f (g i))) split)
          (module_product S.field g (form_part S.field S.weights (e - d i) f) (g i) (λ t c. (form_part_form S.field S.weights (e - d i) f p t c).0) (module_member S.field g i))
      go f i p (no l) = subst (InModule S.field g) (sym (product_part_below S (d i) (g i) (homogeneous i) e (omega arith) f p)) (module_zero S.field g)

module _ {E : Type 0} (k : FieldOn E) (o : OrderOn Key) where
  -- the keys of a canonical list are keys of its vector
  canonical_keys : (Q : Key → Type 0) (l : FormalSum (Scalar k) Key) → IsCanonical (scalars k) (is_field k) key_same o l
      → ((t : Key) → ¬ (coefficient (scalars k) key_same l t ≡ (scalars k).zero) → Q t) → (e : Key × Scalar k) → In e l → Q e.0
  unfolding regular
  canonical_keys Q [] c h e i = absurd i
  canonical_keys Q (x ∷ l) c h e (inl p) = subst (λ y. Q y.0) p (h x.0 (λ z. c.0 (sym (coefficient_head (scalars k) (is_field k) key_same o x l c.1) ∙ z)))
  canonical_keys Q (x ∷ l) c h e (inr i) = canonical_keys Q l c.2 (λ t n. h t (later t n (key_same x.0 t))) e i
    where
      later : (t : Key) → ¬ (coefficient (scalars k) key_same l t ≡ (scalars k).zero) → Dec (x.0 ≡ t) → ¬ (coefficient (scalars k) key_same (x ∷ l) t ≡ (scalars k).zero)
      later t n (yes p) z = n (coefficient_below (scalars k) (is_field k) key_same o x.0 l c.1 t (inr p))
      later t n (no p) z = n (sym (ap₂ (scalars k).◌+◌ (ap ((scalars k).◌*◌ x.1) (indicator_no (scalars k) (key_same x.0 t) p) ∙ rings.mul_zero (scalars k) x.1) refl ∙ rings.zero_add (scalars k) _) ∙ z)

  -- the terms of a vector have its keys
  pub terms_supp : (Q : Key → Type 0) (v : Vect k) → Supp k Q v → (e : Key × Scalar k) → In e (terms (scalars k) (is_field k) key_same o v) → Q e.0
  unfolding coef_at
  terms_supp Q v h = canonical_keys Q (terms (scalars k) (is_field k) key_same o v) (terms_canonical (scalars k) (is_field k) key_same o v)
      (λ t n. h t (λ z. n (sym (coef_class (scalars k) key_same _ t) ∙ ap (λ w. coef_at k w t) (class_terms (scalars k) (is_field k) key_same o v) ∙ z)))

  at_zero : (l : FormalSum (Scalar k) Key) → ((e : Key × Scalar k) → In e l → e.0.0 ≡ 0) → AtZero k l
  unfolding AtZero
  at_zero [] h = tt
  at_zero (e ∷ l) h = (h e (inl refl), at_zero l (λ f i. h f (inr i)))

  -- each element is a sum of multiples by scalars and monomials
  pub module_summands : {I : Type 0} (g : I → Vect k) (v : Vect k) → InModule k g v → (l : List (Scalar k × Mon × I)) × (summands k g l ≡ v)
  module_summands g = module_ind k g (λ v. (l : List _) × (summands k g l ≡ v)) ([], refl) (λ f v i p a.
      let ts = terms (scalars k) (is_field k) key_same o f in
      let zeros : AtZero k ts = at_zero ts (terms_supp (λ t. t.0 ≡ 0) f p) in
      (expanded k g ts i ++ a.0, summands_append k g (expanded k g ts i) a.0 ∙ ap₂ (plus k) (summands_expanded k g ts i zeros ∙ ap (λ w. product k w (g i)) (class_terms (scalars k) (is_field k) key_same o f)) a.1))
