-- A polynomial in variables and marks less its value lies in the ideal of the relations between values and marks, so the
-- elements of this ideal are the polynomials whose value is 0.
use Rattle.std.proofs.Common.{◌≡◌, ◌↔◌, ℕ, zero, suc, ◌+◌, ◌<◌, ◌≤◌, List, [], ◌∷◌, ◌++◌, length, inl, inr, sym, ap, ap₂, ◌∙◌, refl, subst, arith}
use Rattle.alg_core.specs.Rings.{Ring, Linear}
use Rattle.alg_core.specs.ModuleLaws as modules
use Rattle.alg_core.specs.Fields.{FieldOn, Scalar, scalars, is_field}
use Rattle.alg_core.specs.FormalSums.{FormalSum}
use Rattle.alg_core.specs.FreeModules.{class, class_cons, class_nothing}
use Rattle.alg_core.specs.CanonicalLists.{terms, class_terms}
use Rattle.alg_core.specs.Keys.{Key, key_same}
use Rattle.alg_core.specs.KeyOrders.{OrderOn}
use Rattle.alg_core.specs.Lists.{In}
use Rattle.alg_core.specs.Vectors.{Vect, vectors, plus, zero_vector}
use Rattle.alg_core.proofs.VectorLaws.{plus_assoc, plus_comm, plus_left_comm, plus_zero, zero_plus}
use Rattle.poly_module.specs.Signs.{minus}
use Rattle.poly_module.specs.MonomialVariables.{variable}
use Rattle.poly_module.specs.Polynomials.{single_vector, product, vector_ring}
use Rattle.poly_module.specs.Products.{product_plus, plus_product, product_comm, product_zero, ring_product, ring_one}
use Rattle.poly_module.specs.Substitutions.{power, image, monomial_value, variable_vector, substitute_single, substitute_plus, substitute_product, substitute_zero}
use Rattle.poly_module.specs.Parts.{Supp, IsPolynomial, InVariables, supp_single}
use Rattle.poly_module.specs.Variables.{variables, variables_from, product_polynomial, substitute_linear, substitute_variables}
use Rattle.poly_module.specs.Modules.{IsSubspace, InModule, listed}
use Rattle.poly_module.specs.Combinations.{mark_value}
use Rattle.poly_module.specs.Marks.{IsMixed, relation, relations_from, relations, IsRelation}
use Rattle.poly_module.proofs.ModuleElements.{terms_supp, polynomial_one, module_subspace, module_product, module_member, module_ind}
use Rattle.poly_module.proofs.MarkValues.{mark_value_polynomial, mark_value_mark}

module _ {S : Type 0} (Y : Ring S) (P : S → S → Type 0) (one : P Y.one Y.one) (mul : (x x' y y' : S) → P x y → P x' y' → P (Y.◌*◌ x x') (Y.◌*◌ y y')) where
  abbrev pub AllRelated : List S → List S → Type 0
  AllRelated [] [] = Unit {0}
  AllRelated [] (y ∷ ys) = ⊥
  AllRelated (x ∷ xs) [] = ⊥
  AllRelated (x ∷ xs) (y ∷ ys) = P x y × AllRelated xs ys

  power_related : (x y : S) (e : ℕ) → P x y → P (power Y x e) (power Y y e)
  power_related x y zero h = one
  power_related x y (suc e) h = mul x (power Y x e) y (power Y y e) h (power_related x y e h)

  -- values of a monomial at related images are related
  pub monomial_value_related : (xs ys : List S) (a : List ℕ) → AllRelated xs ys → P (monomial_value Y xs a) (monomial_value Y ys a)
  monomial_value_related [] [] a h = one
  monomial_value_related [] (y ∷ ys) a h = absurd h
  monomial_value_related (x ∷ xs) [] a h = absurd h
  monomial_value_related (x ∷ xs) (y ∷ ys) [] h = one
  monomial_value_related (x ∷ xs) (y ∷ ys) (e ∷ a) h = mul _ _ _ _ (power_related x y e h.0) (monomial_value_related xs ys a h.1)

  related_append : (xs ys us vs : List S) → AllRelated xs ys → AllRelated us vs → AllRelated (xs ++ us) (ys ++ vs)
  related_append [] [] us vs h g = g
  related_append [] (y ∷ ys) us vs h g = absurd h
  related_append (x ∷ xs) [] us vs h g = absurd h
  related_append (x ∷ xs) (y ∷ ys) us vs h g = (h.0, related_append xs ys us vs h.1 g)

module _ {E : Type 0} (k : FieldOn E) (o : OrderOn Key) where
  -- a linear function with its values on the keys of a vector in a subspace has its value there
  pub linear_in_subspace : (f : Vect k → Vect k) → Linear (vectors k) (vectors k) f → (U : Vect k → Type 0) → IsSubspace k U → (Q : Key → Type 0) → ((t : Key) → Q t → U (f (single_vector k t))) → (u : Vect k) → Supp k Q u → U (f u)
  unfolding single_vector plus zero_vector
  linear_in_subspace f lf U sub Q each u h = subst (λ v. U (f v)) (class_terms (scalars k) (is_field k) key_same o u) (go (terms (scalars k) (is_field k) key_same o u) (terms_supp k o Q u h))
    where
      go : (l : FormalSum (Scalar k) Key) → ((e : Key × Scalar k) → In e l → Q e.0) → U (f (class (scalars k) key_same l))
      go [] all = subst U (sym (ap f (class_nothing (scalars k) key_same) ∙ modules.linear_zero (vectors k) (vectors k) f lf)) sub.zero
      go (e ∷ l) all = subst U (sym (ap f (class_cons (scalars k) key_same e l) ∙ lf.add _ _ ∙ ap (λ w. (vectors k).◌+◌ w (f (class (scalars k) key_same l))) (lf.act e.1 _)))
          (sub.plus _ _ (sub.act e.1 _ (each e.0 (all e (inl refl)))) (go l (λ d i. all d (inr i))))

module _ {E : Type 0} (k : FieldOn E) where
  opposite : Vect k → Vect k
  opposite = modules.minus (vectors k)

  minus_self : (u : Vect k) → minus k u u ≡ zero_vector k
  unfolding minus plus zero_vector
  minus_self = modules.add_minus (vectors k)

  less_nothing : (u : Vect k) → minus k u (zero_vector k) ≡ u
  unfolding minus plus zero_vector
  less_nothing u = ap ((vectors k).◌+◌ u) (modules.minus_is (vectors k) (vectors k).zero ∙ modules.act_zero (vectors k) _) ∙ (vectors k).add_zero u

  -- what is added and taken away
  plus_then_minus : (u d : Vect k) → minus k (plus k u d) u ≡ d
  unfolding minus
  plus_then_minus u d = plus_comm k _ (modules.minus (vectors k) u) ∙ sym (plus_assoc k (modules.minus (vectors k) u) u d) ∙ ap (λ w. plus k w d) (plus_comm k (modules.minus (vectors k) u) u ∙ minus_self u) ∙ zero_plus k d

  -- a vector less the difference with another is the other
  less_difference : (f x : Vect k) → x ≡ plus k f (opposite (minus k f x))
  unfolding minus opposite
  less_difference f x =
      let r = minus k f x in
      let back : plus k x r ≡ f = plus_left_comm k x f (opposite x) ∙ ap (plus k f) (minus_self x) ∙ plus_zero k f in
      sym (plus_zero k x) ∙ ap (plus k x) (sym (minus_self r)) ∙ sym (plus_assoc k x r (opposite r)) ∙ ap (λ w. plus k w (opposite r)) back

  opposite_in : (U : Vect k → Type 0) → IsSubspace k U → (u : Vect k) → U u → U (opposite u)
  unfolding opposite
  opposite_in U sub u h = subst U (sym (modules.minus_is (vectors k) u)) (sub.act _ u h)

  linear_difference : (f : Vect k → Vect k) → Linear (vectors k) (vectors k) f → (u v : Vect k) → f (minus k u v) ≡ minus k (f u) (f v)
  unfolding minus plus
  linear_difference f lf u v = lf.add u _ ∙ ap ((vectors k).◌+◌ (f u)) (modules.linear_minus (vectors k) (vectors k) f lf v)

  -- the first n variables and r more
  variables_more : (i n r : ℕ) → variables_from k i (n + r) ≡ variables_from k i n ++ variables_from k (i + n) r
  unfolding variables_from
  variables_more i zero r = let p : zero + r ≡ r = omega arith in let q : i ≡ i + zero = omega arith in ap (variables_from k i) p ∙ ap (λ j. variables_from k j r) q
  variables_more i (suc n) r =
      let p : suc n + r ≡ suc (n + r) = omega arith in
      let q : suc i + n ≡ i + suc n = omega arith in
      ap (variables_from k i) p ∙ ap (λ l. variable_vector k i ∷ l) (variables_more (suc i) n r ∙ ap (λ j. variables_from k (suc i) n ++ variables_from k j r) q)

  variable_polynomial : (i : ℕ) → IsPolynomial k (variable_vector k i)
  unfolding variable_vector
  variable_polynomial i = supp_single k (λ t. t.0 ≡ 0) (0, variable i) refl

  module _ (n : ℕ) where
    listed_relations : (j : ℕ) (fs : List (Vect k)) (i : ℕ) → i < length fs → listed k (relations_from k n j fs) i ≡ relation k n (listed k fs i) (j + i)
    listed_relations j [] i h = absurd (omega arith)
    listed_relations j (f ∷ fs) zero h = let e : j ≡ j + zero = omega arith in ap (relation k n f) e
    listed_relations j (f ∷ fs) (suc i) h = let e : suc j + i ≡ j + suc i = omega arith in listed_relations (suc j) fs i (omega arith) ∙ ap (relation k n (listed k fs i)) e

    module _ (θ : List (Vect k)) where
      abbrev I : Vect k → Type 0
      I = InModule k (listed k (relations k n θ))

      -- polynomials that differ by an element of the ideal
      abbrev Rel : Vect k → Vect k → Type 0
      Rel x y = IsPolynomial k x × IsPolynomial k y × ((d : Vect k) × I d × (x ≡ plus k y d))

      rel_same : (x : Vect k) → IsPolynomial k x → Rel x x
      rel_same x p = (p, p, (zero_vector k, (module_subspace k (listed k (relations k n θ))).zero, sym (plus_zero k x)))

      rel_one : Rel (vector_ring k).one (vector_ring k).one
      rel_one = rel_same _ (subst (IsPolynomial k) (sym (ring_one k)) (polynomial_one k))

      rel_mul : (x x' y y' : Vect k) → Rel x y → Rel x' y' → Rel ((vector_ring k).◌*◌ x x') ((vector_ring k).◌*◌ y y')
      rel_mul x x' y y' h g =
          let d = h.2.0 in
          let e = g.2.0 in
          let sub = module_subspace k (listed k (relations k n θ)) in
          let split : product k x x' ≡ plus k (product k y y') (plus k (product k y' d) (product k x e)) =
          ap (product k x) g.2.2 ∙ product_plus k x y' e ∙ ap (λ w. plus k w (product k x e)) (ap (λ w. product k w y') h.2.2 ∙ plus_product k y d y' ∙ ap (plus k (product k y y')) (product_comm k d y'))
          ∙ plus_assoc k _ _ _ in (
            subst (IsPolynomial k) (sym (ring_product k x x')) (product_polynomial k x x' h.0 g.0),
            subst (IsPolynomial k) (sym (ring_product k y y')) (product_polynomial k y y' h.1 g.1),
            (
              plus k (product k y' d) (product k x e),
              sub.plus _ _ (module_product k (listed k (relations k n θ)) y' d g.1 h.2.1) (module_product k (listed k (relations k n θ)) x e h.0 g.2.1),
              ring_product k x x' ∙ split ∙ ap (λ w. plus k w (plus k (product k y' d) (product k x e))) (sym (ring_product k y y')),
            ),
          )

      rel_variables : (i m : ℕ) → AllRelated (vector_ring k) Rel rel_one rel_mul (variables_from k i m) (variables_from k i m)
      unfolding variables_from
      rel_variables i zero = tt
      rel_variables i (suc m) = (rel_same (variable_vector k i) (variable_polynomial i), rel_variables (suc i) m)

      rel_marks : (j : ℕ) (fs : List (Vect k)) → ((i : ℕ) → i < length fs → I (relation k n (listed k fs i) (j + i))) → ((f : Vect k) → In f fs → IsPolynomial k f)
          → AllRelated (vector_ring k) Rel rel_one rel_mul (variables_from k (n + j) (length fs)) fs
      unfolding variables_from
      rel_marks j [] inside each = tt
      rel_marks j (f ∷ fs) inside each =
          let e : j + 0 ≡ j = omega arith in
          let next : suc (n + j) ≡ n + suc j = omega arith in
          let member : I (relation k n f j) = subst (λ i. I (relation k n f i)) e (inside 0 (omega arith)) in (
            (
              variable_polynomial (n + j),
              each f (inl refl),
              (opposite (relation k n f j), opposite_in I (module_subspace k (listed k (relations k n θ))) (relation k n f j) member, less_difference f (variable_vector k (n + j))),
            ),
            subst (λ i. AllRelated (vector_ring k) Rel rel_one rel_mul (variables_from k i (length fs)) fs) (sym next)
                (rel_marks (suc j) fs (λ i h. let g : j + suc i ≡ suc j + i = omega arith in subst (λ m. I (relation k n (listed k fs i) m)) g (inside (suc i) (omega arith))) (λ g i. each g (inr i))),
          )

      module _ (given : (f : Vect k) → In f θ → IsPolynomial k f × InVariables k n f) where
        abbrev r : ℕ
        r = length θ

        all_related : AllRelated (vector_ring k) Rel rel_one rel_mul (variables k (n + r)) (variables k n ++ θ)
        unfolding variables
        all_related =
            let e : n + 0 ≡ n = omega arith in
            let z : 0 + n ≡ n = omega arith in
            subst (λ l. AllRelated (vector_ring k) Rel rel_one rel_mul l (variables_from k 0 n ++ θ)) (sym (variables_more 0 n r ∙ ap (λ j. variables_from k 0 n ++ variables_from k j r) z))
            (related_append (vector_ring k) Rel rel_one rel_mul (variables_from k 0 n) (variables_from k 0 n) (variables_from k n r) θ (rel_variables 0 n)
            (subst (λ i. AllRelated (vector_ring k) Rel rel_one rel_mul (variables_from k i r) θ) e
            (rel_marks 0 θ (λ i h. let z : 0 + i ≡ i = omega arith in subst I (listed_relations 0 θ i h) (module_member k (listed k (relations k n θ)) i)) (λ f i. (given f i).0))))

        -- v less its value
        less_value_of : Vect k → Vect k
        less_value_of v = (vectors k).◌+◌ v ((vectors k).◌·◌ ((scalars k).neg (scalars k).one) (mark_value k n θ v))

        less_value_linear : Linear (vectors k) (vectors k) less_value_of
        unfolding less_value_of
        less_value_linear = modules.linear_add (vectors k) (vectors k) (λ v. v) (λ v. (vectors k).◌·◌ ((scalars k).neg (scalars k).one) (mark_value k n θ v)) (modules.linear_same (vectors k))
            (modules.linear_act (vectors k) (vectors k) _ (mark_value k n θ) (substitute_linear k (variables k n ++ θ)))

        less_value_is : (v : Vect k) → less_value_of v ≡ minus k v (mark_value k n θ v)
        unfolding less_value_of plus minus
        less_value_is v = ap ((vectors k).◌+◌ v) (sym (modules.minus_is (vectors k) (mark_value k n θ v)))

        at_single : (t : Key) → (t.0 ≡ 0) × (length t.1.0 ≤ n + r) → I (less_value_of (single_vector k t))
        at_single t h =
            let whole = substitute_single k (variables k (n + r)) t in
            let same : single_vector k t ≡ monomial_value (vector_ring k) (variables k (n + r)) t.1.0 =
            sym (substitute_variables k (n + r) (single_vector k t) (supp_single k (λ s. s.0 ≡ 0) t h.0) (supp_single k (λ s. length s.1.0 ≤ n + r) t h.1)) ∙ whole in
            let rel = monomial_value_related (vector_ring k) Rel rel_one rel_mul (variables k (n + r)) (variables k n ++ θ) t.1.0 all_related in
            let value = substitute_single k (variables k n ++ θ) t in
            subst I (sym (less_value_is (single_vector k t) ∙ ap₂ (minus k) (same ∙ rel.2.2) value ∙ plus_then_minus _ rel.2.0)) rel.2.1

        -- a polynomial in variables and marks less its value lies in the ideal
        pub less_value : OrderOn Key → (u : Vect k) → IsMixed k n r u → I (minus k u (mark_value k n θ u))
        less_value o u h = subst I (less_value_is u)
            (linear_in_subspace k o less_value_of less_value_linear I (module_subspace k (listed k (relations k n θ))) (λ t. (t.0 ≡ 0) × (length t.1.0 ≤ n + r)) at_single u (λ t c. (h.polynomial t c, h.variables t c)))

        value_zero : mark_value k n θ (zero_vector k) ≡ zero_vector k
        value_zero = substitute_zero k (variables k n ++ θ)

        -- the value of each relation is 0
        relations_value : (j : ℕ) (fs : List (Vect k)) → ((i : ℕ) → i < length fs → image (vector_ring k) θ (j + i) ≡ listed k fs i) → ((f : Vect k) → In f fs → IsPolynomial k f × InVariables k n f) → (i : ℕ) → mark_value k n θ (listed k (relations_from k n j fs) i) ≡ zero_vector k
        relations_value j [] at each i = value_zero
        relations_value j (f ∷ fs) at each zero =
            let h = each f (inl refl) in
            let same : j + 0 ≡ j = omega arith in
            let here : image (vector_ring k) θ j ≡ f = ap (image (vector_ring k) θ) (sym same) ∙ at 0 (omega arith) in
            linear_difference (mark_value k n θ) (substitute_linear k (variables k n ++ θ)) f (variable_vector k (n + j))
            ∙ ap₂ (minus k) (mark_value_polynomial k n θ f h.0 h.1) (mark_value_mark k n θ j ∙ here) ∙ minus_self f
        relations_value j (f ∷ fs) at each (suc i) = relations_value (suc j) fs (λ m h. ap (image (vector_ring k) θ) (next j m) ∙ at (suc m) (omega arith)) (λ g p. each g (inr p)) i
          where
            next : (j m : ℕ) → suc j + m ≡ j + suc m
            next j m = omega arith

        image_listed : (fs : List (Vect k)) (i : ℕ) → i < length fs → image (vector_ring k) fs i ≡ listed k fs i
        image_listed [] i h = absurd (omega arith)
        image_listed (f ∷ fs) zero h = refl
        image_listed (f ∷ fs) (suc i) h = image_listed fs i (omega arith)

        -- the value of each element of the ideal is 0
        pub ideal_value : (u : Vect k) → I u → mark_value k n θ u ≡ zero_vector k
        ideal_value = module_ind k (listed k (relations k n θ)) (λ u. mark_value k n θ u ≡ zero_vector k) value_zero
            (λ f v i p h. substitute_plus k (variables k n ++ θ) _ v
            ∙ ap₂ (plus k) (substitute_product k (variables k n ++ θ) f _ ∙ ap (product k (mark_value k n θ f)) (relations_value 0 θ (λ j l. let z : 0 + j ≡ j = omega arith in ap (image (vector_ring k) θ) z ∙ image_listed θ j l) given i) ∙ product_zero k _) h
            ∙ plus_zero k _)

        -- the relations are the mixed elements of the ideal
        pub relations_exact : OrderOn Key → (u : Vect k) → IsRelation k n θ u ↔ (IsMixed k n (length θ) u × InModule k (listed k (relations k n θ)) u)
        relations_exact o u = (
          λ h. (h.mixed, subst I (ap (minus k u) h.value ∙ less_nothing u) (less_value o u h.mixed)),
          λ h. record { mixed = h.0; value = ideal_value u h.1 },
        )
