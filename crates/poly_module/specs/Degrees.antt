-- Degrees of vectors, by any function that gives each key a degree; the degree of a space is one.
--
--   IsGraded k g d v       each key of v has the degree d by g
--   graded_part k g d v    the part of v of degree d by g
--   parts_below k g n v    the sum of the parts of the degrees below n
--   IsHomogeneous S d v    each key of v has the degree d in the space S
--   part S d v             the part of v of degree d in the space S
--   IsDegree S v d         d is the greatest degree of a key of v
--   HasDegree S v          v is 0 or has a degree
use Rattle.std.specs.Prelude.{◌≡◌, ◌⊎◌, ℕ, zero, suc, ◌+◌, ◌<◌, ◌≤◌, max, [], ◌∷◌}
use Rattle.std.proofs.Common.{inl, inr}
use mathlib.Core.Path.{sym, ap, ap₂, ◌∙◌, refl, subst}
use native.Mathlib.Decide.{ℕ_discrete, dec_le}
use native.Mathlib.Omega.{arith}
use Rattle.alg_core.specs.Rings.{Linear}
use Rattle.alg_core.specs.RingLaws as rings
use Rattle.alg_core.specs.ModuleLaws as modules
use Rattle.alg_core.specs.FormalSums.{FormalSum, regular, coefficient}
use Rattle.alg_core.specs.FreeModules.{coef_class}
use Rattle.alg_core.specs.Fields.{FieldOn, Scalar, scalars, is_field}
use Rattle.alg_core.specs.Keys.{Key, key_same}
use Rattle.alg_core.specs.KeyOrders.{OrderOn}
use Rattle.alg_core.specs.CanonicalLists.{indicator_no, terms, class_terms}
use Rattle.alg_core.specs.Leads.{has_lead, HasLead}
use Rattle.alg_core.specs.Vectors.{Vect, vectors, coef_at, plus, zero_vector}
use Rattle.alg_core.specs.Spaces.{SpaceOver}
use Rattle.alg_core.specs.SpaceOrder.{key_order}
use Rattle.alg_core.specs.SpaceGrading.{degree}
use Rattle.alg_core.proofs.VectorLaws.{coef_at_ext, coef_at_plus, coef_at_zero}
use Rattle.poly_module.specs.Polynomials.{single_vector}
use Rattle.poly_module.specs.Parts.{Supp, supp_single, supp_outside, select, select_linear, select_all, select_none, select_inside, select_outside, supp_select, select_supp, linear_unique_supp}

module _ {E : Type 0} (k : FieldOn E) (g : Key → ℕ) where
  -- each key has the degree d
  abbrev pub IsGraded : ℕ → Vect k → Type 0
  IsGraded d v = Supp k (λ t. g t ≡ d) v

  abbrev pub has_grade : (d : ℕ) (t : Key) → Dec (g t ≡ d)
  has_grade d t = ℕ_discrete (g t) d

  -- the part of degree d
  unfoldable pub graded_part : ℕ → Vect k → Vect k
  graded_part d = select k (has_grade d)

  -- the sum of the parts of the degrees below n
  abbrev pub parts_below : ℕ → Vect k → Vect k
  parts_below zero v = zero_vector k
  parts_below (suc n) v = plus k (parts_below n v) (graded_part n v)

  pub graded_part_linear : (d : ℕ) → Linear (vectors k) (vectors k) (graded_part d)
  unfolding graded_part
  graded_part_linear d = select_linear k (has_grade d)

  pub graded_part_plus : (d : ℕ) (u v : Vect k) → graded_part d (plus k u v) ≡ plus k (graded_part d u) (graded_part d v)
  unfolding plus
  graded_part_plus d = (graded_part_linear d).add

  pub graded_part_zero : (d : ℕ) → graded_part d (zero_vector k) ≡ zero_vector k
  unfolding zero_vector
  graded_part_zero d = modules.linear_zero (vectors k) (vectors k) (graded_part d) (graded_part_linear d)

  -- the coefficients of a part
  pub graded_part_inside : (d : ℕ) (v : Vect k) (t : Key) → g t ≡ d → coef_at k (graded_part d v) t ≡ coef_at k v t
  unfolding graded_part
  graded_part_inside d v t = select_inside k (has_grade d) v t

  pub graded_part_outside : (d : ℕ) (v : Vect k) (t : Key) → ¬ (g t ≡ d) → coef_at k (graded_part d v) t ≡ (scalars k).zero
  unfolding graded_part
  graded_part_outside d v t = select_outside k (has_grade d) v t

  -- a part has its degree, and every property of the keys of the vector
  pub graded_part_graded : (d : ℕ) (v : Vect k) → IsGraded d (graded_part d v)
  unfolding graded_part
  graded_part_graded d v = supp_select k (has_grade d) v

  pub graded_part_supp : (d : ℕ) (P : Key → Type 0) (v : Vect k) → Supp k P v → Supp k P (graded_part d v)
  unfolding graded_part
  graded_part_supp d P v = select_supp k (has_grade d) P v

  pub graded_part_all : (d : ℕ) (v : Vect k) → IsGraded d v → graded_part d v ≡ v
  unfolding graded_part
  graded_part_all d v = select_all k (has_grade d) v

  pub graded_part_other : (d e : ℕ) → ¬ (d ≡ e) → (v : Vect k) → IsGraded e v → graded_part d v ≡ zero_vector k
  unfolding graded_part
  graded_part_other d e n v = select_none k (has_grade d) (λ t. g t ≡ e) (λ t p q. n (sym q ∙ p)) v

  -- of two degrees only 0
  pub graded_twice : (d e : ℕ) → ¬ (d ≡ e) → (v : Vect k) → IsGraded d v → IsGraded e v → v ≡ zero_vector k
  graded_twice d e n v h j = sym (graded_part_all d v h) ∙ graded_part_other d e n v j

  -- a vector is the sum of its parts
  parts_outside : (n : ℕ) (v : Vect k) (t : Key) → n ≤ g t → coef_at k (parts_below n v) t ≡ (scalars k).zero
  parts_outside zero v t h = coef_at_zero k t
  parts_outside (suc n) v t h = coef_at_plus k _ _ t ∙ ap₂ (scalars k).◌+◌ (parts_outside n v t (omega arith)) (graded_part_outside n v t (λ e. omega arith)) ∙ (scalars k).add_zero _

  parts_inside : (n : ℕ) (v : Vect k) (t : Key) → g t < n → coef_at k (parts_below n v) t ≡ coef_at k v t
  parts_inside zero v t h = absurd (omega arith)
  parts_inside (suc n) v t h = coef_at_plus k _ _ t ∙ go (has_grade n t) (parts_inside n v t)
    where
      go : Dec (g t ≡ n) → (g t < n → coef_at k (parts_below n v) t ≡ coef_at k v t) → (scalars k).◌+◌ (coef_at k (parts_below n v) t) (coef_at k (graded_part n v) t) ≡ coef_at k v t
      go (yes e) ih = ap₂ (scalars k).◌+◌ (parts_outside n v t (omega arith)) (graded_part_inside n v t e) ∙ rings.zero_add (scalars k) _
      go (no d) ih = ap₂ (scalars k).◌+◌ (ih (omega arith)) (graded_part_outside n v t d) ∙ (scalars k).add_zero _

  pub parts_sum : (n : ℕ) (v : Vect k) → Supp k (λ t. g t < n) v → parts_below n v ≡ v
  parts_sum n v h = coef_at_ext k _ _ (λ t. go t (dec_le (suc (g t)) n))
    where
      go : (t : Key) → Dec (suc (g t) ≤ n) → coef_at k (parts_below n v) t ≡ coef_at k v t
      go t (yes p) = parts_inside n v t (omega arith)
      go t (no p) = parts_outside n v t (omega arith) ∙ sym (supp_outside k (λ s. g s < n) v h t (λ q. p (omega arith)))

  -- a bound on the degrees, from the list of the terms
  bound : FormalSum (Scalar k) Key → ℕ
  bound [] = 0
  bound (e ∷ l) = max (suc (g e.0)) (bound l)

  bound_coefficient : (l : FormalSum (Scalar k) Key) (t : Key) → ¬ (coefficient (scalars k) key_same l t ≡ (scalars k).zero) → g t < bound l
  unfolding bound regular
  bound_coefficient [] t n = absurd (n refl)
  bound_coefficient (e ∷ l) t n = go (key_same e.0 t) (bound_coefficient l t)
    where
      go : Dec (e.0 ≡ t) → (¬ (coefficient (scalars k) key_same l t ≡ (scalars k).zero) → g t < bound l) → g t < max (suc (g e.0)) (bound l)
      go (yes p) ih = let q : g e.0 ≡ g t = ap g p in omega arith
      go (no p) ih = let r = ih (λ z. n (ap₂ (scalars k).◌+◌ (ap ((scalars k).◌*◌ e.1) (indicator_no (scalars k) (key_same e.0 t) p) ∙ rings.mul_zero (scalars k) e.1) z ∙ (scalars k).add_zero _)) in omega arith

  pub grade_bound : OrderOn Key → (v : Vect k) → (n : ℕ) × Supp k (λ t. g t < n) v
  unfolding coef_at
  grade_bound o v =
      let l = terms (scalars k) (is_field k) key_same o v in
      (bound l, λ t n. bound_coefficient l t (λ z. n (ap (λ w. coef_at k w t) (sym (class_terms (scalars k) (is_field k) key_same o v)) ∙ coef_class (scalars k) key_same l t ∙ z)))

module _ {E : Type 0} (k : FieldOn E) where
  linear_nothing : (f : Vect k → Vect k) → Linear (vectors k) (vectors k) f → f (zero_vector k) ≡ zero_vector k
  unfolding zero_vector
  linear_nothing f lf = modules.linear_zero (vectors k) (vectors k) f lf

  nothing_linear : Linear (vectors k) (vectors k) (λ v. zero_vector k)
  unfolding zero_vector
  nothing_linear = record { add = λ x y. sym ((vectors k).add_zero _); act = λ c x. sym (modules.act_zero (vectors k) c) }

module _ {E : Type 0} (k : FieldOn E) (g g' : Key → ℕ) (h : ℕ) (f : Vect k → Vect k) (lf : Linear (vectors k) (vectors k) f)
    (Q : Key → Type 0) (each : (t : Key) → Q t → IsGraded k g' (h + g t) (f (single_vector k t))) where
  -- a linear function that raises degrees by h takes parts to parts
  pub graded_map : (d : ℕ) (v : Vect k) → Supp k Q v → graded_part k g' (h + d) (f v) ≡ f (graded_part k g d v)
  graded_map d = linear_unique_supp k (vectors k) (λ v. graded_part k g' (h + d) (f v)) (λ v. f (graded_part k g d v))
      (modules.linear_after (vectors k) (vectors k) (vectors k) f (graded_part k g' (h + d)) lf (graded_part_linear k g' (h + d)))
      (modules.linear_after (vectors k) (vectors k) (vectors k) (graded_part k g d) f (graded_part_linear k g d) lf)
      Q (λ t q. at t q (has_grade k g d t))
    where
      at : (t : Key) → Q t → Dec (g t ≡ d) → graded_part k g' (h + d) (f (single_vector k t)) ≡ f (graded_part k g d (single_vector k t))
      at t q (yes e) = graded_part_all k g' (h + d) _ (subst (λ n. IsGraded k g' (h + n) (f (single_vector k t))) e (each t q)) ∙ ap f (sym (graded_part_all k g d _ (supp_single k (λ s. g s ≡ d) t e)))
      at t q (no n) = graded_part_other k g' (h + d) (h + g t) (λ e. n (omega arith)) _ (each t q)
          ∙ sym (ap f (graded_part_other k g d (g t) (λ e. n (sym e)) _ (supp_single k (λ s. g s ≡ g t) t refl)) ∙ map_zero)
        where
          map_zero : f (zero_vector k) ≡ zero_vector k
          map_zero = linear_nothing k f lf

  -- and has no part of a degree below h
  pub graded_map_below : (d : ℕ) → d < h → (v : Vect k) → Supp k Q v → graded_part k g' d (f v) ≡ zero_vector k
  graded_map_below d low = linear_unique_supp k (vectors k) (λ v. graded_part k g' d (f v)) (λ v. zero_vector k)
      (modules.linear_after (vectors k) (vectors k) (vectors k) f (graded_part k g' d) lf (graded_part_linear k g' d))
      (nothing_linear k)
      Q (λ t q. graded_part_other k g' d (h + g t) (λ e. omega arith) _ (each t q))

module _ {E : Type 0} (S : SpaceOver E) where
  -- each key has the degree d in the space
  abbrev pub IsHomogeneous : ℕ → Vect S.field → Type 0
  IsHomogeneous = IsGraded S.field (degree S)

  -- the part of degree d in the space
  abbrev pub part : ℕ → Vect S.field → Vect S.field
  part = graded_part S.field (degree S)

  -- the greatest degree of a key
  pub record IsDegree (v : Vect S.field) (d : ℕ) : Type 0 where
    pub reached : (t : Key) × (degree S t ≡ d) × ¬ (coef_at S.field v t ≡ (scalars S.field).zero)
    pub most : Supp S.field (λ t. degree S t ≤ d) v

  -- v is 0 or has a degree
  abbrev pub HasDegree : Vect S.field → Type 0
  HasDegree v = (v ≡ zero_vector S.field) ⊎ ((d : ℕ) × IsDegree v d)

  pub degree_unique : (v : Vect S.field) (d e : ℕ) → IsDegree v d → IsDegree v e → d ≡ e
  degree_unique v d e a b =
      let p = b.most a.reached.0 a.reached.2 in
      let q = a.most b.reached.0 b.reached.2 in
      let r = a.reached.1 in
      let s = b.reached.1 in
      omega arith

  has_degree_below : (n : ℕ) (v : Vect S.field) → Supp S.field (λ t. degree S t < n) v → HasDegree v
  unfolding zero_vector coef_at
  has_degree_below zero v h = inl (coef_at_ext S.field v _ (λ t. supp_outside S.field (λ s. degree S s < 0) v h t (λ q. omega arith) ∙ sym (coef_at_zero S.field t)))
  has_degree_below (suc n) v h = go (has_lead (scalars S.field) (is_field S.field) key_same (key_order S) (part n v)) (has_degree_below n v)
    where
      lower : part n v ≡ zero_vector S.field → Supp S.field (λ t. degree S t < n) v
      lower z t c =
          let low = h t c in
          let other : ¬ (degree S t ≡ n) = λ e. c (sym (graded_part_inside S.field (degree S) n v t e) ∙ ap (λ w. coef_at S.field w t) z ∙ coef_at_zero S.field t) in
          omega arith

      here : (t : Key) → ¬ (coef_at S.field (part n v) t ≡ (scalars S.field).zero) → IsDegree v n
      here t c =
          let e = graded_part_graded S.field (degree S) n v t c in
          record { reached = (t, e, λ z. c (graded_part_inside S.field (degree S) n v t e ∙ z)); most = λ s d. let low = h s d in omega arith }

      go : HasLead (scalars S.field) (is_field S.field) key_same (key_order S) (part n v) → (Supp S.field (λ t. degree S t < n) v → HasDegree v) → HasDegree v
      go (inl z) ih = ih (lower z)
      go (inr l) ih = inr (n, here l.0 l.1.there)

  -- each vector is 0 or has a degree
  pub has_degree : (v : Vect S.field) → HasDegree v
  has_degree v = let b = grade_bound S.field (degree S) (key_order S) v in has_degree_below b.0 v b.1
