-- In one degree: a form is a combination over forms exactly where it lies in the span of the values of the terms of its degree.
use Rattle.std.proofs.Common.{◌≡◌, inl, inr, ℕ, ◌<◌, ◌≤◌, List, [], ◌∷◌, map, length, sym, ap, ◌∙◌, refl, subst}
use Rattle.alg_core.specs.Fields.{FieldOn, Scalar, scalars, is_field}
use Rattle.alg_core.specs.FormalSums.{FormalSum}
use Rattle.alg_core.specs.FreeModules.{class, class_cons, class_nothing}
use Rattle.alg_core.specs.Keys.{Key, key_same}
use Rattle.alg_core.specs.KeyOrders.{OrderOn}
use Rattle.alg_core.specs.CanonicalLists.{terms, class_terms}
use Rattle.alg_core.specs.Lists.{In, map_in}
use Rattle.alg_core.specs.Vectors.{Vect, vectors, plus, zero_vector}
use Rattle.poly_module.specs.Polynomials.{single_vector}
use Rattle.poly_module.specs.Parts.{Supp, supp_single}
use Rattle.poly_module.specs.Degrees.{graded_part, graded_part_supp, graded_part_graded, graded_part_all}
use Rattle.poly_module.specs.Forms.{key_weight, IsForm, AreForms, form_part}
use Rattle.poly_module.specs.Echelons.{Spans}
use Rattle.poly_module.specs.Combinations.{combination_degree, term_value, combination_value, Over}
use Rattle.alg_core.proofs.SpanLaws.{span_zero, span_add, span_act, span_member, span_ind}
use Rattle.poly_module.proofs.ModuleElements.{terms_supp}
use Rattle.poly_module.proofs.CombinationLaws.{combination_value_linear, combination_value_zero, combination_value_single, combination_value_part, over_zero, over_plus, over_act}
use Rattle.poly_module.proofs.Elimination.{span_decidable}

module _ {E : Type 0} (k : FieldOn E) (o : OrderOn Key) (θ S : List (Vect k)) where
  -- the values of the terms
  abbrev pub term_values : List Key → List (Vect k)
  term_values L = map (term_value k θ S) L

  -- the value of a sum of terms of a list
  value_in_span : (L : List Key) (l : FormalSum (Scalar k) Key) → ((e : Key × Scalar k) → In e l → In e.0 L) → Spans k (term_values L) (combination_value k θ S (class (scalars k) key_same l))
  unfolding single_vector zero_vector
  value_in_span L [] h = subst (Spans k (term_values L)) (sym (ap (combination_value k θ S) (class_nothing (scalars k) key_same) ∙ combination_value_zero k θ S)) (span_zero (vectors k) (term_values L))
  value_in_span L (e ∷ l) h = subst (Spans k (term_values L))
      (sym (ap (combination_value k θ S) (class_cons (scalars k) key_same e l) ∙ (combination_value_linear k θ S).add _ _
      ∙ ap (λ v. (vectors k).◌+◌ v (combination_value k θ S (class (scalars k) key_same l))) ((combination_value_linear k θ S).act e.1 _ ∙ ap ((vectors k).◌·◌ e.1) (combination_value_single k θ S e.0))))
      (span_add (vectors k) (term_values L) _ _ (span_act (vectors k) (term_values L) e.1 _ (span_member (vectors k) (term_values L) _ (map_in (term_value k θ S) e.0 L (h e (inl refl))))) (value_in_span L l (λ f i. h f (inr i))))

  -- a sum of multiples of values of terms of combinations is the value of a combination
  pub span_over : (L : List Key) → ((t : Key) → In t L → (length t.1.0 ≤ length θ) × (t.0 < length S)) → (f : Vect k) → Spans k (term_values L) f → Over k θ S f
  unfolding zero_vector plus
  span_over L places = span_ind (vectors k) (Over k θ S) (over_zero k θ S) plus_over (over_act k θ S) (term_values L) (λ w i. member L places w i)
    where
      plus_over : (u v : Vect k) → Over k θ S u → Over k θ S v → Over k θ S ((vectors k).◌+◌ u v)
      plus_over u v a b = over_plus k θ S u v a b

      member : (L : List Key) → ((t : Key) → In t L → (length t.1.0 ≤ length θ) × (t.0 < length S)) → (w : Vect k) → In w (term_values L) → Over k θ S w
      member [] places w i = absurd i
      member (t ∷ L) places w (inl p) = (single_vector k t, supp_single k (λ s. (length s.1.0 ≤ length θ) × (s.0 < length S)) t (places t (inl refl)), combination_value_single k θ S t ∙ p)
      member (t ∷ L) places w (inr i) = member L (λ s j. places s (inr j)) w i

  module _ (ws ds es : List ℕ) (h : AreForms k ws ds θ) (g : AreForms k ws es S) (d : ℕ) (L : List Key)
      (has : (t : Key) → length t.1.0 ≤ length θ → t.0 < length S → combination_degree ds es t ≡ d → In t L)
      (places : (t : Key) → In t L → (length t.1.0 ≤ length θ) × (t.0 < length S)) where
    -- where L lists the terms of degree d of combinations
    pub over_span : (f : Vect k) → IsForm k ws d f → Over k θ S f → Spans k (term_values L) f
    over_span f form a =
        let c : Vect k = graded_part k (combination_degree ds es) d a.0 in
        let l = terms (scalars k) (is_field k) key_same o c in
        let value : combination_value k θ S c ≡ f = sym (combination_value_part k ws ds es θ S h g d a.0 (λ t n. (a.1 t n).0)) ∙ ap (form_part k ws d) a.2 ∙ graded_part_all k (key_weight ws) d f (λ t n. (form t n).1) in
        let keys : Supp k (λ t. ((length t.1.0 ≤ length θ) × (t.0 < length S)) × (combination_degree ds es t ≡ d)) c = λ t n. (graded_part_supp k (combination_degree ds es) d (λ t. (length t.1.0 ≤ length θ) × (t.0 < length S)) a.0 a.1 t n, graded_part_graded k (combination_degree ds es) d a.0 t n) in
        subst (Spans k (term_values L)) (ap (combination_value k θ S) (class_terms (scalars k) (is_field k) key_same o c) ∙ value)
        (value_in_span L l (λ e i. let q = terms_supp k o (λ t. ((length t.1.0 ≤ length θ) × (t.0 < length S)) × (combination_degree ds es t ≡ d)) c keys e i in has e.0 q.0.0 q.0.1 q.1))

    -- so it is decided whether a form is a combination
    pub over_decidable : (f : Vect k) → IsForm k ws d f → Dec (Over k θ S f)
    over_decidable f form = go (span_decidable k o (term_values L) f)
      where
        go : Dec (Spans k (term_values L) f) → Dec (Over k θ S f)
        go (yes s) = yes (span_over L places f s)
        go (no n) = no (λ a. n (over_span f form a))
