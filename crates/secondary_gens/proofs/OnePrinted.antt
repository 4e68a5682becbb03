-- There is one printed combination.
use Rattle.std.proofs.Common.{◌≡◌, ◌⊎◌, inl, inr, ℕ, ◌<◌, ◌≤◌, List, [], ◌∷◌, length, map, refl, sym, ap, subst, ◌∙◌, arith}
use Rattle.std.specs.declared.cmp.Ordering.{Ordering}
use Rattle.std.specs.declared.cmp.Ordering.TheVariants.{Less, Equal, Greater}
use Rattle.std.specs.Ordering.{nat_cmp, on, then_cmp, ordering_then}
use Rattle.std.proofs.lemmas.Bool.Decides.{nat_tests}
use Rattle.std.proofs.lemmas.Cmp.{on_total, then_total, nat_cmp_total}
use Rattle.std.proofs.lemmas.Map.Lookups.{exact_unsigned}
use Rattle.alg_core.specs.CanonicalLists.{IsCanonical, AllBelow, terms, class_terms, terms_canonical}
use Rattle.alg_core.specs.DpOrder.{then_tied}
use Rattle.alg_core.specs.Fields.{FieldOn, Scalar, scalars, is_field}
use Rattle.alg_core.specs.FormalSums.{FormalSum}
use Rattle.alg_core.specs.FreeModules.{class, class_cons, class_nothing}
use Rattle.alg_core.specs.KeyOrders.{OrderOn}
use Rattle.alg_core.specs.Keys.{Key, key_same}
use Rattle.alg_core.specs.Lists.{In, map_in}
use Rattle.alg_core.specs.SpaceOrder.{key_order}
use Rattle.alg_core.specs.Vectors.{Vect, vectors, coef_at, plus, zero_vector}
use Rattle.alg_core.proofs.Members.{from_map}
use Rattle.alg_core.proofs.SpanLaws.{span_zero, span_add, span_act, span_minus, span_member}
use Rattle.alg_core.proofs.VectorLaws.{coef_at_ext, plus_comm, plus_cancel, plus_zero, zero_plus}
use Rattle.poly_module.specs.Choices.{IsSpannedBefore}
use Rattle.poly_module.specs.Combinations.{combination_degree, combination_value, term_value}
use Rattle.poly_module.specs.Degrees.{graded_part, graded_part_zero, graded_part_supp, graded_part_graded, graded_part_inside}
use Rattle.poly_module.specs.Echelons.{Spans}
use Rattle.poly_module.specs.Forms.{AreForms, key_weight, form_part}
use Rattle.poly_module.specs.Parts.{Supp}
use Rattle.poly_module.specs.Polynomials.{single_vector}
use Rattle.poly_module.specs.Signs.{minus}
use Rattle.poly_module.proofs.CombinationLaws.{combination_value_linear, combination_value_plus, combination_value_zero, combination_value_single, combination_value_part}
use Rattle.poly_module.proofs.ModuleElements.{terms_supp}
use Rattle.poly_module.proofs.SpaceVectorLaws.{minus_plus, minus_unique, supp_minus}
use Rattle.secondary_gens.specs.PrintedCombinations.{combination_space, IsTermBefore, IsPrintedCombination}
use Rattle.secondary_gens.proofs.Lists.{forms_length}

-- by position, then as in the space of combinations
module _ {E : Type 0} (k : FieldOn E) (ds es : List ℕ) where
  abbrev order : OrderOn Key
  order = key_order (combination_space k ds es)

  abbrev pub term_order : OrderOn Key
  term_order = record {
    compare = then_cmp (on (λ (t : Key). t.0) nat_cmp) order.compare;
    total = then_total (on_total (λ (t : Key). t.0) nat_cmp_total) order.total;
    tied = λ s t e. order.tied s t (then_tied (nat_cmp s.0 t.0) (order.compare s t) e).1;
  }

  less_either : (m n : ℕ) (r : Ordering) → ordering_then (nat_cmp m n) r ≡ Less → (m < n) ⊎ ((m ≡ n) × (r ≡ Less))
  less_either m n r e = go (nat_cmp m n) refl e
    where
      go : (o : Ordering) → nat_cmp m n ≡ o → ordering_then o r ≡ Less → (m < n) ⊎ ((m ≡ n) × (r ≡ Less))
      go Less p q = inl (grind (arith, nat_tests))
      go Equal p q = inr (exact_unsigned m n p, q)
      go Greater p q = absurd cc

  pub term_before : (s t : Key) → term_order.compare s t ≡ Less → (s.0 < t.0) ⊎ ((s.0 ≡ t.0) × (order.compare s t ≡ Less))
  term_before s t e = less_either s.0 t.0 (order.compare s t) e

  either_less : (m n : ℕ) (r : Ordering) → (m < n) ⊎ ((m ≡ n) × (r ≡ Less)) → ordering_then (nat_cmp m n) r ≡ Less
  either_less m n r (inl l) = let e : nat_cmp m n ≡ Less = grind (arith, nat_tests) in ap (λ o. ordering_then o r) e
  either_less m n r (inr e) = let q : nat_cmp m n ≡ Equal = grind (arith, nat_tests) in ap (λ o. ordering_then o r) q ∙ e.1

  pub before_less : (s t : Key) → (s.0 < t.0) ⊎ ((s.0 ≡ t.0) × (order.compare s t ≡ Less)) → term_order.compare s t ≡ Less
  before_less s t e = either_less s.0 t.0 (order.compare s t) e

module _ {E : Type 0} (k : FieldOn E) (o : OrderOn Key) (θ S : List (Vect k)) where
  abbrev value : Key → Vect k
  value = term_value k θ S

  abbrev of : Vect k → Vect k
  of = combination_value k θ S

  abbrev sum : FormalSum (Scalar k) Key → Vect k
  sum l = class (scalars k) key_same l

  value_cons : (e : Key × Scalar k) (l : FormalSum (Scalar k) Key) → of (sum (e ∷ l)) ≡ (vectors k).◌+◌ ((vectors k).◌·◌ e.1 (value e.0)) (of (sum l))
  unfolding single_vector
  value_cons e l = ap of (class_cons (scalars k) key_same e l) ∙ (combination_value_linear k θ S).add _ _
      ∙ ap (λ v. (vectors k).◌+◌ v (of (sum l))) ((combination_value_linear k θ S).act e.1 _ ∙ ap ((vectors k).◌·◌ e.1) (combination_value_single k θ S e.0))

  -- the value of a sum of terms lies in the span of their values
  value_spanned : (L : List Key) (l : FormalSum (Scalar k) Key) → ((e : Key × Scalar k) → In e l → In e.0 L) → Spans k (map value L) (of (sum l))
  unfolding single_vector zero_vector
  value_spanned L [] h = subst (Spans k (map value L)) (sym (ap of (class_nothing (scalars k) key_same) ∙ combination_value_zero k θ S)) (span_zero (vectors k) (map value L))
  value_spanned L (e ∷ l) h = subst (Spans k (map value L)) (sym (value_cons e l))
      (span_add (vectors k) (map value L) _ _ (span_act (vectors k) (map value L) e.1 _ (span_member (vectors k) (map value L) _ (map_in value e.0 L (h e (inl refl))))) (value_spanned L l (λ f i. h f (inr i))))

  all_below : (t : Key) (l : FormalSum (Scalar k) Key) → AllBelow (scalars k) (is_field k) key_same o t l → (e : Key × Scalar k) → In e l → o.compare e.0 t ≡ Less
  all_below t [] h e i = absurd i
  all_below t (f ∷ l) h e (inl p) = subst (λ (g : Key × Scalar k). o.compare g.0 t ≡ Less) p h.0
  all_below t (f ∷ l) h e (inr i) = all_below t l h.1 e i

  -- where the value is 0, that of the first term lies in the span of those of the others
  head_spanned : (e : Key × Scalar k) (l : FormalSum (Scalar k) Key) → ¬ (e.1 ≡ (scalars k).zero) → of (sum (e ∷ l)) ≡ zero_vector k → Spans k (map value (map (λ (f : Key × Scalar k). f.0) l)) (value e.0)
  unfolding minus plus zero_vector
  head_spanned e l n z = subst (Spans k rest) back (span_act (vectors k) rest ((is_field k).inverse e.1) _ (subst (Spans k rest) (sym opposite) (span_add (vectors k) rest _ _ (span_zero (vectors k) rest) (span_minus (vectors k) rest _ others))))
    where
      rest : List (Vect k)
      rest = map value (map (λ (f : Key × Scalar k). f.0) l)

      others : Spans k rest (of (sum l))
      others = value_spanned (map (λ (f : Key × Scalar k). f.0) l) l (λ f i. map_in (λ (f : Key × Scalar k). f.0) f l i)

      opposite : (vectors k).◌·◌ e.1 (value e.0) ≡ minus k (zero_vector k) (of (sum l))
      opposite = minus_unique k _ (zero_vector k) (of (sum l)) (sym (value_cons e l) ∙ z)

      back : (vectors k).◌·◌ ((is_field k).inverse e.1) ((vectors k).◌·◌ e.1 (value e.0)) ≡ value e.0
      back = sym ((vectors k).mul_act _ e.1 (value e.0)) ∙ ap (λ c. (vectors k).◌·◌ c (value e.0)) ((scalars k).mul_comm _ e.1 ∙ (is_field k).mul_inverse e.1 n) ∙ (vectors k).one_act _

  -- a vector with the value 0 is 0 where the value of none of its keys lies in the span of those of smaller ones
  pub only_zero : (Q : Key → Type 0) → ((t : Key) → Q t → (ts : List Key) → ((s : Key) → In s ts → Q s × (o.compare s t ≡ Less)) → ¬ Spans k (map value ts) (value t))
      → (c : Vect k) → Supp k Q c → of c ≡ zero_vector k → c ≡ zero_vector k
  unfolding zero_vector
  only_zero Q first c q z = go (terms (scalars k) (is_field k) key_same o c) (terms_canonical (scalars k) (is_field k) key_same o c) (class_terms (scalars k) (is_field k) key_same o c) (terms_supp k o Q c q)
    where
      go : (l : FormalSum (Scalar k) Key) → IsCanonical (scalars k) (is_field k) key_same o l → sum l ≡ c → ((e : Key × Scalar k) → In e l → Q e.0) → c ≡ zero_vector k
      go [] h e i = sym e ∙ class_nothing (scalars k) key_same
      go (x ∷ l) h e i = absurd (first x.0 (i x (inl refl)) (map (λ (f : Key × Scalar k). f.0) l) smaller (head_spanned x l h.0 (ap of e ∙ z)))
        where
          smaller : (s : Key) → In s (map (λ (f : Key × Scalar k). f.0) l) → Q s × (o.compare s x.0 ≡ Less)
          smaller s m = let f = from_map (λ (f : Key × Scalar k). f.0) s l m in (subst Q f.2 (i f.0 (inr f.1)), subst (λ u. o.compare u x.0 ≡ Less) f.2 (all_below x.0 l h.1 f.0 f.1))

module _ {E : Type 0} (k : FieldOn E) (ws ds es : List ℕ) (θ S : List (Vect k)) (h : AreForms k ws ds θ) (g : AreForms k ws es S) where
  abbrev grade : Key → ℕ
  grade = combination_degree ds es

  abbrev Place : Key → Type 0
  Place t = (length t.1.0 ≤ length θ) × (t.0 < length S)

  abbrev First : Key → Type 0
  First t = ¬ IsSpannedBefore k (term_value k θ S) (IsTermBefore k ds es) t

  -- the combination 0 alone has the value 0 and uses first terms alone, by parts
  zero_alone : (c : Vect k) → Supp k Place c → Supp k First c → combination_value k θ S c ≡ zero_vector k → c ≡ zero_vector k
  zero_alone c places first z = coef_at_ext k c (zero_vector k) (λ t. sym (graded_part_inside k grade (grade t) c t refl) ∙ ap (λ v. coef_at k v t) (none (grade t)))
    where
      Chosen : ℕ → Key → Type 0
      Chosen n t = Place t × (grade t ≡ n) × First t

      chosen : (n : ℕ) (t : Key) → Chosen n t → (ts : List Key) → ((s : Key) → In s ts → Chosen n s × ((term_order k ds es).compare s t ≡ Less)) → ¬ Spans k (map (term_value k θ S) ts) (term_value k θ S t)
      chosen n t q ts all = λ a. q.2 (ts, λ s i. before s (all s i), a)
        where
          before : (s : Key) → Chosen n s × ((term_order k ds es).compare s t ≡ Less) → IsTermBefore k ds es s t
          before s r = record {
            variables = let v = r.0.0.0 in let l = forms_length k ws ds θ h in omega arith;
            position = let p = r.0.0.1 in let l = forms_length k ws es S g in omega arith;
            degree = r.0.1 ∙ sym q.1;
            before = term_before k ds es s t r.1;
          }

      none : (n : ℕ) → graded_part k grade n c ≡ zero_vector k
      none n = only_zero k (term_order k ds es) θ S (Chosen n) (chosen n) (graded_part k grade n c)
          (λ t m. (graded_part_supp k grade n Place c places t m, graded_part_graded k grade n c t m, graded_part_supp k grade n First c first t m))
          (sym (combination_value_part k ws ds es θ S h g n c (λ t m. (places t m).0)) ∙ ap (form_part k ws n) z ∙ graded_part_zero k (key_weight ws) n)

  pub printed_unique : (f c d : Vect k) → IsPrintedCombination k ds es θ S f c → IsPrintedCombination k ds es θ S f d → c ≡ d
  printed_unique f c d a b = sym (minus_plus k c d) ∙ ap (λ e. plus k e d) same ∙ zero_plus k d
    where
      value : combination_value k θ S (minus k c d) ≡ zero_vector k
      value = plus_cancel k (combination_value k θ S d) _ (zero_vector k)
          (plus_comm k _ _ ∙ sym (combination_value_plus k θ S (minus k c d) d) ∙ ap (combination_value k θ S) (minus_plus k c d) ∙ a.value ∙ sym b.value ∙ sym (plus_zero k _))

      same : minus k c d ≡ zero_vector k
      same = zero_alone (minus k c d) (supp_minus k Place c d a.combination b.combination) (supp_minus k First c d a.first b.first) value
