-- Forms of degrees that do not fall, none of which is a combination over those before it: none is one over the others.
use Rattle.std.proofs.Common.{◌≡◌, ◌⊎◌, inl, inr, ℕ, zero, suc, ◌+◌, ◌-◌, ◌<◌, ◌≤◌, List, [], ◌∷◌, ◌++◌, length, map, take, drop, sym, ap, ap₂, ◌∙◌, refl, subst, arith, append_assoc, eq-eqb}
use Rattle.std.proofs.lemmas.Bool.{cases_lt}
use Rattle.std.proofs.lemmas.List.{length-append, length-drop, length-take-le, take_all, append-nil}
use Rattle.alg_core.specs.Fields.{FieldOn, Scalar, scalars, is_field}
use Rattle.alg_core.specs.Keys.{Key}
use Rattle.alg_core.specs.KeyLists.{keys_of_degree}
use Rattle.alg_core.specs.KeyOrders.{OrderOn}
use Rattle.alg_core.specs.Lists.{In, in_right}
use Rattle.alg_core.specs.ModuleLaws as modules
use Rattle.alg_core.specs.Monomials.{Mon}
use Rattle.alg_core.specs.SpaceGrading.{AllPositive, weight, height, degree}
use Rattle.alg_core.specs.Vectors.{Vect, vectors, plus, zero_vector}
use Rattle.alg_core.proofs.KeyLists.{keys_of_degree_exact}
use Rattle.alg_core.proofs.Members.{from_map}
use Rattle.alg_core.proofs.SpanLaws.{span_ind, span_zero, span_add, span_act, span_member, span_parts, span_one, span_nothing}
use Rattle.alg_core.proofs.VectorLaws.{plus_swap, plus_zero, zero_plus, plus_assoc, plus_comm}
use Rattle.poly_module.specs.Combinations.{Over, term_value, combination_degree}
use Rattle.poly_module.specs.Echelons.{Spans}
use Rattle.poly_module.specs.Forms.{IsForm, AreForms}
use Rattle.poly_module.specs.Modules.{listed}
use Rattle.poly_module.specs.Parts.{supp_single}
use Rattle.poly_module.specs.Polynomials.{product, vector_ring, single_vector}
use Rattle.poly_module.specs.Products.{one_product, ring_one}
use Rattle.poly_module.specs.Signs.{minus}
use Rattle.poly_module.specs.Substitutions.{monomial_value, monomial_value_one, substitute_single}
use Rattle.poly_module.specs.Walks.{Keeps}
use Rattle.poly_module.proofs.CombinationLaws.{over_zero, over_plus, over_act, over_product, over_member}
use Rattle.poly_module.proofs.OverSpans.{over_span}
use Rattle.poly_module.proofs.SpaceVectorLaws.{minus_unique}
use Rattle.secondary_gens.specs.PrintedCombinations.{combination_space}
use Rattle.secondary_gens.specs.Secondaries.{IsIrredundant}
use Rattle.secondary_gens.proofs.Lists.{listed_front, listed_in, over_more, over_in, forms_length, forms_at, forms_remove, height_drop, split_at, weight_zero_is_one}
use Rattle.secondary_gens.proofs.ColumnSteps.{split_append}

module _ {E : Type 0} (k : FieldOn E) (θ : List (Vect k)) where
  over_minus : (T : List (Vect k)) (u v : Vect k) → Over k θ T u → Over k θ T v → Over k θ T (minus k u v)
  unfolding minus
  over_minus T u v a b = over_plus k θ T u _ a (subst (Over k θ T) (sym (modules.minus_is (vectors k) v)) (over_act k θ T _ v b))

  -- a combination over P and a sum of multiples of U
  pub record Parted (P U : List (Vect k)) (v : Vect k) : Type 0 where
    pub over : Vect k
    pub rest : Vect k
    pub is_over : Over k θ P over
    pub spans : Spans k U rest
    pub sum : plus k over rest ≡ v

  parted_over : (P U : List (Vect k)) (v : Vect k) → Over k θ P v → Parted P U v
  unfolding zero_vector
  parted_over P U v a = record { over = v; rest = zero_vector k; is_over = a; spans = span_zero (vectors k) U; sum = plus_zero k v }

  parted_span : (P U : List (Vect k)) (v : Vect k) → Spans k U v → Parted P U v
  parted_span P U v a = record { over = zero_vector k; rest = v; is_over = over_zero k θ P; spans = a; sum = zero_plus k v }

  parted_plus : (P U : List (Vect k)) (u v : Vect k) → Parted P U u → Parted P U v → Parted P U (plus k u v)
  unfolding plus
  parted_plus P U u v a b = record {
    over = plus k a.over b.over;
    rest = plus k a.rest b.rest;
    is_over = over_plus k θ P a.over b.over a.is_over b.is_over;
    spans = span_add (vectors k) U a.rest b.rest a.spans b.spans;
    sum = plus_swap k a.over b.over a.rest b.rest ∙ ap₂ (plus k) a.sum b.sum;
  }

  parted_act : (P U : List (Vect k)) (c : Scalar k) (u : Vect k) → Parted P U u → Parted P U ((vectors k).◌·◌ c u)
  unfolding plus
  parted_act P U c u a = record {
    over = (vectors k).◌·◌ c a.over;
    rest = (vectors k).◌·◌ c a.rest;
    is_over = over_act k θ P c a.over a.is_over;
    spans = span_act (vectors k) U c a.rest a.spans;
    sum = sym ((vectors k).act_add c a.over a.rest) ∙ ap ((vectors k).◌·◌ c) a.sum;
  }

  module _ (P U : List (Vect k)) (s : Vect k) (before : ¬ Over k θ P s) (later : (n : ℕ) → n < length U → ¬ Over k θ (P ++ s ∷ take n U) (listed k U n)) where
    -- the last member of U that occurs would be a combination over those before it
    step : (n : ℕ) → n < length U → ((v : Vect k) → Parted P (take n U) v → v ≡ s → ⊥) → (a w : Vect k) (c : Scalar k) → Over k θ P a → Spans k (take n U) w
        → plus k a (plus k w ((vectors k).◌·◌ c (listed k U n))) ≡ s → Dec (c ≡ (scalars k).zero) → ⊥
    unfolding plus zero_vector
    step n l ih a w c o b e (yes z) = ih (plus k a w) (record { over = a; rest = w; is_over = o; spans = b; sum = refl })
        (ap (plus k a) (sym (ap (plus k w) (ap (λ d. (vectors k).◌·◌ d (listed k U n)) z ∙ (vectors k).zero_act _) ∙ plus_zero k w)) ∙ e)
    step n l ih a w c o b e (no m) = later n l (subst (Over k θ Q) back (over_act k θ Q ((is_field k).inverse c) _ multiple))
      where
        Q : List (Vect k)
        Q = P ++ s ∷ take n U

        in_Q : Over k θ Q w
        in_Q = span_ind (vectors k) (Over k θ Q) (over_zero k θ Q) (λ u v x y. over_plus k θ Q u v x y) (over_act k θ Q) (take n U) (λ u i. over_in k θ Q u (in_right u P (s ∷ take n U) (inr i))) w b

        v : Vect k
        v = (vectors k).◌·◌ c (listed k U n)

        multiple : Over k θ Q v
        multiple = subst (Over k θ Q) (sym (minus_unique k v s (plus k a w) (plus_comm k v (plus k a w) ∙ plus_assoc k a w v ∙ e)))
            (over_minus Q s (plus k a w) (over_in k θ Q s (in_right s P (s ∷ take n U) (inl refl))) (over_plus k θ Q a w (over_more k θ P (s ∷ take n U) a o) in_Q))

        back : (vectors k).◌·◌ ((is_field k).inverse c) v ≡ listed k U n
        back = sym ((vectors k).mul_act _ c (listed k U n)) ∙ ap (λ d. (vectors k).◌·◌ d (listed k U n)) ((scalars k).mul_comm _ c ∙ (is_field k).mul_inverse c m) ∙ (vectors k).one_act _

    front_more : (n : ℕ) → n < length U → take (suc n) U ≡ take n U ++ listed k U n ∷ []
    front_more n l = go U n l
      where
        go : (U : List (Vect k)) (n : ℕ) → n < length U → take (suc n) U ≡ take n U ++ listed k U n ∷ []
        go [] n l = absurd (omega arith)
        go (u ∷ U) zero l = refl
        go (u ∷ U) (suc n) l = ap (λ m. u ∷ m) (go U n (omega arith))

    never : (n : ℕ) → n ≤ length U → (v : Vect k) → Parted P (take n U) v → v ≡ s → ⊥
    unfolding plus zero_vector
    never zero l v p e = before (subst (Over k θ P) (sym (ap (plus k p.over) (span_nothing (vectors k) p.rest p.spans) ∙ plus_zero k p.over) ∙ p.sum ∙ e) p.is_over)
    never (suc n) l v p e =
        let parts = span_parts (vectors k) (take n U) (listed k U n ∷ []) p.rest (subst (λ m. Spans k m p.rest) (front_more n (omega arith)) p.spans) in
        let one = span_one (vectors k) (listed k U n) parts.1 parts.3 in
        step n (omega arith) (never n (omega arith)) p.over parts.0 one.0 p.is_over parts.2 (ap (λ u. plus k p.over (plus k parts.0 u)) one.1 ∙ ap (plus k p.over) parts.4 ∙ p.sum ∙ e) ((is_field k).same one.0 (scalars k).zero)

    pub never_parted : Parted P U s → ⊥
    never_parted p = never (length U) (omega arith) s (subst (λ m. Parted P m s) (sym (take_all (length U) U (omega arith))) p) refl

  module _ (o : OrderOn Key) (ws ds : List ℕ) (h : AreForms k ws ds θ) (positive : AllPositive ds) where
    module _ (P U : List (Vect k)) (s : Vect k) (ep eu : List ℕ) (d : ℕ) (gp : AreForms k ws (ep ++ eu) (P ++ U)) (same : length ep ≡ length P) (form : IsForm k ws d s) (high : (j : ℕ) → j < length U → d ≤ height eu j) where
      abbrev T : List (Vect k)
      T = P ++ U

      abbrev es : List ℕ
      es = ep ++ eu

      abbrev L : List Key
      L = keys_of_degree (combination_space k ds es) d

      lengths : length ds ≡ length θ
      lengths = forms_length k ws ds θ h

      lengths_all : length es ≡ length T
      lengths_all = forms_length k ws es T gp

      has : (t : Key) → length t.1.0 ≤ length θ → t.0 < length T → combination_degree ds es t ≡ d → In t L
      unfolding degree
      has t l q w = (keys_of_degree_exact (combination_space k ds es) positive d t).1 (record { fits = eq-eqb (length ds) (length ds) refl; variables = let n = lengths in omega arith; position = let n = lengths_all in omega arith }, w)

      inside : (t : Key) → In t L → (length t.1.0 ≤ length θ) × (t.0 < length T) × (combination_degree ds es t ≡ d)
      unfolding degree
      inside t i = let r = (keys_of_degree_exact (combination_space k ds es) positive d t).0 i in let v = r.0.variables in let p = r.0.position in let n = lengths in let m = lengths_all in (omega arith, omega arith, r.1)

      listed_back : (P U : List (Vect k)) (j : ℕ) → length P ≤ j → listed k (P ++ U) j ≡ listed k U (j - length P)
      listed_back [] U j l = let q : j ≡ j - 0 = omega arith in ap (listed k U) q
      listed_back (p ∷ P) U zero l = absurd (omega arith)
      listed_back (p ∷ P) U (suc j) l = listed_back P U j (omega arith) ∙ (let q : j - length P ≡ suc j - suc (length P) = omega arith in ap (listed k U) q)

      height_back : (ep eu : List ℕ) (j : ℕ) → length ep ≤ j → height (ep ++ eu) j ≡ height eu (j - length ep)
      unfolding height
      height_back [] eu j l = let q : j ≡ j - 0 = omega arith in ap (height eu) q
      height_back (e ∷ ep) eu zero l = absurd (omega arith)
      height_back (e ∷ ep) eu (suc j) l = height_back ep eu j (omega arith) ∙ (let q : j - length ep ≡ suc j - suc (length ep) = omega arith in ap (height eu) q)

      -- the value of a term
      parted_term : (t : Key) → In t L → (t.0 < length P) ⊎ (length P ≤ t.0) → Parted P U (term_value k θ T t)
      parted_term t i (inl l) = parted_over P U (term_value k θ T t) (subst (Over k θ P) (ap₂ (product k) (substitute_single k θ (0, t.1)) (sym (listed_front k P U t.0 l)))
          (over_product k θ P (single_vector k (0, t.1)) (listed k P t.0) (supp_single k (λ r. r.0 ≡ 0) (0, t.1) refl) (supp_single k (λ r. length r.1.0 ≤ length θ) (0, t.1) (inside t i).0) (over_member k θ P t.0 l)))
      parted_term t i (inr l) = parted_span P U (term_value k θ T t) (subst (Spans k U) (sym value) (span_member (vectors k) U _ (listed_in k U (t.0 - length P) short)))
        where
          short : t.0 - length P < length U
          short = let n = length-append P U in let q = (inside t i).1 in omega arith

          at : height es t.0 ≡ height eu (t.0 - length P)
          at = height_back ep eu t.0 (let n = same in omega arith) ∙ (let n = same in let q : t.0 - length ep ≡ t.0 - length P = omega arith in ap (height eu) q)

          none : weight ds 0 t.1.0 ≡ 0
          none = let a = at in let b = high (t.0 - length P) short in let c = (inside t i).2 in omega arith

          value : term_value k θ T t ≡ listed k U (t.0 - length P)
          value = ap₂ (product k) (ap (λ (m : Mon). monomial_value_at m) (weight_zero_is_one ds t.1 positive none) ∙ monomial_value_one (vector_ring k) θ ∙ ring_one k) (listed_back P U t.0 l) ∙ one_product k _
            where
              monomial_value_at : Mon → Vect k
              monomial_value_at m = monomial_value (vector_ring k) θ m.0

      pub parted_of : Over k θ (P ++ U) s → Parted P U s
      unfolding plus zero_vector
      parted_of a = span_ind (vectors k) (Parted P U) (parted_over P U _ (over_zero k θ P)) (λ u v x y. parted_plus P U u v x y) (parted_act P U) (map (term_value k θ T) L)
          (λ v i. let f = from_map (term_value k θ T) v L i in subst (Parted P U) f.2 (parted_term f.0 f.1 (cases_lt f.0.0 (length P)))) s
          (over_span k o θ (P ++ U) ws ds (ep ++ eu) h gp d L has (λ t i. let r = inside t i in (r.0, r.1)) s form a)

  -- none of T is a combination over those before it
  abbrev pub AreFresh : List (Vect k) → Type 0
  AreFresh T = (P : List (Vect k)) (s : Vect k) (U : List (Vect k)) → T ≡ P ++ s ∷ U → ¬ Over k θ P s

  pub fresh_none : AreFresh []
  fresh_none [] s U e = cc
  fresh_none (p ∷ P) s U e = cc

  fresh_push : (T : List (Vect k)) (x : Vect k) → AreFresh T → ¬ Over k θ T x → AreFresh (T ++ x ∷ [])
  fresh_push T x h n P s U e = go (split_append T (x ∷ []) P s U e)
    where
      last : (f : List (Vect k)) → P ≡ T ++ f → x ∷ [] ≡ f ++ s ∷ U → ¬ Over k θ P s
      last [] p q = let same : x ≡ s = cc in λ a. n (subst (Over k θ T) (sym same) (subst (λ l. Over k θ l s) (p ∙ append-nil T) a))
      last (y ∷ f) p q = absurd (none f (let tail : [] ≡ f ++ s ∷ U = cc in tail))
        where
          none : (f : List (Vect k)) → [] ≡ f ++ s ∷ U → ⊥
          none [] e = cc
          none (z ∷ f) e = cc

      go : ((b : List (Vect k)) × (T ≡ P ++ s ∷ b)) ⊎ ((f : List (Vect k)) × (P ≡ T ++ f) × (x ∷ [] ≡ f ++ s ∷ U)) → ¬ Over k θ P s
      go (inl b) = h P s b.0 b.1
      go (inr f) = last f.0 f.1 f.2

  -- what a walk keeps is fresh
  pub keeps_fresh : (kept xs all : List (Vect k)) → Keeps (Over k θ) kept xs all → AreFresh kept → AreFresh all
  keeps_fresh kept [] all h f = subst AreFresh (sym h) f
  keeps_fresh kept (x ∷ xs) all (inl h) f = keeps_fresh kept xs all h.1 f
  keeps_fresh kept (x ∷ xs) all (inr h) f = keeps_fresh (kept ++ x ∷ []) xs all h.1 (fresh_push kept x f h.0)

  -- none is a combination over the others
  pub irredundant : (o : OrderOn Key) (ws ds : List ℕ) → AreForms k ws ds θ → AllPositive ds → (es : List ℕ) (T : List (Vect k)) → AreForms k ws es T
      → ((i j : ℕ) → i ≤ j → j < length es → height es i ≤ height es j) → AreFresh T → IsIrredundant k θ T
  irredundant o ws ds h positive es T g rise fresh j l a =
      let n = forms_length k ws es T g in
      never_parted (take j T) (drop (suc j) T) (listed k T j) (fresh _ _ _ (split_at k T j l))
      (λ m q. fresh (take j T ++ listed k T j ∷ take m (drop (suc j) T)) (listed k (drop (suc j) T) m) (drop (suc m) (drop (suc j) T))
      (split_at k T j l ∙ ap (λ u. take j T ++ listed k T j ∷ u) (split_at k (drop (suc j) T) m q) ∙ sym (append_assoc (take j T) (listed k T j ∷ take m (drop (suc j) T)) _)))
      (parted_of o ws ds h positive (take j T) (drop (suc j) T) (listed k T j) (take j es) (drop (suc j) es) (height es j) (forms_remove k ws es T j g)
      (length-take-le j es (omega arith) ∙ sym (length-take-le j T (omega arith))) (forms_at k ws es T g j l)
      (λ i q. let d = length-drop (suc j) T in subst (λ m. height es j ≤ m) (sym (height_drop es (suc j) i (omega arith))) (rise j (suc j + i) (omega arith) (omega arith))) a)
