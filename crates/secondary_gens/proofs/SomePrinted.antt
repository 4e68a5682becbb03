-- Where there is a combination, one is printed.
use Rattle.std.proofs.Common.{◌≡◌, ◌⊎◌, inl, inr, ℕ, ◌<◌, ◌≤◌, List, [], ◌∷◌, ◌++◌, length, map, refl, sym, ap, ap₂, subst, ◌∙◌, arith, append_assoc, append-nil, eq-eqb}
use Rattle.std.proofs.lemmas.List.{map-append}
use Rattle.std.specs.declared.cmp.Ordering.TheVariants.{Less}
use Rattle.alg_core.specs.Fields.{FieldOn, Scalar}
use Rattle.alg_core.specs.KeyLists.{Falls, sorted, keys_of_degree}
use Rattle.alg_core.specs.KeyOrders.{OrderOn, less_asymmetric, less_irreflexive}
use Rattle.alg_core.specs.Keys.{Key}
use Rattle.alg_core.specs.Lists.{In, in_right, map_in}
use Rattle.alg_core.specs.SpaceGrading.{AllPositive, degree}
use Rattle.alg_core.specs.SpaceOrder.{key_order}
use Rattle.alg_core.specs.Spaces.{SpaceOver}
use Rattle.alg_core.specs.Vectors.{Vect, vectors, plus, zero_vector}
use Rattle.alg_core.proofs.KeyLists.{keys_of_degree_exact, in_sorted, from_sorted, falls_sorted}
use Rattle.alg_core.proofs.Members.{in_cases, from_map}
use Rattle.alg_core.proofs.SpanLaws.{span_parts, span_one, span_nothing, span_act, span_add, span_within, span_member}
use Rattle.poly_module.specs.Choices.{IsSpannedBefore}
use Rattle.poly_module.specs.Combinations.{Over, combination_degree, combination_value, term_value}
use Rattle.poly_module.specs.Echelons.{Spans}
use Rattle.poly_module.specs.Forms.{IsForm, AreForms}
use Rattle.poly_module.specs.Parts.{Supp, supp_zero, supp_plus, supp_act, supp_single, supp_weaken}
use Rattle.poly_module.specs.Polynomials.{single_vector}
use Rattle.poly_module.proofs.CombinationLaws.{combination_value_linear, combination_value_plus, combination_value_zero, combination_value_single}
use Rattle.poly_module.proofs.Elimination.{span_decidable}
use Rattle.poly_module.proofs.OverSpans.{over_span}
use Rattle.secondary_gens.specs.Columns.{turned}
use Rattle.secondary_gens.specs.Eliminations.{IsFirstIn}
use Rattle.secondary_gens.specs.PrintedCombinations.{combination_space, IsTermBefore, IsPrintedCombination}
use Rattle.secondary_gens.proofs.ColumnSteps.{falls_back}
use Rattle.secondary_gens.proofs.Lists.{forms_length}
use Rattle.secondary_gens.proofs.OnePrinted.{term_order, before_less}

module _ {E : Type 0} (k : FieldOn E) (o : OrderOn Key) (θ S : List (Vect k)) (L : List Key) where
  abbrev value : Key → Vect k
  value = term_value k θ S

  abbrev of : Vect k → Vect k
  of = combination_value k θ S

  -- a combination of first terms with this value
  abbrev pub Chosen : Vect k → Type 0
  Chosen v = (c : Vect k) × Supp k (IsFirstIn k value L) c × (of c ≡ v)

  chosen_nothing : (v : Vect k) → Spans k [] v → Chosen v
  unfolding zero_vector
  chosen_nothing v a = (zero_vector k, supp_zero k (IsFirstIn k value L), combination_value_zero k θ S ∙ sym (span_nothing (vectors k) v a))

  -- one term more
  chosen_more : (front back : List Key) (t : Key) → L ≡ front ++ t ∷ back → ((v : Vect k) → Spans k (map value front) v → Chosen v) → (v : Vect k) → Spans k (map value (front ++ t ∷ [])) v → Chosen v
  unfolding plus
  chosen_more front back t e have v a = go (span_decidable k o (map value front) (value t))
    where
      parts : (u : Vect k) × (w : Vect k) × Spans k (map value front) u × Spans k (value t ∷ []) w × (plus k u w ≡ v)
      parts = span_parts (vectors k) (map value front) (value t ∷ []) v (subst (λ l. Spans k l v) (map-append value front (t ∷ [])) a)

      one : (c : Scalar k) × ((vectors k).◌·◌ c (value t) ≡ parts.1)
      one = span_one (vectors k) (value t) parts.1 parts.3

      go : Dec (Spans k (map value front) (value t)) → Chosen v
      go (yes s) = have v (subst (Spans k (map value front)) (ap ((vectors k).◌+◌ parts.0) one.1 ∙ parts.4) (span_add (vectors k) (map value front) _ _ parts.2 (span_act (vectors k) (map value front) one.0 _ s)))
      go (no n) =
          let r = have parts.0 parts.2 in (
            plus k r.0 ((vectors k).◌·◌ one.0 (single_vector k t)),
            supp_plus k (IsFirstIn k value L) r.0 _ r.1 (supp_act k (IsFirstIn k value L) one.0 _ (supp_single k (IsFirstIn k value L) t (front, back, e, n))),
            combination_value_plus k θ S r.0 _ ∙ ap₂ (plus k) r.2 ((combination_value_linear k θ S).act one.0 _ ∙ ap ((vectors k).◌·◌ one.0) (combination_value_single k θ S t) ∙ one.1) ∙ parts.4,
          )

  chosen_from : (front back : List Key) → L ≡ front ++ back → ((v : Vect k) → Spans k (map value front) v → Chosen v) → (v : Vect k) → Spans k (map value L) v → Chosen v
  chosen_from front [] e have v a = have v (subst (λ l. Spans k (map value l) v) (e ∙ append-nil front) a)
  chosen_from front (t ∷ back) e have v a = chosen_from (front ++ t ∷ []) back (e ∙ sym (append_assoc front (t ∷ []) back)) (chosen_more front back t e have) v a

  pub chosen_exists : (v : Vect k) → Spans k (map value L) v → Chosen v
  chosen_exists = chosen_from [] L refl chosen_nothing

module _ {E : Type 0} (k : FieldOn E) (ws ds es : List ℕ) (θ S : List (Vect k)) (h : AreForms k ws ds θ) (positive : AllPositive ds) (g : AreForms k ws es S) (d : ℕ) where
  abbrev C : SpaceOver E
  C = combination_space k ds es

  -- the terms of degree d, rising
  abbrev L : List Key
  L = sorted (turned (term_order k ds es)) (keys_of_degree C d)

  lengths : length ds ≡ length θ
  lengths = forms_length k ws ds θ h

  lengths_all : length es ≡ length S
  lengths_all = forms_length k ws es S g

  has : (t : Key) → length t.1.0 ≤ length θ → t.0 < length S → combination_degree ds es t ≡ d → In t L
  unfolding degree
  has t l q w = in_sorted (turned (term_order k ds es)) t (keys_of_degree C d)
      ((keys_of_degree_exact C positive d t).1 (record { fits = eq-eqb (length ds) (length ds) refl; variables = let n = lengths in omega arith; position = let n = lengths_all in omega arith }, w))

  inside : (t : Key) → In t L → (length t.1.0 ≤ length θ) × (t.0 < length S) × (combination_degree ds es t ≡ d)
  unfolding degree
  inside t i =
      let r = (keys_of_degree_exact C positive d t).0 (from_sorted (turned (term_order k ds es)) t (keys_of_degree C d) i) in
      let v = r.0.variables in
      let p = r.0.position in
      let n = lengths in
      let m = lengths_all in
      (omega arith, omega arith, r.1)

  -- what comes before a term stands before it in the list
  ordered : (s t : Key) (front back : List Key) → L ≡ front ++ t ∷ back → IsTermBefore k ds es s t → In s front
  ordered s t front back e b = go (in_cases s front (t ∷ back) (subst (In s) e there))
    where
      there : In s L
      there = has s (let v = b.variables in let n = lengths in omega arith) (let p = b.position in let n = lengths_all in omega arith)
          (b.degree ∙ (inside t (subst (In t) (sym e) (in_right t front (t ∷ back) (inl refl)))).2)

      less : (term_order k ds es).compare s t ≡ Less
      less = before_less k ds es s t b.before

      go : In s front ⊎ In s (t ∷ back) → In s front
      go (inl i) = i
      go (inr (inl q)) = absurd (less_irreflexive (term_order k ds es) s t (sym q) less)
      go (inr (inr i)) = absurd (less_asymmetric (term_order k ds es) s t less
          (falls_back (turned (term_order k ds es)) front t back (subst (Falls (turned (term_order k ds es))) e (falls_sorted (turned (term_order k ds es)) (keys_of_degree C d))) s i))

  place_of_first : (t : Key) → IsFirstIn k (term_value k θ S) L t → (length t.1.0 ≤ length θ) × (t.0 < length S)
  place_of_first t a = let w = inside t (subst (In t) (sym a.2) (in_right t a.0 (t ∷ a.1) (inl refl))) in (w.0, w.1)

  first_chosen : (t : Key) → IsFirstIn k (term_value k θ S) L t → ¬ IsSpannedBefore k (term_value k θ S) (IsTermBefore k ds es) t
  first_chosen t a b = a.3 (span_within (vectors k) (map (term_value k θ S) b.0) (map (term_value k θ S) a.0)
      (λ u i. let m = from_map (term_value k θ S) u b.0 i in
      subst (Spans k (map (term_value k θ S) a.0)) m.2 (span_member (vectors k) (map (term_value k θ S) a.0) _ (map_in (term_value k θ S) m.0 a.0 (ordered m.0 t a.0 a.1 a.2 (b.1 m.0 m.1)))))
      (term_value k θ S t) b.2)

  pub printed_exists : (f : Vect k) → IsForm k ws d f → Over k θ S f → (c : Vect k) × IsPrintedCombination k ds es θ S f c
  printed_exists f form over =
      let spanned = over_span k (key_order C) θ S ws ds es h g d L has (λ t i. let r = inside t i in (r.0, r.1)) f form over in
      let c = chosen_exists k (key_order C) θ S L f spanned in (
        c.0,
        record {
          combination = supp_weaken k (IsFirstIn k (term_value k θ S) L) (λ t. (length t.1.0 ≤ length θ) × (t.0 < length S)) place_of_first c.0 c.1;
          value = c.2;
          first = supp_weaken k (IsFirstIn k (term_value k θ S) L) (λ t. ¬ IsSpannedBefore k (term_value k θ S) (IsTermBefore k ds es) t) first_chosen c.0 c.1;
        },
      )
