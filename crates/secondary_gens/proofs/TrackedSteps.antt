-- Elimination that keeps the combinations of its rows, and the combination that is printed.
use Rattle.std.proofs.Common.{◌≡◌, ℕ, zero, suc, ◌+◌, ◌<◌, ◌≤◌, ◌⊎◌, inl, inr, List, [], ◌∷◌, ◌++◌, length, map, get_or, take, drop, refl, sym, ap, ap₂, subst, ◌∙◌, arith}
use Rattle.std.specs.Prelude.{All}
use Rattle.std.proofs.lemmas.List.{take_more, take_all, map-append, take-append-drop, drop_more, take-map, length-append}
use Rattle.std.proofs.lemmas.List.Elements.{All-nil, All-push}
use Rattle.alg_core.specs.Fields.{FieldOn, Scalar, scalar, scalars}
use Rattle.alg_core.specs.Keys.{Key}
use Rattle.alg_core.specs.Lists.{In, in_right, map_in}
use Rattle.alg_core.specs.ModuleLaws as modules
use Rattle.alg_core.specs.Spans.{combine}
use Rattle.alg_core.specs.SpaceOrder.{key_order}
use Rattle.alg_core.specs.Spaces.{SpaceOver}
use Rattle.alg_core.specs.Vectors.{Vect, vectors, coef_at, plus, zero_vector}
use Rattle.alg_core.specs.declared.term.Term.{Term}
use Rattle.alg_core.proofs.Members.{in_cases, from_map}
use Rattle.alg_core.proofs.SpanLaws.{span_member, span_within}
use Rattle.poly_module.specs.Choices.{IsSpannedBefore}
use Rattle.poly_module.specs.Combinations.{term_value, combination_value}
use Rattle.poly_module.specs.Echelons.{Spans}
use Rattle.poly_module.specs.Parts.{Supp, supp_single, supp_act, supp_weaken, supp_zero, supp_plus}
use Rattle.poly_module.specs.Polynomials.{single_vector}
use Rattle.poly_module.specs.Signs.{minus}
use Rattle.poly_module.specs.SpaceVectors.{vector_of}
use Rattle.poly_module.proofs.CombinationLaws.{combination_value_linear, combination_value_single}
use Rattle.poly_module.proofs.SpaceVectorLaws.{minus_unique, supp_minus}
use Rattle.secondary_gens.specs.Columns.{key_of, keys_of, IsColumns}
use Rattle.secondary_gens.specs.declared.columns.Column.{Column}
use Rattle.secondary_gens.specs.declared.elimination.Row.{Row}
use Rattle.secondary_gens.specs.Eliminations.{Line, vectors_in, IsReducedBy, IsEchelonOf, IsFirstIn, IsTracked, IsRowOver, line_of, lines_of}
use Rattle.secondary_gens.specs.PrintedCombinations.{IsTermBefore, IsPrintedCombination}
use Rattle.secondary_gens.proofs.OverInDegree.{InDegree}
use Rattle.secondary_gens.proofs.Triangular.{fresh, echelon_same, echelon_more}

-- equal values of the members at one place
map_at : {A B : Type 0} (f g : A → B) (l : List A) (i : ℕ) (x : A) → map f l ≡ map g l → i < length l → x ≡ get_or l i x → f x ≡ g x
map_at f g [] i x e h r = absurd (omega arith)
map_at f g (y ∷ l) zero x e h r = let heads : f y ≡ g y = cc in ap f r ∙ heads ∙ sym (ap g r)
map_at f g (y ∷ l) (suc i) x e h r = let tails : map f l ≡ map g l = cc in map_at f g l i x tails (omega arith) r

map_map : {A B C : Type 0} (f : A → B) (g : B → C) (l : List A) → map g (map f l) ≡ map (λ a. g (f a)) l
map_map f g [] = refl
map_map f g (x ∷ l) = ap (λ m. g (f x) ∷ m) (map_map f g l)

module _ {E : Type 0} (k : FieldOn E) (θ T : List (Vect k)) (K : List Key) where
  abbrev value : Key → Vect k
  value = term_value k θ T

  abbrev of : Vect k → Vect k
  of = combination_value k θ T

  of_combine : (fs : List (Scalar k)) (cs : List (Vect k)) → of (combine (vectors k) fs cs) ≡ combine (vectors k) fs (map of cs)
  of_combine [] cs = modules.linear_zero (vectors k) (vectors k) of (combination_value_linear k θ T)
  of_combine (f ∷ fs) [] = modules.linear_zero (vectors k) (vectors k) of (combination_value_linear k θ T)
  of_combine (f ∷ fs) (c ∷ cs) = (combination_value_linear k θ T).add _ _ ∙ ap₂ (vectors k).◌+◌ ((combination_value_linear k θ T).act f c) (of_combine fs cs)

  of_minus : (u v : Vect k) → of (minus k u v) ≡ minus k (of u) (of v)
  unfolding minus plus
  of_minus u v = (combination_value_linear k θ T).add _ _ ∙ ap ((vectors k).◌+◌ (of u)) (modules.linear_minus (vectors k) (vectors k) of (combination_value_linear k θ T) v)

  -- the keys of a sum of multiples
  first_combine : (cs : List (Vect k)) → ((c : Vect k) → In c cs → Supp k (IsFirstIn k value K) c) → (fs : List (Scalar k)) → Supp k (IsFirstIn k value K) (combine (vectors k) fs cs)
  unfolding zero_vector plus
  first_combine cs h [] = supp_zero k (IsFirstIn k value K)
  first_combine [] h (f ∷ fs) = supp_zero k (IsFirstIn k value K)
  first_combine (c ∷ cs) h (f ∷ fs) = supp_plus k (IsFirstIn k value K) _ _ (supp_act k (IsFirstIn k value K) f c (h c (inl refl))) (first_combine cs (λ b i. h b (inr i)) fs)

  -- one row more, with its combination
  pub tracked_more : (ls : List (Line k)) (cs : List (Vect k)) (v w : Vect k) (fs : List (Scalar k)) (b : Scalar k) (p t : Key) (x c : Vect k) → IsReducedBy k ls v w fs
      → x ≡ (vectors k).◌·◌ b w → c ≡ (vectors k).◌·◌ b (minus k (single_vector k t) (combine (vectors k) fs cs)) → v ≡ value t → IsFirstIn k value K t
      → IsTracked k value K of ls cs → IsTracked k value K of (ls ++ (p, x) ∷ []) (cs ++ c ∷ [])
  tracked_more ls cs v w fs b p t x c r is made term first was = record {
    values = map-append of cs (c ∷ []) ∙ ap₂ (λ l u. l ++ u ∷ []) was.values here ∙ sym (map-append (λ (l : Line k). l.1) ls ((p, x) ∷ []));
    first = λ d i. go d (in_cases d cs (c ∷ []) i);
  }
    where
      here : of c ≡ x
      here = ap of made ∙ (combination_value_linear k θ T).act b _
          ∙ ap ((vectors k).◌·◌ b) (of_minus _ _ ∙ ap₂ (minus k) (combination_value_single k θ T t ∙ sym term) (of_combine fs cs ∙ ap (combine (vectors k) fs) was.values) ∙ sym (minus_unique k w v _ r.sum)) ∙ sym is

      own : Supp k (IsFirstIn k value K) c
      own = subst (Supp k (IsFirstIn k value K)) (sym made) (supp_act k (IsFirstIn k value K) b _ (supp_minus k (IsFirstIn k value K) _ _ (supp_single k (IsFirstIn k value K) t first) (first_combine cs was.first fs)))

      go : (d : Vect k) → In d cs ⊎ In d (c ∷ []) → Supp k (IsFirstIn k value K) d
      go d (inl i) = was.first d i
      go d (inr (inl e)) = subst (Supp k (IsFirstIn k value K)) e own
      go d (inr (inr i)) = absurd i

  -- the value of the sum of multiples of the combinations
  pub tracked_value : (ls : List (Line k)) (cs : List (Vect k)) (v w : Vect k) (fs : List (Scalar k)) → IsReducedBy k ls v w fs → w ≡ zero_vector k → IsTracked k value K of ls cs → of (combine (vectors k) fs cs) ≡ v
  unfolding zero_vector plus
  tracked_value ls cs v w fs r z h = of_combine fs cs ∙ ap (combine (vectors k) fs) h.values ∙ sym (modules.zero_add (vectors k) _) ∙ ap (λ u. (vectors k).◌+◌ u (combine (vectors k) fs (vectors_in k ls))) (sym z) ∙ r.sum

  pub tracked_first : (ls : List (Line k)) (cs : List (Vect k)) (fs : List (Scalar k)) → IsTracked k value K of ls cs → Supp k (IsFirstIn k value K) (combine (vectors k) fs cs)
  tracked_first ls cs fs h = first_combine cs h.first fs

module _ {E : Type 0} (S : SpaceOver E) (columns : List (Column E)) where
  abbrev Terms : Type 0
  Terms = List (Term E (List ℕ))

  abbrev x : Terms → Vect S.field
  x v = vector_of S (λ m. m) v

  -- the values of the columns are those of their terms
  abbrev pub HaveValues : List (Vect S.field) → List (Vect S.field) → Type 0
  HaveValues θ T = map (λ c. x c.value) columns ≡ map (term_value S.field θ T) (keys_of columns)

  -- the rows of the first columns
  pub record Tracking (i : ℕ) (rows : List (Row E)) (combinations : List Terms) : Type 0 where
    pub over : All (IsRowOver S) rows
    pub each : length combinations ≡ length rows
    pub echelon : IsEchelonOf S.field (map (λ c. x c.value) (take i columns)) (lines_of S rows)
    pub tracked : (θ T : List (Vect S.field)) → HaveValues θ T → IsTracked S.field (term_value S.field θ T) (keys_of columns) (combination_value S.field θ T) (lines_of S rows) (map x combinations)

  pub tracking_none : (rows : List (Row E)) (combinations : List Terms) → rows ≡ [] → combinations ≡ [] → Tracking 0 rows combinations
  tracking_none rows combinations none nothing = subst (λ rs. Tracking 0 rs combinations) (sym none) (subst (Tracking 0 []) (sym nothing) (record {
    over = All-nil (IsRowOver S);
    each = refl;
    echelon = record { triangular = tt; inside = λ l i. absurd i; outside = λ v i. absurd i };
    tracked = λ θ T h. record { values = refl; first = λ c i. absurd i };
  }))

  module _ (i : ℕ) (c : Column E) (inside : i < length columns) (read : c ≡ get_or columns i c) (rows : List (Row E)) (combinations : List Terms) (was : Tracking i rows combinations)
      (w : Terms) (fs : List E) (r : IsReducedBy S.field (lines_of S rows) (x c.value) (x w) (map (scalar S.field) fs)) where
    more : map (λ c. x c.value) (take (i + 1) columns) ≡ map (λ c. x c.value) (take i columns) ++ x c.value ∷ []
    more = ap (map (λ c. x c.value)) (take_more columns i c inside ∙ ap (λ y. take i columns ++ y ∷ []) (sym read)) ∙ map-append (λ c. x c.value) (take i columns) (c ∷ [])

    -- a column in the span adds nothing
    pub tracking_same : x w ≡ zero_vector S.field → Tracking (i + 1) rows combinations
    tracking_same z = record {
      over = was.over;
      each = was.each;
      echelon = subst (λ vs. IsEchelonOf S.field vs (lines_of S rows)) (sym more) (echelon_same S.field (lines_of S rows) (x c.value) (x w) (map (scalar S.field) fs) r _ was.echelon z);
      tracked = was.tracked;
    }

    -- any other a row and a combination
    pub tracking_more : (new : List (Row E)) (row : Row E) (b : E) (news : List Terms) (combination : Terms) → new ≡ rows ++ row ∷ [] → news ≡ combinations ++ combination ∷ [] → IsRowOver S row
        → x row.vector ≡ (vectors S.field).◌·◌ (scalar S.field b) (x w) → coef_at S.field (x row.vector) (line_of S row).0 ≡ (scalars S.field).one
        → x combination ≡ (vectors S.field).◌·◌ (scalar S.field b) (minus S.field (single_vector S.field (key_of c)) (combine (vectors S.field) (map (scalar S.field) fs) (map x combinations)))
        → Tracking (i + 1) new news
    tracking_more new row b news combination push pushed own is one made = record {
      over = subst (All (IsRowOver S)) (sym push) (All-push (IsRowOver S) rows row was.over own);
      each = ap length pushed ∙ length-append combinations (combination ∷ []) ∙ ap (λ n. n + 1) was.each ∙ sym (ap length push ∙ length-append rows (row ∷ []));
      echelon = subst (IsEchelonOf S.field (map (λ c. x c.value) (take (i + 1) columns))) (sym lines) (subst (λ vs. IsEchelonOf S.field vs (lines_of S rows ++ line_of S row ∷ [])) (sym more)
          (echelon_more S.field (lines_of S rows) (x c.value) (x w) (map (scalar S.field) fs) r _ was.echelon (scalar S.field b) (line_of S row).0 (x row.vector) is one));
      tracked = λ θ T h. subst (IsTracked S.field (term_value S.field θ T) (keys_of columns) (combination_value S.field θ T) (lines_of S new)) (sym (ap (map x) pushed ∙ map-append x combinations (combination ∷ [])))
          (subst (λ ls. IsTracked S.field (term_value S.field θ T) (keys_of columns) (combination_value S.field θ T) ls (map x combinations ++ x combination ∷ [])) (sym lines)
          (tracked_more S.field θ T (keys_of columns) (lines_of S rows) (map x combinations) (x c.value) (x w) (map (scalar S.field) fs) (scalar S.field b) (line_of S row).0 (key_of c) (x row.vector) (x combination)
          r is made (term θ T h) (first θ T h) (was.tracked θ T h)));
    }
      where
        lines : lines_of S new ≡ lines_of S rows ++ line_of S row ∷ []
        lines = ap (lines_of S) push ∙ map-append (line_of S) rows (row ∷ [])

        term : (θ T : List (Vect S.field)) → HaveValues θ T → x c.value ≡ term_value S.field θ T (key_of c)
        term θ T h = map_at (λ c. x c.value) (λ c. term_value S.field θ T (key_of c)) columns i c (h ∙ map_map key_of (term_value S.field θ T) columns) inside read

        front : (θ T : List (Vect S.field)) → HaveValues θ T → map (λ c. x c.value) (take i columns) ≡ map (term_value S.field θ T) (keys_of (take i columns))
        front θ T h = sym (take-map (λ c. x c.value) i columns) ∙ ap (take i) h ∙ take-map (term_value S.field θ T) i (keys_of columns) ∙ ap (map (term_value S.field θ T)) (take-map key_of i columns)

        first : (θ T : List (Vect S.field)) → HaveValues θ T → IsFirstIn S.field (term_value S.field θ T) (keys_of columns) (key_of c)
        first θ T h = (
          keys_of (take i columns),
          keys_of (drop (i + 1) columns),
          ap keys_of (sym (take-append-drop i columns) ∙ ap (λ l. take i columns ++ l) (drop_more columns i c inside ∙ ap (λ y. y ∷ drop (i + 1) columns) (sym read))) ∙ map-append key_of (take i columns) (c ∷ drop (i + 1) columns),
          λ a. fresh S.field (lines_of S rows) (x c.value) (x w) (map (scalar S.field) fs) r _ was.echelon (scalar S.field b) (line_of S row).0 (x row.vector) is one
              (subst (λ vs. Spans S.field vs (x c.value)) (sym (front θ T h)) (subst (Spans S.field (map (term_value S.field θ T) (keys_of (take i columns)))) (sym (term θ T h)) a)),
        )

  pub tracking_all : (i : ℕ) (rows : List (Row E)) (combinations : List Terms) → length columns ≤ i → Tracking i rows combinations → IsEchelonOf S.field (map (λ c. x c.value) columns) (lines_of S rows)
  tracking_all i rows combinations past h = subst (λ l. IsEchelonOf S.field (map (λ c. x c.value) l) (lines_of S rows)) (take_all i columns past) h.echelon

  module _ (θ T : List (Vect S.field)) (ds es : List ℕ) (d : ℕ) (same : length ds ≡ length θ) (are : IsColumns S θ ds T es d columns) where
    -- the columns have all terms of the degree
    pub in_degree : (ls : List (Line S.field)) → IsEchelonOf S.field (map (λ c. x c.value) columns) ls → InDegree S.field (key_order S) θ ds d T es ls
    in_degree ls e = record {
      L = keys_of columns;
      whole = λ t l q w. are.whole t (let n = same in omega arith) q w;
      within = λ t i. let w = are.within t i in (let a = w.0 in let n = same in omega arith, w.1);
      echelon = subst (λ vs. IsEchelonOf S.field vs ls) are.values e;
    }

    -- the printed combination
    pub printed : (rows : List (Row E)) (combinations : List Terms) (f w : Vect S.field) (fs : List (Scalar S.field)) (c : Vect S.field)
        → IsTracked S.field (term_value S.field θ T) (keys_of columns) (combination_value S.field θ T) (lines_of S rows) (map x combinations)
        → IsReducedBy S.field (lines_of S rows) f w fs → w ≡ zero_vector S.field → c ≡ combine (vectors S.field) fs (map x combinations) → IsPrintedCombination S.field ds es θ T f c
    printed rows combinations f w fs c h r z is = record {
      combination = supp_weaken S.field (IsFirstIn S.field (term_value S.field θ T) (keys_of columns)) (λ t. (length t.1.0 ≤ length θ) × (t.0 < length T)) place c first;
      value = ap (combination_value S.field θ T) is ∙ tracked_value S.field θ T (keys_of columns) (lines_of S rows) (map x combinations) f w fs r z h;
      first = supp_weaken S.field (IsFirstIn S.field (term_value S.field θ T) (keys_of columns)) (λ t. ¬ IsSpannedBefore S.field (term_value S.field θ T) (IsTermBefore S.field ds es) t) chosen c first;
    }
      where
        first : Supp S.field (IsFirstIn S.field (term_value S.field θ T) (keys_of columns)) c
        first = subst (Supp S.field (IsFirstIn S.field (term_value S.field θ T) (keys_of columns))) (sym is) (tracked_first S.field θ T (keys_of columns) (lines_of S rows) (map x combinations) fs h)

        place : (t : Key) → IsFirstIn S.field (term_value S.field θ T) (keys_of columns) t → (length t.1.0 ≤ length θ) × (t.0 < length T)
        place t a = let w = are.within t (subst (In t) (sym a.2) (in_right t a.0 (t ∷ a.1) (inl refl))) in (let b = w.0 in let n = same in omega arith, w.1)

        chosen : (t : Key) → IsFirstIn S.field (term_value S.field θ T) (keys_of columns) t → ¬ IsSpannedBefore S.field (term_value S.field θ T) (IsTermBefore S.field ds es) t
        chosen t a b = a.3 (span_within (vectors S.field) (map (term_value S.field θ T) b.0) (map (term_value S.field θ T) a.0)
            (λ u i. let m = from_map (term_value S.field θ T) u b.0 i in span_member (vectors S.field) (map (term_value S.field θ T) a.0) u
            (subst (λ v. In v (map (term_value S.field θ T) a.0)) m.2 (map_in (term_value S.field θ T) m.0 a.0 (are.ordered m.0 t a.0 a.1 a.2 (b.1 m.0 m.1)))))
            (term_value S.field θ T t) b.2)
