-- Sums of multiples of combinations, and a term less such a sum.
use Rattle.std.proofs.Common.{◌≡◌, ℕ, zero, suc, ◌+◌, ◌<◌, ◌≤◌, List, [], ◌∷◌, ◌++◌, inl, inr, length, map, get_or, take, sym, ap, ap₂, ◌∙◌, refl, subst, arith}
use Rattle.std.specs.Prelude.{All, ◌==◌, Bool, true, false, IsTrue}
use Rattle.std.proofs.lemmas.Bool.Decides.{nat_tests}
use Rattle.std.proofs.lemmas.List.{take_more, take_all, map-append, length-map, length-take-le}
use Rattle.alg_core.specs.Fields.{FieldOn, scalar, scalars, scalar_one}
use Rattle.alg_core.specs.FreeModules.{single}
use Rattle.alg_core.specs.Keys.{Key, key, key_same}
use Rattle.alg_core.specs.Lists.{In, map_in}
use Rattle.alg_core.specs.Spaces.{SpaceOver, Fits, IsPlace, entries, place}
use Rattle.alg_core.specs.Spans.{combine}
use Rattle.alg_core.specs.Vectors.{Vect, vec, vectors, plus, scale, zero_vector}
use Rattle.alg_core.specs.declared.term.Term.{Term}
use Rattle.alg_core.specs.declared.term.ModTerm.{ModTerm}
use Rattle.alg_core.proofs.VectorLaws.{vec_single, vec_nothing}
use Rattle.poly_module.specs.Polynomials.{single_vector}
use Rattle.poly_module.specs.Signs.{minus}
use Rattle.poly_module.specs.SpaceVectors.{vector_of, IsVector, IsVectorOf}
use Rattle.secondary_gens.specs.Columns.{IsColumns, key_of}
use Rattle.secondary_gens.specs.PrintedCombinations.{combination_space}
use Rattle.secondary_gens.specs.declared.columns.Column.{Column}
use Rattle.secondary_gens.proofs.OverSteps.{exact_by, not_true}
use Rattle.secondary_gens.proofs.Triangular.{combine_push}

module _ {E : Type 0} (C : SpaceOver E) where
  abbrev Terms : Type 0
  Terms = List (Term E (List ℕ))

  abbrev x : Terms → Vect C.field
  x v = vector_of C (λ m. m) v

  -- so far the multiples of the first combinations
  pub record Summed (factors : List E) (combinations : List Terms) (i : ℕ) (sum : Terms) : Type 0 where
    pub fits : IsVector C (λ m. m) sum
    pub is : x sum ≡ combine (vectors C.field) (map (scalar C.field) (take i factors)) (map x (take i combinations))

  pub summed_none : (factors : List E) (combinations : List Terms) (sum : Terms) → sum ≡ [] → Summed factors combinations 0 sum
  unfolding zero_vector
  summed_none factors combinations sum none = record {
    fits = subst (λ v. Fits C (entries (λ m. m) v)) (sym none) tt;
    is = ap x none ∙ vec_nothing C.field;
  }

  pub summed_more : (factors : List E) (combinations : List Terms) (i : ℕ) (f : E) (c sum multiple new : Terms) → length factors ≡ length combinations → i < length factors → f ≡ get_or factors i f → c ≡ get_or combinations i c
      → IsVectorOf C (λ m. m) (scale C.field f (x c)) multiple → IsVectorOf C (λ m. m) (plus C.field (x sum) (x multiple)) new → Summed factors combinations i sum → Summed factors combinations (i + 1) new
  unfolding plus scale
  summed_more factors combinations i f c sum multiple new same inside read got times added was = record {
    fits = added.fits;
    is = added.is ∙ ap₂ (vectors C.field).◌+◌ was.is times.is
        ∙ sym (ap₂ (combine (vectors C.field)) (ap (map (scalar C.field)) (take_more factors i f inside ∙ ap (λ y. take i factors ++ y ∷ []) (sym read)) ∙ map-append (scalar C.field) (take i factors) (f ∷ []))
        (ap (map x) (take_more combinations i c (omega arith) ∙ ap (λ y. take i combinations ++ y ∷ []) (sym got)) ∙ map-append x (take i combinations) (c ∷ []))
        ∙ combine_push C.field (map (scalar C.field) (take i factors)) (map x (take i combinations)) (scalar C.field f) (x c)
        (length-map (take i factors) (scalar C.field) ∙ length-take-le i factors (omega arith) ∙ sym (length-map (take i combinations) x ∙ length-take-le i combinations (omega arith))));
  }

  pub summed_all : (factors : List E) (combinations : List Terms) (i : ℕ) (sum : Terms) → length factors ≡ length combinations → length factors ≤ i → Summed factors combinations i sum
      → x sum ≡ combine (vectors C.field) (map (scalar C.field) factors) (map x combinations)
  summed_all factors combinations i sum same past h = h.is ∙ ap₂ (λ fs cs. combine (vectors C.field) (map (scalar C.field) fs) (map x cs)) (take_all i factors past) (take_all i combinations (omega arith))

  -- the vector of a term with the coefficient 1
  single_term : (a : ModTerm (List ℕ)) (one : E) → one ≡ C.field.one → vec C.field ((place (λ m. m) a, one) ∷ []) ≡ single_vector C.field (key (place (λ m. m) a))
  unfolding single_vector
  single_term a one is = vec_single C.field (place (λ m. m) a, one) ∙ ap (λ c. (vectors C.field).◌·◌ (scalar C.field c) (single (scalars C.field) key_same (key (place (λ m. m) a)))) is
      ∙ ap (λ c. (vectors C.field).◌·◌ c (single (scalars C.field) key_same (key (place (λ m. m) a)))) (scalar_one C.field) ∙ (vectors C.field).one_act (single (scalars C.field) key_same (key (place (λ m. m) a)))

  pub combination_made : (at copied : ModTerm (List ℕ)) (one factor : E) (taken term left made : Terms) (sum : Vect C.field) → one ≡ C.field.one → place (λ m. m) copied ≡ place (λ m. m) at
      → IsVectorOf C (λ m. m) (x (record { coef = one; at = copied } ∷ [])) term → x taken ≡ sum → IsVectorOf C (λ m. m) (minus C.field (x term) (x taken)) left
      → IsVectorOf C (λ m. m) (scale C.field factor (x left)) made → x made ≡ (vectors C.field).◌·◌ (scalar C.field factor) (minus C.field (single_vector C.field (key (place (λ m. m) at))) sum)
  unfolding scale
  combination_made at copied one factor taken term left made sum is same single was less times = times.is ∙ ap ((vectors C.field).◌·◌ (scalar C.field factor))
      (less.is ∙ ap₂ (minus C.field) (single.is ∙ single_term copied one is ∙ ap (λ p. single_vector C.field (key p)) same) was)

-- the same over an equal field
pub over_field : {E : Type 0} (k h : FieldOn E) → k ≡ h → (b : E) (t : Key) (seen fs : List E) (combination : List (Term E (List ℕ))) (told combinations : List (List (Term E (List ℕ)))) → seen ≡ fs → told ≡ combinations
    → vec k (entries (λ m. m) combination) ≡ (vectors k).◌·◌ (scalar k b) (minus k (single_vector k t) (combine (vectors k) (map (scalar k) seen) (map (λ c. vec k (entries (λ m. m) c)) told)))
    → vec h (entries (λ m. m) combination) ≡ (vectors h).◌·◌ (scalar h b) (minus h (single_vector h t) (combine (vectors h) (map (scalar h) fs) (map (λ c. vec h (entries (λ m. m) c)) combinations)))
over_field k h e b t seen fs combination told combinations same named p =
    let P : FieldOn _ → List _ → List (List (Term _ (List ℕ))) → Type 0 = λ f s l. vec f (entries (λ m. m) combination) ≡ (vectors f).◌·◌ (scalar f b) (minus f (single_vector f t) (combine (vectors f) (map (scalar f) s) (map (λ c. vec f (entries (λ m. m) c)) l))) in
    subst (λ f. P f fs combinations) e (subst (λ s. P k s combinations) same (subst (P k seen) named p))

pub sum_over_field : {E : Type 0} (k h : FieldOn E) → k ≡ h → (seen fs : List E) (combination : List (Term E (List ℕ))) (told combinations : List (List (Term E (List ℕ)))) → seen ≡ fs → told ≡ combinations
    → vec k (entries (λ m. m) combination) ≡ combine (vectors k) (map (scalar k) seen) (map (λ c. vec k (entries (λ m. m) c)) told)
    → vec h (entries (λ m. m) combination) ≡ combine (vectors h) (map (scalar h) fs) (map (λ c. vec h (entries (λ m. m) c)) combinations)
sum_over_field k h e seen fs combination told combinations same named p =
    let P : FieldOn _ → List _ → List (List (Term _ (List ℕ))) → Type 0 = λ f s l. vec f (entries (λ m. m) combination) ≡ combine (vectors f) (map (scalar f) s) (map (λ c. vec f (entries (λ m. m) c)) l) in
    subst (λ f. P f fs combinations) e (subst (λ s. P k s combinations) same (subst (P k seen) named p))

equal_test : (m n : ℕ) → m ≡ n → (m == n) ≡ true
equal_test m n e = grind (arith, nat_tests)

pub in_at : {A : Type 0} (l : List A) (k : ℕ) (d : A) → k < length l → In (get_or l k d) l
in_at [] k d h = absurd (omega arith)
in_at (x ∷ l) zero d h = inl refl
in_at (x ∷ l) (suc k) d h = inr (in_at l k d (omega arith))

module _ {E : Type 0} (S : SpaceOver E) (θ T : List (Vect S.field)) (ds es : List ℕ) (d : ℕ) (columns : List (Column E)) (same : length es ≡ length T) (are : IsColumns S θ ds T es d columns) where
  -- the terms of the columns are places of the space of combinations
  column_place : (c : Column E) → In c columns → length c.at.mono ≡ length ds → IsPlace (combination_space S.field ds es) (place (λ m. m) c.at)
  unfolding key
  column_place c i w = record {
    fits = equal_test _ _ w;
    wide = w;
    low = let q : c.at.pos < length T = (are.within (key_of c) (map_in key_of c columns i)).1 in omega (arith, same);
  }

  pub column_places : (C : SpaceOver E) → C ≡ combination_space S.field ds es → All (λ c. IsPlace C (place (λ m. m) c.at)) columns
  column_places C is = subst (λ D. All (λ c. IsPlace D (place (λ m. m) c.at)) columns) (sym is) (λ k c h. column_place (get_or columns k c) (in_at columns k c h) (are.wide k c h))

is_true : (b : Bool) → b ≡ true → IsTrue b
is_true b e = grind (arith, nat_tests)

-- a test whether anything is left
module _ {A : Type 0} (seen w : List A) (b : Bool) (same : seen ≡ w) (test : b ≡ (length seen == 0)) where
  pub nothing_left : b ≡ true → w ≡ []
  nothing_left t = (exact_by {P = w ≡ []} seen w b same test (λ z. z) (λ n. n)).0 (is_true b t)

  pub something_left : b ≡ false → ¬ (w ≡ [])
  something_left f = λ z. not_true b f ((exact_by {P = w ≡ []} seen w b same test (λ z. z) (λ n. n)).1 z)
