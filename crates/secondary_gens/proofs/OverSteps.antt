-- Whether a form is a combination, and lists of polynomials without one member.
use Rattle.std.proofs.Common.{◌≡◌, ◌⊎◌, inl, inr, ℕ, suc, ◌+◌, ◌<◌, ◌≤◌, List, [], ◌∷◌, ◌++◌, length, map, get_or, take, drop, sym, ap, ap₂, ◌∙◌, refl, subst, arith, append_assoc}
use Rattle.std.specs.Prelude.{All, remove, Bool, false, ◌==◌, ◌↔◌, IsTrue}
use Rattle.std.proofs.lemmas.Bool.Decides.{nat_tests}
use Rattle.std.proofs.lemmas.Bool.{cases_lt}
use Rattle.std.proofs.lemmas.List.{take-map, drop-map, map-append, take_more}
use Rattle.std.proofs.lemmas.List.Elements.{All-nil, All-cons, All-head, All-tail, All-append, All-take, All-drop}
use Rattle.alg_core.specs.Fields.{Scalar}
use Rattle.alg_core.specs.SpaceOrder.{key_order}
use Rattle.alg_core.specs.Spaces.{SpaceOver, Fits, entries}
use Rattle.alg_core.specs.Vectors.{Vect, vec, zero_vector, Entry}
use Rattle.alg_core.specs.declared.term.Term.{Term}
use Rattle.alg_core.proofs.VectorLaws.{vec_nothing}
use Rattle.poly_module.specs.Combinations.{Over}
use Rattle.poly_module.specs.Forms.{IsForm}
use Rattle.poly_module.specs.GreatestExponents.{total, greatest}
use Rattle.poly_module.specs.SpaceVectors.{vector_of, vectors_of, IsPoly}
use Rattle.poly_module.proofs.Leads.{vec_is_zero}
use Rattle.secondary_gens.specs.Columns.{IsColumns}
use Rattle.secondary_gens.specs.Eliminations.{Line, IsReducedBy, IsEchelonOf}
use Rattle.secondary_gens.specs.Forms.{degree_of, degrees_of, unit_weights, IsSmallForm, IsPositiveForm}
use Rattle.secondary_gens.specs.Secondaries.{IsRedundant, IsIrredundant, IsFirstRedundant}
use Rattle.secondary_gens.specs.declared.columns.Column.{Column}
use Rattle.secondary_gens.proofs.FormDegrees.{are_forms, positive_small, same_lengths, vector_at}
use Rattle.secondary_gens.proofs.OverInDegree.{left_nothing, left_something}
use Rattle.secondary_gens.proofs.TrackedSteps.{in_degree}

module _ {E : Type 0} (S : SpaceOver E) where
  abbrev Terms : Type 0
  Terms = List (Term E (List ℕ))

  abbrev x : Terms → Vect S.field
  x v = vector_of S (λ m. m) v

  abbrev xs : List Terms → List (Vect S.field)
  xs vs = vectors_of S (λ m. m) vs

  -- the vector 0 has no terms
  no_terms : (w : Terms) → entries (λ m. m) w ≡ [] → w ≡ []
  no_terms [] e = refl
  no_terms (t ∷ w) e = cc

  pub zero_terms : (w : Terms) → w ≡ [] → x w ≡ zero_vector S.field
  zero_terms w e = ap (λ v. vec S.field (entries (λ m. m) v)) e ∙ vec_nothing S.field

  pub terms_zero : (w : Terms) → IsPoly S (λ m. m) w → x w ≡ zero_vector S.field → w ≡ []
  terms_zero w h z = no_terms w ((vec_is_zero S (λ m. m) w h.fits).1 z)

  -- what is left of a form tells whether it is a combination
  module _ (theta polynomials : List Terms) (f w : Terms) (columns : List (Column E)) (ls : List (Line S.field)) (fs : List (Scalar S.field)) (h : All (IsPositiveForm S) theta) (g : All (IsSmallForm S) polynomials) (form : IsSmallForm S f)
      (are : IsColumns S (xs theta) (degrees_of theta) (xs polynomials) (degrees_of polynomials) (degree_of f) columns) (e : IsEchelonOf S.field (map (λ c. x c.value) columns) ls) (r : IsReducedBy S.field ls (x f) (x w) fs) where
    pub nothing_over : w ≡ [] → Over S.field (xs theta) (xs polynomials) (x f)
    nothing_over z = left_nothing S.field (key_order S) (xs theta) (degrees_of theta) (unit_weights S) (are_forms S theta (positive_small S theta h)) (degree_of f) (xs polynomials) (degrees_of polynomials) (are_forms S polynomials g) ls
        (in_degree S columns (xs theta) (xs polynomials) (degrees_of theta) (degrees_of polynomials) (degree_of f) (same_lengths S theta) are ls e) (x f) (x w) fs r (zero_terms w z)

    pub something_not_over : IsPoly S (λ m. m) w → ¬ (w ≡ []) → ¬ Over S.field (xs theta) (xs polynomials) (x f)
    something_not_over p n = left_something S.field (key_order S) (xs theta) (degrees_of theta) (unit_weights S) (are_forms S theta (positive_small S theta h)) (degree_of f) (xs polynomials) (degrees_of polynomials) (are_forms S polynomials g) ls
        (in_degree S columns (xs theta) (xs polynomials) (degrees_of theta) (degrees_of polynomials) (degree_of f) (same_lengths S theta) are ls e) (x f) (x w) fs r form.form (λ z. n (terms_zero w p z))

  -- copies of polynomials
  abbrev pub all_entries : List Terms → List (List (Entry E))
  all_entries ps = map (entries (λ m. m)) ps

  pub copied_form : (p q : Terms) → entries (λ m. m) q ≡ entries (λ m. m) p → IsSmallForm S p → IsSmallForm S q
  copied_form p q e h = record {
    polynomial = record { fits = subst (Fits S) (sym e) h.polynomial.fits; position = subst (All (λ a. a.0.0 ≡ 0)) (sym e) h.polynomial.position };
    small = subst (λ es. greatest (map (λ a. total a.0.1) es) ≤ 12288) (sym e) h.small;
    form = subst (λ es. IsForm S.field (unit_weights S) (greatest (map (λ a. total a.0.1) es)) (vec S.field es)) (sym e) h.form;
  }

  pub copied_forms : (ps qs : List Terms) → all_entries qs ≡ all_entries ps → All (IsSmallForm S) ps → All (IsSmallForm S) qs
  copied_forms [] [] e h = All-nil (IsSmallForm S)
  copied_forms [] (q ∷ qs) e h = absurd (let c : ⊥ = cc in c)
  copied_forms (p ∷ ps) [] e h = All-nil (IsSmallForm S)
  copied_forms (p ∷ ps) (q ∷ qs) e h =
      let heads : entries (λ m. m) q ≡ entries (λ m. m) p = cc in
      let tails : all_entries qs ≡ all_entries ps = cc in
      All-cons (IsSmallForm S) q qs (copied_form p q heads (All-head (IsSmallForm S) p ps h)) (copied_forms ps qs tails (All-tail (IsSmallForm S) p ps h))

  vectors_entries : (ps : List Terms) → xs ps ≡ map (vec S.field) (all_entries ps)
  vectors_entries [] = refl
  vectors_entries (p ∷ ps) = ap (λ l. x p ∷ l) (vectors_entries ps)

  pub copied_vectors : (ps qs : List Terms) → all_entries qs ≡ all_entries ps → xs qs ≡ xs ps
  copied_vectors ps qs e = vectors_entries qs ∙ ap (map (vec S.field)) e ∙ sym (vectors_entries ps)

  -- the polynomials but one
  pub removed_vectors : (ps : List Terms) (j : ℕ) → xs (remove ps j) ≡ remove (xs ps) j
  removed_vectors ps j = map-append x (take j ps) (drop (suc j) ps) ∙ ap₂ ◌++◌ (sym (take-map x j ps)) (sym (drop-map x (suc j) ps))

  pub removed_forms : (ps : List Terms) (j : ℕ) → All (IsSmallForm S) ps → All (IsSmallForm S) (remove ps j)
  removed_forms ps j h = All-append (IsSmallForm S) (take j ps) (drop (suc j) ps) (All-take (IsSmallForm S) j ps h) (All-drop (IsSmallForm S) (suc j) ps h)

  module _ (theta secs others : List Terms) (j : ℕ) (f : Terms) (inside : j < length secs) (read : f ≡ get_or secs j f) (copies : all_entries others ≡ all_entries (remove secs j)) where
    others_vectors : xs others ≡ remove (xs secs) j
    others_vectors = copied_vectors (remove secs j) others copies ∙ removed_vectors secs j

    pub others_forms : All (IsSmallForm S) secs → All (IsSmallForm S) others
    others_forms h = copied_forms (remove secs j) others copies (removed_forms secs j h)

    pub over_redundant : Over S.field (xs theta) (xs others) (x f) → IsRedundant S.field (xs theta) (xs secs) j
    over_redundant a = subst (Over S.field (xs theta) (remove (xs secs) j)) (sym (vector_at S secs j f inside read)) (subst (λ T. Over S.field (xs theta) T (x f)) others_vectors a)

    pub redundant_over : IsRedundant S.field (xs theta) (xs secs) j → Over S.field (xs theta) (xs others) (x f)
    redundant_over a = subst (λ T. Over S.field (xs theta) T (x f)) (sym others_vectors) (subst (Over S.field (xs theta) (remove (xs secs) j)) (vector_at S secs j f inside read) a)

  -- none of the first places
  pub record NoneBefore (theta secs : List Terms) (j : ℕ) : Type 0 where
    pub none : (l : ℕ) → l < j → ¬ IsRedundant S.field (xs theta) (xs secs) l

  pub none_first : (theta secs : List Terms) → NoneBefore theta secs 0
  none_first theta secs = record { none = λ l q. absurd (omega arith) }

  pub none_more : (theta secs : List Terms) (j : ℕ) → NoneBefore theta secs j → ¬ IsRedundant S.field (xs theta) (xs secs) j → NoneBefore theta secs (j + 1)
  none_more theta secs j h n = record { none = λ l q. go l (cases_lt l j) q }
    where
      go : (l : ℕ) → (l < j) ⊎ (j ≤ l) → l < j + 1 → ¬ IsRedundant S.field (xs theta) (xs secs) l
      go l (inl q) m = h.none l q
      go l (inr q) m = let same : j ≡ l = omega arith in subst (λ i. ¬ IsRedundant S.field (xs theta) (xs secs) i) same n

  pub none_all : (theta secs : List Terms) (j : ℕ) → length secs ≤ j → NoneBefore theta secs j → IsIrredundant S.field (xs theta) (xs secs)
  none_all theta secs j past h l q = h.none l (let n = vectors_length secs in omega arith)
    where
      vectors_length : (ps : List Terms) → length (xs ps) ≡ length ps
      vectors_length [] = refl
      vectors_length (p ∷ ps) = ap suc (vectors_length ps)

  pub first_found : (theta secs : List Terms) (j i : ℕ) → i ≡ j + 1 → j < length secs → NoneBefore theta secs j → IsRedundant S.field (xs theta) (xs secs) j → IsFirstRedundant S.field (xs theta) (xs secs) i
  first_found theta secs j i counted inside h r = record {
    place = j;
    counted = counted;
    within = let n = vectors_length secs in omega arith;
    redundant = r;
    first = h.none;
  }
    where
      vectors_length : (ps : List Terms) → length (xs ps) ≡ length ps
      vectors_length [] = refl
      vectors_length (p ∷ ps) = ap suc (vectors_length ps)

  -- copies of the first polynomials
  pub copies_more : (ps old new : List Terms) (i : ℕ) (p q : Terms) (before : List (List (Entry E))) → i < length ps → p ≡ get_or ps i p → new ≡ old ++ q ∷ [] → entries (λ m. m) q ≡ entries (λ m. m) p
      → all_entries old ≡ before ++ all_entries (take i ps) → all_entries new ≡ before ++ all_entries (take (i + 1) ps)
  copies_more ps old new i p q before inside read push same was =
      ap all_entries push ∙ map-append (entries (λ m. m)) old (q ∷ []) ∙ ap₂ (λ l a. l ++ a ∷ []) was same ∙ append_assoc before (all_entries (take i ps)) (entries (λ m. m) p ∷ [])
      ∙ ap (λ l. before ++ l) (sym (ap all_entries (take_more ps i p inside ∙ ap (λ y. take i ps ++ y ∷ []) (sym read)) ∙ map-append (entries (λ m. m)) (take i ps) (p ∷ [])))

-- a test whether a list is empty
not_empty : (n : ℕ) (b : Bool) → b ≡ (suc n == 0) → IsTrue b → ⊥
not_empty n b e h = grind (arith, nat_tests)

empty : (b : Bool) → b ≡ (0 == 0) → IsTrue b
empty b e = grind (arith, nat_tests)

pub exact_by : {A : Type 0} {P : Type 0} (seen w : List A) (b : Bool) → seen ≡ w → b ≡ (length seen == 0) → (w ≡ [] → P) → (¬ (w ≡ []) → ¬ P) → IsTrue b ↔ P
exact_by [] w b same e here away = (λ h. here (sym same), λ p. empty b e)
exact_by (t ∷ seen) w b same e here away = (λ h. absurd (not_empty (length seen) b e h), λ p. absurd (away (λ q. let z : t ∷ seen ≡ [] = same ∙ q in cc) p))

pub not_true : (b : Bool) → b ≡ false → IsTrue b → ⊥
not_true b e h = grind (arith, nat_tests)
