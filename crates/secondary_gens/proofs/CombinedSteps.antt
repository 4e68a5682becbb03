-- The elimination of one degree and the combinations that it gives, and lists beside each other.
use Rattle.std.proofs.Common.{◌≡◌, ℕ, zero, suc, ◌+◌, ◌<◌, ◌≤◌, List, [], ◌∷◌, ◌++◌, length, map, get_or, take, sym, ap, ◌∙◌, refl, subst, arith}
use Rattle.std.specs.Prelude.{All, Some, None}
use Rattle.std.proofs.lemmas.List.{take_more, take_all, length-append, length-map}
use Rattle.std.proofs.lemmas.List.Elements.{All-push}
use Rattle.alg_core.specs.Fields.{scalar}
use Rattle.alg_core.specs.Spaces.{SpaceOver}
use Rattle.alg_core.specs.Spans.{combine}
use Rattle.alg_core.specs.Vectors.{Vect, vectors}
use Rattle.alg_core.specs.declared.term.Term.{Term}
use Rattle.poly_module.specs.SpaceVectors.{vector_of, vectors_of, IsVector, IsPoly}
use Rattle.secondary_gens.specs.Combined.{IsEliminated, IsCombined}
use Rattle.secondary_gens.specs.Eliminations.{IsReducedBy, lines_of}
use Rattle.secondary_gens.specs.Forms.{degree_of, degrees_of, IsSmallForm, IsPositiveForm}
use Rattle.secondary_gens.specs.Lists.{Each}
use Rattle.secondary_gens.specs.PrintedCombinations.{combination_space}
use Rattle.secondary_gens.specs.declared.elimination.Row.{Row}
use Rattle.secondary_gens.proofs.FormDegrees.{same_lengths}
use Rattle.secondary_gens.proofs.OverSteps.{something_not_over, zero_terms}
use Rattle.secondary_gens.proofs.ProductSteps.{read_map}
use Rattle.secondary_gens.proofs.TrackedSteps.{printed}

module _ {A B : Type 0} (P : A → B → Type 0) where
  each_push : (xs : List A) (ys : List B) (x : A) (y : B) → Each P xs ys → P x y → Each P (xs ++ x ∷ []) (ys ++ y ∷ [])
  each_push [] [] x y h p = (p, tt)
  each_push [] (b ∷ ys) x y h p = absurd h
  each_push (a ∷ xs) [] x y h p = absurd h
  each_push (a ∷ xs) (b ∷ ys) x y h p = (h.0, each_push xs ys x y h.1 p)

  pub each_none : (xs : List A) (ys : List B) → ys ≡ [] → Each P (take 0 xs) ys
  each_none xs ys e = subst (Each P []) (sym e) tt

  pub each_more : (xs : List A) (i : ℕ) (x : A) (old new : List B) (y : B) → i < length xs → x ≡ get_or xs i x → new ≡ old ++ y ∷ [] → P x y → Each P (take i xs) old → Each P (take (i + 1) xs) new
  each_more xs i x old new y inside read push p h =
      subst (Each P (take (i + 1) xs)) (sym push) (subst (λ l. Each P l (old ++ y ∷ [])) (sym (take_more xs i x inside ∙ ap (λ z. take i xs ++ z ∷ []) (sym read))) (each_push (take i xs) old x y h p))

  pub each_all : (xs : List A) (i : ℕ) (ys : List B) → length xs ≤ i → Each P (take i xs) ys → Each P xs ys
  each_all xs i ys past h = subst (λ l. Each P l ys) (take_all i xs past) h

  -- the members at one place
  pub each_at : (xs : List A) (ys : List B) (i : ℕ) (x : A) (y : B) → Each P xs ys → i < length xs → x ≡ get_or xs i x → y ≡ get_or ys i y → P x y
  each_at [] ys i x y h l r s = absurd (omega arith)
  each_at (a ∷ xs) [] i x y h l r s = absurd h
  each_at (a ∷ xs) (b ∷ ys) zero x y h l r s = subst (λ v. P v y) (sym r) (subst (P a) (sym s) h.0)
  each_at (a ∷ xs) (b ∷ ys) (suc i) x y h l r s = each_at xs ys i x y h.1 (omega arith) r s

  pub each_length : (xs : List A) (ys : List B) → Each P xs ys → length ys ≡ length xs
  each_length [] [] h = refl
  each_length [] (b ∷ ys) h = absurd h
  each_length (a ∷ xs) [] h = absurd h
  each_length (a ∷ xs) (b ∷ ys) h = ap suc (each_length xs ys h.1)

-- one more at the end
pub pushed_inside : {A : Type 0} (old new : List A) (y : A) (i : ℕ) → new ≡ old ++ y ∷ [] → i ≡ length old → i < length new
pushed_inside old new y i push e = let a = ap length push in let b = length-append old (y ∷ []) in omega arith

pub pushed_degree : {A : Type 0} (degree : A → ℕ) (old new : List A) (y : A) (i : ℕ) → new ≡ old ++ y ∷ [] → i ≡ length old → get_or (map degree new) i 0 ≡ degree y
pushed_degree {A} degree old new y i push e = ap (λ l. get_or (map degree l) i 0) push ∙ ap (λ j. get_or (map degree (old ++ y ∷ [])) j 0) e ∙ go old
  where
    go : (l : List A) → get_or (map degree (l ++ y ∷ [])) (length l) 0 ≡ degree y
    go [] = refl
    go (b ∷ l) = go l

module _ {E : Type 0} (S : SpaceOver E) (theta secs : List (List (Term E (List ℕ)))) where
  abbrev Terms : Type 0
  Terms = List (Term E (List ℕ))

  abbrev x : Terms → Vect S.field
  x v = vector_of S (λ m. m) v

  abbrev xs : List Terms → List (Vect S.field)
  xs vs = vectors_of S (λ m. m) vs

  -- the elimination that is read
  pub eliminated_at : {A : Type 0} (degree : A → ℕ) (rows : A → List (Row E)) (combinations : A → List Terms) (solved : List A) (i : ℕ) (one : A) (d : ℕ)
      → All (λ s. IsEliminated S theta secs (degree s) (rows s) (combinations s)) solved → i < length solved → one ≡ get_or solved i one → get_or (map degree solved) i 0 ≡ d
      → IsEliminated S theta secs d (rows one) (combinations one)
  eliminated_at degree rows combinations solved i one d h inside read same =
      subst (λ n. IsEliminated S theta secs n (rows one) (combinations one)) (read_map degree solved i one 0 inside read ∙ same)
      (subst (λ s. IsEliminated S theta secs (degree s) (rows s) (combinations s)) (sym read) (h i one inside))

  -- one elimination more
  pub eliminated_pushed : {A : Type 0} (degree : A → ℕ) (rows : A → List (Row E)) (combinations : A → List Terms) (old new : List A) (y : A) → new ≡ old ++ y ∷ []
      → All (λ s. IsEliminated S theta secs (degree s) (rows s) (combinations s)) old → IsEliminated S theta secs (degree y) (rows y) (combinations y)
      → All (λ s. IsEliminated S theta secs (degree s) (rows s) (combinations s)) new
  eliminated_pushed degree rows combinations old new y push h e =
      subst (All (λ s. IsEliminated S theta secs (degree s) (rows s) (combinations s))) (sym push) (All-push (λ s. IsEliminated S theta secs (degree s) (rows s) (combinations s)) old y h e)

  module _ (f w : Terms) (rows : List (Row E)) (combinations : List Terms) (fs : List E) (e : IsEliminated S theta secs (degree_of f) rows combinations)
      (r : IsReducedBy S.field (lines_of S rows) (x f) (x w) (map (scalar S.field) fs)) where
    pub factors_each : length fs ≡ length combinations
    factors_each = sym (length-map fs (scalar S.field)) ∙ r.each ∙ length-map rows _ ∙ sym e.each

    module _ (form : IsSmallForm S f) where
      pub combined_none : All (IsPositiveForm S) theta → All (IsSmallForm S) secs → IsPoly S (λ m. m) w → ¬ (w ≡ []) → IsCombined S theta secs f None
      combined_none h g p n = record {
        none = something_not_over S theta secs f w e.columns (lines_of S rows) (map (scalar S.field) fs) h g form e.are e.echelon r p n;
        fits = tt;
        printed = tt;
      }

      pub combined_some : (vector : Terms) → w ≡ [] → IsVector (combination_space S.field (degrees_of theta) (degrees_of secs)) (λ m. m) vector
          → x vector ≡ combine (vectors S.field) (map (scalar S.field) fs) (map x combinations) → IsCombined S theta secs f (Some (record { vector = vector }))
      combined_some vector z fits sum = record {
        none = tt;
        fits = fits;
        printed = printed S e.columns (xs theta) (xs secs) (degrees_of theta) (degrees_of secs) (degree_of f) (same_lengths S theta) e.are rows combinations (x f) (x w) (map (scalar S.field) fs) (x vector)
            e.tracked r (zero_terms S w z) sum;
      }
