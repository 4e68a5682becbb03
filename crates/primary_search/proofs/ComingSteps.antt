-- One candidate comes, and fewer are still to come.
use Rattle.std.proofs.Common.{◌≡◌, ◌∙◌, ℕ, zero, suc, ◌+◌, ◌<◌, ◌≤◌, List, [], ◌∷◌, ◌++◌, length, get_or, map, drop, sym, ap, ap₂, subst, refl, arith}
use Rattle.std.specs.Prelude.{All}
use Rattle.alg_core.specs.Fields.{FieldOn}
use Rattle.alg_core.specs.Spaces.{SpaceOver, Fits, entries}
use Rattle.alg_core.specs.Vectors.{Vect, vec}
use Rattle.alg_core.specs.declared.term.Term.{Term}
use Rattle.poly_module.specs.SpaceVectors.{IsPoly, vector_of, vectors_of}
use Rattle.primary_search.specs.Candidates.{digits, number_of, combined, all_candidates}
use Rattle.primary_search.specs.CandidateLists.{AreDigits, Stands, numbers_above, one_then_zeros, to_come}
use Rattle.primary_search.specs.declared.candidates.CandidateList.{CandidateList}
use Rattle.primary_search.proofs.DigitLaws.{digits_number}
use Rattle.primary_search.proofs.DigitSteps.{start_digits, one_length}
use Rattle.primary_search.proofs.NumbersAbove.{above_one}

drop_one : {A : Type 0} (xs : List A) (i : ℕ) (d : A) → i < length xs → drop i xs ≡ get_or xs i d ∷ drop (i + 1) xs
drop_one [] i d h = absurd (omega arith)
drop_one (x ∷ xs) zero d h = refl
drop_one (x ∷ xs) (suc i) d h = let e : suc (i + 1) ≡ suc i + 1 = omega arith in drop_one xs i d (omega arith) ∙ ap (λ n. get_or xs i d ∷ drop n (x ∷ xs)) e

drop_past : {A : Type 0} (xs : List A) (i : ℕ) → length xs ≤ i → drop i xs ≡ []
drop_past [] zero h = refl
drop_past [] (suc i) h = refl
drop_past (x ∷ xs) zero h = absurd (omega arith)
drop_past (x ∷ xs) (suc i) h = drop_past xs i (omega arith)

drop_map : {A B : Type 0} (f : A → B) (xs : List A) (i : ℕ) → drop i (map f xs) ≡ map f (drop i xs)
drop_map f [] zero = refl
drop_map f [] (suc i) = refl
drop_map f (x ∷ xs) zero = refl
drop_map f (x ∷ xs) (suc i) = drop_map f xs i

-- a field has two members
pub two_values : {E : Type 0} (k : FieldOn E) → 2 ≤ k.size
two_values k = let a = k.number_below k.one k.has_one in let b = k.number_one in omega arith

module _ {E : Type 0} (S : SpaceOver E) where
  abbrev Terms : Type 0
  Terms = List (Term E (List ℕ))

  -- the same terms
  pub same_poly : (p q : List (Term E (List ℕ))) → entries (λ m. m) q ≡ entries (λ m. m) p → IsPoly S (λ m. m) p → IsPoly S (λ m. m) q
  same_poly p q e h = record { fits = subst (Fits S) (sym e) h.fits; position = subst (λ l. All (λ x. x.0.0 ≡ 0) l) (sym e) h.position }

  -- a member comes
  pub member_comes : (basis : List (List (Term E (List ℕ)))) (j : ℕ) (p q : List (Term E (List ℕ))) (rest : List (Vect S.field)) → j < length basis → p ≡ get_or basis j p → entries (λ m. m) q ≡ entries (λ m. m) p
      → drop j (vectors_of S (λ m. m) basis) ++ rest ≡ vector_of S (λ m. m) q ∷ (drop (j + 1) (vectors_of S (λ m. m) basis) ++ rest)
  member_comes basis j p q rest below read same =
      ap (λ l. l ++ rest) (drop_map (vector_of S (λ m. m)) basis j ∙ ap (map (vector_of S (λ m. m))) (drop_one basis j p below)
      ∙ ap₂ ◌∷◌ (ap (vector_of S (λ m. m)) (sym read) ∙ ap (vec S.field) (sym same)) (sym (drop_map (vector_of S (λ m. m)) basis (j + 1))))

module _ {E : Type 0} (k : FieldOn E) (bs : List (Vect k)) where
  abbrev others_above : ℕ → List (Vect k)
  others_above N = map (λ n. combined k bs (digits (length bs) k.size n)) (numbers_above k.size (length bs) N)

  -- another combination comes
  pub combination_comes : (j : ℕ) (old new : List ℕ) (v : Vect k) → length bs ≤ j → length old ≡ length bs → length new ≡ length old → All (λ d. d < k.size) new
      → numbers_above k.size (length old) (number_of k.size old) ≡ number_of k.size new ∷ numbers_above k.size (length old) (number_of k.size new) → v ≡ combined k bs new
      → drop j bs ++ others_above (number_of k.size old) ≡ v ∷ (drop j bs ++ others_above (number_of k.size new))
  combination_comes j old new v past count same low next is =
      let none = drop_past bs j past in
      let above : numbers_above k.size (length bs) (number_of k.size old) ≡ number_of k.size new ∷ numbers_above k.size (length bs) (number_of k.size new) =
      subst (λ n. numbers_above k.size n (number_of k.size old) ≡ number_of k.size new ∷ numbers_above k.size n (number_of k.size new)) count next in
      let read : digits (length bs) k.size (number_of k.size new) ≡ new = subst (λ n. digits n k.size (number_of k.size new) ≡ new) (same ∙ count) (digits_number k.size (two_values k) new low) in
      ap (λ l. l ++ others_above (number_of k.size old)) none ∙ ap (map (λ n. combined k bs (digits (length bs) k.size n))) above
      ∙ ap₂ ◌∷◌ (ap (combined k bs) read ∙ sym is) (sym (ap (λ l. l ++ others_above (number_of k.size new)) none))

  -- where it is told by a list that is the same
  pub same_comes : (j : ℕ) (old new after : List ℕ) (v : Vect k) → after ≡ new → drop j bs ++ others_above (number_of k.size old) ≡ v ∷ (drop j bs ++ others_above (number_of k.size new))
      → drop j bs ++ others_above (number_of k.size old) ≡ v ∷ (drop j bs ++ others_above (number_of k.size after))
  same_comes j old new after v e h = h ∙ sym (ap (λ l. v ∷ (drop j bs ++ others_above (number_of k.size l))) e)

  -- nothing comes any more
  pub nothing_comes : (j : ℕ) (old : List ℕ) → length bs ≤ j → length old ≡ length bs → numbers_above k.size (length old) (number_of k.size old) ≡ [] → drop j bs ++ others_above (number_of k.size old) ≡ []
  nothing_comes j old past count none =
      ap (λ l. l ++ others_above (number_of k.size old)) (drop_past bs j past)
      ∙ ap (map (λ n. combined k bs (digits (length bs) k.size n))) (subst (λ n. numbers_above k.size n (number_of k.size old) ≡ []) count none)

  -- at the start all candidates are to come
  pub all_come : (c : CandidateList) → c.members ≡ 0 → c.digits.items ≡ one_then_zeros (length bs) → to_come k bs c ≡ all_candidates k bs
  all_come c m d =
      ap₂ (λ j N. drop j bs ++ others_above N) m (ap (number_of k.size) d)
      ∙ ap (λ l. bs ++ map (λ n. combined k bs (digits (length bs) k.size n)) l) (above_one k.size (two_values k) (length bs))

-- a list for members that is at its start
pub start_stands : (q m : ℕ) → 2 ≤ q → (c : CandidateList) → c.members ≡ 0 → c.digits.items ≡ one_then_zeros m → c.last ≡ 0 → Stands q m c
start_stands q m big c e d l = record {
  members = omega arith;
  count = ap length d ∙ one_length m;
  digits = subst (λ x. AreDigits q x c.last) (sym d) (subst (AreDigits q (one_then_zeros m)) (sym l) (start_digits q big m));
}
