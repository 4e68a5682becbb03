-- Steps of comparing two lists of terms, and of looking for a place in one.
use Rattle.std.proofs.Common.{◌≡◌, ◌<◌, ◌≤◌, ◌+◌, ℕ, zero, suc, true, false, List, [], ◌∷◌, ◌++◌, length, get_or, take, refl, sym, ap, ap₂, subst, ◌∙◌, arith}
use Rattle.std.specs.Prelude.{All, IsTrue, ◌↔◌}
use Rattle.std.proofs.lemmas.List.{take_all}
use Rattle.std.specs.declared.cmp.Ordering.{Ordering}
use Rattle.std.specs.declared.cmp.Ordering.TheVariants.{Equal}
use Rattle.std.proofs.lemmas.Cmp.{tied_itself}
use Rattle.alg_core.specs.Fields.{scalar}
use Rattle.alg_core.specs.Keys.{TermPlace, key}
use Rattle.alg_core.specs.Vectors.{Entry, coef_at, vec}
use Rattle.alg_core.specs.declared.term.Term.{Term}
use Rattle.alg_core.specs.Spaces.{SpaceOver, entry, entries, Fits}
use Rattle.alg_core.proofs.FittingLists.{fits_unique}
use Rattle.poly_module.specs.SpaceVectors.{vector_of, IsVector}
use Rattle.poly_module.proofs.GreatestValues.{take_map}
use Rattle.poly_module.proofs.EntryCoefficients.{entry_value}

module _ {E M : Type 0} (S : SpaceOver E) (exps : M → List ℕ) where
  abbrev Terms : Type 0
  Terms = List (Term E M)

  -- the entry of a term at its index
  pub entry_index : (xs : Terms) (i : ℕ) (x : Term E M) (d : Entry E) → i < length xs → x ≡ get_or xs i x → get_or (entries exps xs) i d ≡ entry exps x
  entry_index [] i x d w read = absurd (omega arith)
  entry_index (y ∷ xs) zero x d w read = ap (entry exps) (sym read)
  entry_index (y ∷ xs) (suc i) x d w read = entry_index xs i x d (omega arith) read

  pub length_entries : (xs : Terms) → length (entries exps xs) ≡ length xs
  length_entries [] = refl
  length_entries (x ∷ xs) = ap suc (length_entries xs)

  abbrev pub AreSame : Terms → Terms → Type 0
  AreSame a b = vector_of S exps a ≡ vector_of S exps b

  -- lists that fit have one vector exactly where their entries are the same
  pub lengths_differ : (xs ys a b : Terms) → xs ≡ a → ys ≡ b → ¬ (length xs ≡ length ys) → IsVector S exps a → IsVector S exps b → IsTrue false ↔ AreSame a b
  lengths_differ xs ys a b p q n f h = (λ t. absurd cc, λ e. absurd (n (ap length p ∙ sym (length_entries a) ∙ ap length (fits_unique S (entries exps a) (entries exps b) f h e) ∙ length_entries b ∙ ap length (sym q))))

  pub entries_differ : (xs ys a b : Terms) (i : ℕ) (x y : Term E M) → xs ≡ a → ys ≡ b → i < length xs → i < length ys → x ≡ get_or xs i x → y ≡ get_or ys i y → ¬ (entry exps x ≡ entry exps y)
      → IsVector S exps a → IsVector S exps b → IsTrue false ↔ AreSame a b
  entries_differ xs ys a b i x y p q w v read got n f h = (
    λ t. absurd cc,
    λ e. absurd (n (
        sym (entry_index xs i x (entry exps x) w read) ∙ ap (λ l. get_or (entries exps l) i (entry exps x)) p
        ∙ ap (λ l. get_or l i (entry exps x)) (fits_unique S (entries exps a) (entries exps b) f h e)
        ∙ ap (λ l. get_or (entries exps l) i (entry exps x)) (sym q) ∙ entry_index ys i y (entry exps x) v got)),
  )

  pub same_more : (xs ys : Terms) (i : ℕ) (x y : Term E M) → i < length xs → i < length ys → x ≡ get_or xs i x → y ≡ get_or ys i y → entry exps x ≡ entry exps y
      → entries exps (take i xs) ≡ entries exps (take i ys) → entries exps (take (i + 1) xs) ≡ entries exps (take (i + 1) ys)
  same_more xs ys i x y w v read got here was = take_map (entry exps) xs i x w read ∙ ap₂ (λ l e. l ++ (e ∷ [])) was here ∙ sym (take_map (entry exps) ys i y v got)

  pub same_all : (xs ys a b : Terms) (i : ℕ) → xs ≡ a → ys ≡ b → length xs ≡ length ys → length xs ≤ i → entries exps (take i xs) ≡ entries exps (take i ys) → IsTrue true ↔ AreSame a b
  same_all xs ys a b i p q long done was = (λ t. ap (vec S.field) (ap (entries exps) (sym (take_all i xs done ∙ p)) ∙ was ∙ ap (entries exps) (take_all i ys (omega arith) ∙ q)), λ e. refl)

  -- one entry, by its place and its value
  pub entry_same : (x y : Term E M) → S.order.compare (entry exps x).0 (entry exps y).0 ≡ Equal → x.coef ≡ y.coef → entry exps x ≡ entry exps y
  entry_same x y e c = ap₂ (λ (p : TermPlace) (v : E). (p, v)) (S.order.tied _ _ e) c

  -- a term at the place that is sought
  pub found : (p : TermPlace) (xs a : Terms) (i : ℕ) (x : Term E M) → xs ≡ a → i < length xs → x ≡ get_or xs i x → S.order.compare (entry exps x).0 p ≡ Equal → IsVector S exps a → scalar S.field x.coef ≡ coef_at S.field (vector_of S exps a) (key p)
  found p xs a i x same w read equal f =
      let fits : Fits S (entries exps xs) = subst (IsVector S exps) (sym same) f in
      let e : get_or (entries exps xs) i (entry exps x) ≡ entry exps x = entry_index xs i x (entry exps x) w read in
      let inside : i < length (entries exps xs) = let n = length_entries xs in omega arith in
      sym (subst (λ (t : Entry E). coef_at S.field (vec S.field (entries exps xs)) (key t.0) ≡ scalar S.field t.1) e (entry_value S (entries exps xs) i (entry exps x) inside fits))
      ∙ ap₂ (λ l (q : TermPlace). coef_at S.field (vec S.field (entries exps l)) (key q)) same (S.order.tied _ p equal)

module _ {E : Type 0} (S : SpaceOver E) where
  -- places that compare as other than equal are two
  pub other_place : (p q : TermPlace) (r : Ordering) → r ≡ S.order.compare p q → ¬ (r ≡ Equal) → ¬ (p ≡ q)
  other_place p q r is n e = n (is ∙ ap (λ t. S.order.compare t q) e ∙ tied_itself S.order.total q)

  -- a list with no term has every degree
  pub no_terms : {M : Type 0} (exps : M → List ℕ) (P : Entry E → Type 0) (xs a : List (Term E M)) → xs ≡ a → length xs ≡ 0 → All P (entries exps a)
  no_terms exps P [] a same none = subst (λ l. All P (entries exps l)) same (λ k d w. absurd (omega arith))
  no_terms exps P (x ∷ xs) a same none = absurd (omega arith)
