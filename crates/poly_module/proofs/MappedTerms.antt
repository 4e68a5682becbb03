-- Lists of terms made one by one of the terms of another list.
use Rattle.std.proofs.Common.{◌≡◌, ◌<◌, ◌≤◌, ◌+◌, ℕ, List, [], ◌∷◌, ◌++◌, map, length, get_or, take, sym, ap, ap₂, ◌∙◌}
use Rattle.std.proofs.lemmas.List.{map-append, take_more, take_all}
use Rattle.alg_core.specs.declared.term.Term.{Term}
use Rattle.alg_core.specs.Vectors.{Entry}
use Rattle.alg_core.specs.Spaces.{entry, entries}

module _ {E M : Type 0} (exps : M → List ℕ) (f : Entry E → Entry E) where
  -- one term more
  pub mapped_more : (xs made new : List (Term E M)) (i : ℕ) (x t : Term E M) → i < length xs → x ≡ get_or xs i x → new ≡ made ++ (t ∷ []) → entry exps t ≡ f (entry exps x)
      → entries exps made ≡ map f (entries exps (take i xs)) → entries exps new ≡ map f (entries exps (take (i + 1) xs))
  mapped_more xs made new i x t h read pushed is was =
      let next : take (i + 1) xs ≡ take i xs ++ (x ∷ []) = take_more xs i x h ∙ ap (λ y. take i xs ++ (y ∷ [])) (sym read) in
      ap (entries exps) pushed ∙ map-append (entry exps) made (t ∷ []) ∙ ap₂ (λ l e. l ++ (e ∷ [])) was is
      ∙ sym (ap (λ l. map f (entries exps l)) next ∙ ap (map f) (map-append (entry exps) (take i xs) (x ∷ [])) ∙ map-append f (entries exps (take i xs)) _)

  -- all terms
  pub mapped_all : (xs made a v : List (Term E M)) (n : ℕ) → length xs ≤ n → entries exps made ≡ map f (entries exps (take n xs)) → xs ≡ a → v ≡ made → entries exps v ≡ map f (entries exps a)
  mapped_all xs made a v n h e same is = ap (entries exps) is ∙ e ∙ ap (λ l. map f (entries exps l)) (take_all n xs h ∙ same)
