-- Facts on the entries of a list that hold of all of them once they hold of each one in turn.
use Rattle.std.proofs.Common.{◌≡◌, ◌<◌, ◌≤◌, ◌+◌, ℕ, List, [], ◌∷◌, ◌++◌, map, length, get_or, take, sym, ap, subst, ◌∙◌}
use Rattle.std.specs.Prelude.{All}
use Rattle.std.proofs.lemmas.List.{map-append, take_all}
use Rattle.std.proofs.lemmas.List.Elements.{All-push}
use Rattle.poly_module.proofs.GreatestValues.{take_map}

module _ {A B : Type 0} (f : A → B) (P : B → Type 0) where
  -- one more of the list
  pub all_more : (xs : List A) (i : ℕ) (x : A) → i < length xs → x ≡ get_or xs i x → All P (map f (take i xs)) → P (f x) → All P (map f (take (i + 1) xs))
  all_more xs i x h read all here = subst (All P) (sym (take_map f xs i x h read)) (All-push P (map f (take i xs)) (f x) all here)

  -- the whole list
  pub all_done : (xs a : List A) (i : ℕ) → length xs ≤ i → xs ≡ a → All P (map f (take i xs)) → All P (map f a)
  all_done xs a i h same all = subst (λ l. All P (map f l)) (take_all i xs h ∙ same) all

  -- one more at the end
  pub all_pushed : (xs new : List A) (x : A) → new ≡ xs ++ (x ∷ []) → All P (map f xs) → P (f x) → All P (map f new)
  all_pushed xs new x pushed all here = subst (All P) (sym (ap (map f) pushed ∙ map-append f xs (x ∷ []))) (All-push P (map f xs) (f x) all here)
