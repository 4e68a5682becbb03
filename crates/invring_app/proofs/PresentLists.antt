-- Lists of answers of which none is missing.
use Rattle.std.proofs.Common.{Option, Some, None, List, [], ◌∷◌, map, refl}
use Rattle.std.specs.Prelude.{All, IsTrue, is_some}
use Rattle.std.proofs.lemmas.List.Elements.{All-nil, All-cons, All-head, All-tail}
use Rattle.secondary_gens.specs.Lists.{Each}

module _ {A B : Type 0} (P : A → Option B → Type 0) where
  -- where no answer is None
  pub all_present : (xs : List A) (os : List (Option B)) → Each P xs os → All (λ x. ¬ P x None) xs → All (λ o. IsTrue (is_some o)) os
  all_present [] [] h none = All-nil (λ o. IsTrue (is_some o))
  all_present [] (o ∷ os) h none = absurd h
  all_present (x ∷ xs) [] h none = absurd h
  all_present (x ∷ xs) (o ∷ os) h none =
      All-cons (λ o. IsTrue (is_some o)) o os (one o h.0) (all_present xs os h.1 (All-tail (λ x. ¬ P x None) x xs none))
    where
      one : (o : Option B) → P x o → IsTrue (is_some o)
      one (Some b) p = refl
      one None p = absurd (All-head (λ x. ¬ P x None) x xs none p)

  -- the values
  pub each_value : (xs : List A) (ts : List B) → Each P xs (map (λ t. Some t) ts) → Each (λ x t. P x (Some t)) xs ts
  each_value [] [] h = h
  each_value [] (t ∷ ts) h = absurd h
  each_value (x ∷ xs) [] h = absurd h
  each_value (x ∷ xs) (t ∷ ts) h = (h.0, each_value xs ts h.1)
