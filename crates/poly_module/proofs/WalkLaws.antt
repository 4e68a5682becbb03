-- A walk keeps one list, and each member is skipped or kept.
use Rattle.std.proofs.Common.{◌≡◌, inl, inr, List, [], ◌∷◌, ◌++◌, append_assoc, sym, ◌∙◌}
use Rattle.std.proofs.lemmas.List.{append-nil}
use Rattle.poly_module.specs.Walks.{Keeps}

module _ {A : Type 0} (Skips : List A → A → Type 0) where
  pub keeps_unique : (kept xs all other : List A) → Keeps Skips kept xs all → Keeps Skips kept xs other → all ≡ other
  keeps_unique kept [] all other h g = h ∙ sym g
  keeps_unique kept (x ∷ xs) all other (inl h) (inl g) = keeps_unique kept xs all other h.1 g.1
  keeps_unique kept (x ∷ xs) all other (inl h) (inr g) = absurd (g.0 h.0)
  keeps_unique kept (x ∷ xs) all other (inr h) (inl g) = absurd (h.0 g.0)
  keeps_unique kept (x ∷ xs) all other (inr h) (inr g) = keeps_unique (kept ++ x ∷ []) xs all other h.1 g.1

  -- what is kept goes on what was kept
  pub keeps_more : (kept xs all : List A) → Keeps Skips kept xs all → (more : List A) × (all ≡ kept ++ more)
  keeps_more kept [] all h = ([], h ∙ sym (append-nil kept))
  keeps_more kept (x ∷ xs) all (inl h) = keeps_more kept xs all h.1
  keeps_more kept (x ∷ xs) all (inr h) = let m = keeps_more (kept ++ x ∷ []) xs all h.1 in (x ∷ m.0, m.1 ∙ append_assoc kept (x ∷ []) m.0)
