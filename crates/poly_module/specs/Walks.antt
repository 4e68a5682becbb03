-- What a walk along a list keeps: primary invariants, secondary invariants and irreducible generators are kept by such walks.
--
--   Keeps Skips kept xs all   of the members of xs, in their order, those are kept that are not skipped, where Skips says which
--                             are, by what was kept before them; kept was kept before xs, and all is what is kept in the end
use Rattle.std.specs.Prelude.{◌≡◌, ◌⊎◌, List, [], ◌∷◌, ◌++◌}

-- what was kept before, and each member that is not skipped
abbrev pub Keeps : {A : Type 0} → (List A → A → Type 0) → List A → List A → List A → Type 0
Keeps Skips kept [] all = all ≡ kept
Keeps Skips kept (x ∷ xs) all = (Skips kept x × Keeps Skips kept xs all) ⊎ ((¬ Skips kept x) × Keeps Skips (kept ++ x ∷ []) xs all)
