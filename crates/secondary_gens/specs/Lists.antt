-- Two lists beside each other.
--
--   Each P xs ys   the lists have one length, and P holds of their members at each place
use Rattle.std.specs.Prelude.{List, [], ◌∷◌}

module _ {A B : Type 0} (P : A → B → Type 0) where
  abbrev pub Each : List A → List B → Type 0
  Each [] [] = Unit {0}
  Each [] (y ∷ ys) = ⊥
  Each (x ∷ xs) [] = ⊥
  Each (x ∷ xs) (y ∷ ys) = P x y × Each xs ys
