-- Lists of exponents at whose front others stand.
--
--   is_front a b   the list b begins with the list a
use Rattle.std.specs.Prelude.{ℕ, Bool, true, false, ◌&&◌, ◌==◌, List, [], ◌∷◌}

abbrev pub is_front : List ℕ → List ℕ → Bool
is_front [] b = true
is_front (x ∷ a) [] = false
is_front (x ∷ a) (y ∷ b) = (x == y) && is_front a b
