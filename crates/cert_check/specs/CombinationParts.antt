-- Combinations, part by part.
--
--   moved e             the entry e, moved to position 0
--   at_position j es    the entries at position j, moved to position 0: where es are those of a combination, a polynomial in the marks
use Rattle.std.specs.Prelude.{◌==◌, ℕ, List, [], ◌∷◌, if◌then◌else◌}
use Rattle.alg_core.specs.Vectors.{Entry}

module _ {E : Type 0} where
  abbrev pub moved : Entry E → Entry E
  moved e = ((0, e.0.1), e.1)

  unfoldable pub at_position : ℕ → List (Entry E) → List (Entry E)
  at_position j [] = []
  at_position j (e ∷ es) = if e.0.0 == j then moved e ∷ at_position j es else at_position j es
