-- Elimination of a first block of positions.
--
--   IsEliminated k first v        v has no key at a position below first
--   AreEliminated k first vs fs   the members of the list fs are those of vs that have none
use Rattle.std.specs.Prelude.{◌↔◌, ◌≤◌, ℕ, List}
use Rattle.alg_core.specs.Fields.{FieldOn}
use Rattle.alg_core.specs.Lists.{In}
use Rattle.alg_core.specs.Vectors.{Vect}
use Rattle.poly_module.specs.Parts.{Supp}

module _ {E : Type 0} (k : FieldOn E) (first : ℕ) where
  -- no key in the first block
  abbrev pub IsEliminated : Vect k → Type 0
  IsEliminated = Supp k (λ t. first ≤ t.0)

  abbrev pub AreEliminated : List (Vect k) → List (Vect k) → Type 0
  AreEliminated vs fs = (w : Vect k) → In w fs ↔ (In w vs × IsEliminated w)
