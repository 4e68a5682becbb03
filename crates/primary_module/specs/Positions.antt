-- Polynomials in n variables and marks as vectors over the polynomials in the marks, with a position for each monomial of a list.
-- The monomials of the list are given by their exponents.
--
--   AreDifferent B          the monomials of the list B are different
--   IsPart B m              the monomial m is one of them
--   place_of B m            the place of the monomial m in the list B, from 0; past its end where it is not there
--   part_at B i             the monomial at the place i, from 0; past the end 1
--   HasParts k n B u        the part in the first n variables of each key of u is one of B
--   HasPositions k m w      the positions of the vector w are below m
--   at_positions k n B u    the vector u, where the part in the variables of each key stands as its place in B, which is added to the
--                           position, and each mark as a variable
--   from_positions k n B w  the polynomial of the vector w, where a position stands as the monomial of B at its place, and each variable
--                           as a mark
use Rattle.std.specs.Prelude.{◌≡◌, ◌<◌, ◌+◌, ℕ, zero, suc, List, [], ◌∷◌}
use Rattle.alg_core.specs.Fields.{FieldOn, scalars}
use Rattle.alg_core.specs.FreeModules.{extend}
use Rattle.alg_core.specs.Keys.{Key, key_same}
use Rattle.alg_core.specs.Lists.{In}
use Rattle.alg_core.specs.Monomials.{Mon, monomials, mono, mon_same}
use Rattle.alg_core.specs.MonomialParts.{variable_part, mark_part, as_marks}
use Rattle.alg_core.specs.Vectors.{Vect, vectors}
use Rattle.poly_module.specs.Polynomials.{single_vector}
use Rattle.poly_module.specs.Parts.{Supp}

abbrev pub AreDifferent : List (List ℕ) → Type 0
AreDifferent [] = Unit {0}
AreDifferent (b ∷ B) = ((a : List ℕ) → In a B → ¬ (mono a ≡ mono b)) × AreDifferent B

abbrev pub IsPart : List (List ℕ) → Mon → Type 0
IsPart B m = (b : List ℕ) × In b B × (mono b ≡ m)

-- 0 where the fact holds, else another number
unfoldable pub zero_or : {P : Type 0} → Dec P → ℕ → ℕ
zero_or (yes p) i = 0
zero_or (no p) i = i

unfoldable pub place_of : List (List ℕ) → Mon → ℕ
place_of [] m = 0
place_of (b ∷ B) m = zero_or (mon_same (mono b) m) (suc (place_of B m))

unfoldable pub part_at : List (List ℕ) → ℕ → Mon
part_at [] i = monomials.one
part_at (b ∷ B) zero = mono b
part_at (b ∷ B) (suc i) = part_at B i

module _ {E : Type 0} (k : FieldOn E) where
  abbrev pub HasParts : ℕ → List (List ℕ) → Vect k → Type 0
  HasParts n B u = Supp k (λ t. IsPart B (variable_part n t.1)) u

  abbrev pub HasPositions : ℕ → Vect k → Type 0
  HasPositions m w = Supp k (λ t. t.0 < m) w

  module _ (n : ℕ) (B : List (List ℕ)) where
    abbrev pub key_at_position : Key → Key
    key_at_position t = (t.0 + place_of B (variable_part n t.1), mark_part n t.1)

    unfoldable pub at_positions : Vect k → Vect k
    at_positions = extend (scalars k) key_same (vectors k) (λ t. single_vector k (key_at_position t))

    abbrev pub key_from_position : Key → Key
    key_from_position t = (0, monomials.◌·◌ (part_at B t.0) (as_marks n t.1))

    unfoldable pub from_positions : Vect k → Vect k
    from_positions = extend (scalars k) key_same (vectors k) (λ t. single_vector k (key_from_position t))
