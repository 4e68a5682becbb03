-- How large the exponents of products and values become: the one condition on sizes of each call that multiplies.
--
--   HasRoomAt cap exps a v        the products of the monomial a and the monomials of v have exponents up to cap
--   HasRoom cap exps f v          so have the products of the monomials of f and those of v
--   HasRoomIn cap exps f images   the total degree of each monomial of f times the greatest exponent of the images is at most cap
--   IsLow cap exps f              no monomial of f has a total degree over cap
use Rattle.std.specs.Prelude.{◌≤◌, ◌*◌, ℕ, List, All, map}
use Rattle.alg_core.specs.ExponentLists.{product, Within}
use Rattle.alg_core.specs.declared.term.Term.{Term}
use Rattle.alg_core.specs.Spaces.{entries}
use Rattle.poly_module.specs.GreatestExponents.{total, highest}

module _ {E M : Type 0} (cap : ℕ) (exps : M → List ℕ) where
  -- of one monomial and a list of terms
  abbrev pub HasRoomAt : List ℕ → List (Term E M) → Type 0
  HasRoomAt a v = All (λ e. Within cap (product a e.0.1)) (entries exps v)

  -- of two lists of terms
  abbrev pub HasRoom : List (Term E M) → List (Term E M) → Type 0
  HasRoom f v = All (λ e. All (λ t. Within cap (product e.0.1 t.0.1)) (entries exps v)) (entries exps f)

  -- of a polynomial at which images stand for the variables
  abbrev pub HasRoomIn : List (Term E M) → List (List (Term E M)) → Type 0
  HasRoomIn f images = All (λ e. total e.0.1 * highest (map (entries exps) images) ≤ cap) (entries exps f)

  -- of a polynomial at which linear forms stand for the variables
  abbrev pub IsLow : List (Term E M) → Type 0
  IsLow f = All (λ e. total e.0.1 ≤ cap) (entries exps f)
