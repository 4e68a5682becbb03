-- Powers of the images of variables, as a substitution uses them.
--
--   AllAt P l                   member i of the list, from 0, satisfies P i
--   IsPowers S exps x ps        powers of x, from the 0th on
--   value_of S exps images i    the vector of image i
--   IsTable S exps images t     for each image a list of its powers
--   Covers t a                  the table has the power of each image to its exponent in a
use Rattle.std.specs.Prelude.{◌≡◌, ◌<◌, ℕ, List, [], length, get_or}
use Rattle.alg_core.specs.Vectors.{Vect}
use Rattle.alg_core.specs.declared.term.Term.{Term}
use Rattle.alg_core.specs.Spaces.{SpaceOver}
use Rattle.poly_module.specs.Polynomials.{vector_ring}
use Rattle.poly_module.specs.Substitutions.{power}
use Rattle.poly_module.specs.SpaceVectors.{vector_of, IsVectorOf}

-- the member at each place
abbrev pub AllAt : {A : Type 0} → (ℕ → A → Type 0) → List A → Type 0
AllAt P l = (i : ℕ) (d : _) → i < length l → P i (get_or l i d)

-- the power of each image to its exponent is there
abbrev pub Covers : {A : Type 0} → List (List A) → List ℕ → Type 0
Covers t a = AllAt (λ i ps. get_or a i 0 < length ps) t

module _ {E M : Type 0} (S : SpaceOver E) (exps : M → List ℕ) where
  -- powers, from the 0th on
  abbrev pub IsPowers : Vect S.field → List (List (Term E M)) → Type 0
  IsPowers x ps = AllAt (λ n p. IsVectorOf S exps (power (vector_ring S.field) x n) p) ps

  -- the vector of an image
  abbrev pub value_of : List (List (Term E M)) → ℕ → Vect S.field
  value_of images i = vector_of S exps (get_or images i [])

  -- for each image its powers
  abbrev pub IsTable : List (List (Term E M)) → List (List (List (Term E M))) → Type 0
  IsTable images t = AllAt (λ i ps. IsPowers (value_of images i) ps) t × (length t ≡ length images)
