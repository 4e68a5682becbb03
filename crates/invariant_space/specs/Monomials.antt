-- The monomials of a degree, as the terms of their sum.
--
--   EachAt P l             each element x of the list l, at its place i, satisfies P i x
--   keys_of p              the keys of the terms p
--   next_sum below n       from the sums of degree d the sum of degree d + 1 in n variables: the multiples of each
--                          variable i by those of degree d in the variables up to i
--   all_monomials k d n    the sum of all monomials of degree d in the first n variables
--   AreSums S d sums       the terms of these sums for 0, 1, .. variables, up to all of the space S
use Rattle.std.specs.Prelude.{◌≡◌, ◌<◌, ℕ, zero, suc, List, length, map, slice_index_or}
use Rattle.alg_core.specs.Fields.{FieldOn}
use Rattle.alg_core.specs.Keys.{Key, key}
use Rattle.alg_core.specs.Vectors.{Vect, plus, shift, zero_vector}
use Rattle.alg_core.specs.declared.term.Term.{Term}
use Rattle.alg_core.specs.Spaces.{SpaceOver, entries}
use Rattle.poly_module.specs.MonomialVariables.{variable}
use Rattle.poly_module.specs.Polynomials.{one_vector}
use Rattle.poly_module.specs.SpaceVectors.{IsPolyOf}

-- a fact of each element at its place
abbrev pub EachAt : {A : Type 0} → (ℕ → A → Type 0) → List A → Type 0
EachAt {A} P l = (i : ℕ) (x : A) → i < length l → x ≡ slice_index_or l i x → P i x

-- the keys of a list of terms
abbrev pub keys_of : {E : Type 0} → List (Term E (List ℕ)) → List Key
keys_of p = map (λ e. key e.0) (entries (λ m. m) p)

module _ {E : Type 0} (k : FieldOn E) where
  -- x_0 times the sum in one variable, and so on up to the last of n variables
  unfoldable pub next_sum : (ℕ → Vect k) → ℕ → Vect k
  next_sum below zero = zero_vector k
  next_sum below (suc n) = plus k (shift k (variable n) (below (suc n))) (next_sum below n)

  -- the sum of all monomials of a degree in n variables
  unfoldable pub all_monomials : ℕ → ℕ → Vect k
  all_monomials zero n = one_vector k
  all_monomials (suc d) n = next_sum (all_monomials d) n

module _ {E : Type 0} (S : SpaceOver E) where
  -- for each number of variables
  pub record AreSums (d : ℕ) (sums : List (List (Term E (List ℕ)))) : Type 0 where
    pub count : length sums ≡ suc (length S.weights)
    pub each : EachAt (λ n p. IsPolyOf S (λ m. m) (all_monomials S.field d n) p) sums
