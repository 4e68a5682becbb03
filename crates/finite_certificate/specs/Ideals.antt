-- Ideals of polynomials.
--
--   InIdeal k θ f          f is a sum of polynomial multiples of the members of the list θ
--   Nonzerodivisor k θ f   a polynomial of which the multiple by f lies in the ideal of θ lies there itself
--   Regular k θ            each member of θ is a nonzerodivisor modulo those before it
--   variable_power k i e   the power with the exponent e of variable i, from 0
--   Ended k n θ            each of the first n variables has a power in the ideal of θ
use Rattle.std.specs.Prelude.{◌≡◌, ◌<◌, ℕ, List, ◌∷◌, ◌++◌}
use Rattle.alg_core.specs.Fields.{FieldOn}
use Rattle.alg_core.specs.Vectors.{Vect}
use Rattle.poly_module.specs.Polynomials.{product, vector_ring}
use Rattle.poly_module.specs.Substitutions.{power, variable_vector}
use Rattle.poly_module.specs.Parts.{IsPolynomial}
use Rattle.poly_module.specs.Modules.{InModule, listed}

module _ {E : Type 0} (k : FieldOn E) where
  -- a sum of multiples of members
  abbrev pub InIdeal : List (Vect k) → Vect k → Type 0
  InIdeal θ f = InModule k (listed k θ) f

  -- no polynomial outside the ideal has its multiple by f inside
  abbrev pub Nonzerodivisor : List (Vect k) → Vect k → Type 0
  Nonzerodivisor θ f = (h : Vect k) → IsPolynomial k h → InIdeal θ (product k h f) → InIdeal θ h

  -- each member modulo those before it
  abbrev pub Regular : List (Vect k) → Type 0
  Regular θ = (before after : List (Vect k)) (f : Vect k) → before ++ f ∷ after ≡ θ → Nonzerodivisor before f

  abbrev pub variable_power : ℕ → ℕ → Vect k
  variable_power i e = power (vector_ring k) (variable_vector k i) e

  -- some power of each variable
  abbrev pub Ended : ℕ → List (Vect k) → Type 0
  Ended n θ = (i : ℕ) → i < n → (e : ℕ) × InIdeal θ (variable_power i e)
