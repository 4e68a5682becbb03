-- One round of spreading: in each monomial one power of a variable is replaced by its form.
--
--   reached_from i es a      of the exponents es for variable i and those after it, the first that the exponent in a is not below:
--                            its variable
--   first_reached es a       the first variable, from 0, whose exponent in a is not below that of es
--   without i e a            the exponents a, where that of variable i is less by e
--   exponents_of k ps        the exponents of the powers ps
--   replaced k ps t          the monomial of the key t, where one power of its first reached variable stands as its form; where no
--                            variable is reached, the monomial itself
--   spread_once k ps v       the vector v with each of its monomials so replaced
use Rattle.std.specs.Prelude.{ℕ, zero, suc, ◌+◌, ◌-◌, Option, Some, None, List, [], ◌∷◌, map, slice_index_or}
use native.Mathlib.Decide.{dec_le}
use Rattle.alg_core.specs.Fields.{FieldOn, scalars}
use Rattle.alg_core.specs.FreeModules.{extend}
use Rattle.alg_core.specs.Monomials.{exponent, mono}
use Rattle.alg_core.specs.Keys.{Key, key_same}
use Rattle.alg_core.specs.Vectors.{Vect, vectors, zero_vector, shift}
use Rattle.poly_module.specs.Polynomials.{single_vector}

-- the variable where the fact holds, else another one
unfoldable pub here_or : {P : Type 0} → Dec P → ℕ → Option ℕ → Option ℕ
here_or (yes p) i other = Some i
here_or (no p) i other = other

unfoldable pub reached_from : ℕ → List ℕ → List ℕ → Option ℕ
reached_from i [] a = None
reached_from i (e ∷ es) a = here_or (dec_le e (exponent a i)) i (reached_from (i + 1) es a)

abbrev pub first_reached : List ℕ → List ℕ → Option ℕ
first_reached es a = reached_from 0 es a

unfoldable pub without : ℕ → ℕ → List ℕ → List ℕ
without i e [] = []
without zero e (x ∷ a) = (x - e) ∷ a
without (suc i) e (x ∷ a) = x ∷ without i e a

module _ {E : Type 0} (k : FieldOn E) where
  abbrev pub exponents_of : List (ℕ × Vect k) → List ℕ
  exponents_of ps = map (λ p. p.0) ps

  -- one power of the variable replaced by the form
  abbrev pub replaced_by : ℕ × Vect k → Key → ℕ → Vect k
  replaced_by p t i = shift k (mono (without i p.0 t.1.0)) p.1

  unfoldable pub replaced_at : List (ℕ × Vect k) → Key → Option ℕ → Vect k
  replaced_at ps t None = single_vector k t
  replaced_at ps t (Some i) = replaced_by (slice_index_or ps i (0, zero_vector k)) t i

  abbrev pub replaced : List (ℕ × Vect k) → Key → Vect k
  replaced ps t = replaced_at ps t (first_reached (exponents_of ps) t.1.0)

  unfoldable pub spread_once : List (ℕ × Vect k) → Vect k → Vect k
  spread_once ps = extend (scalars k) key_same (vectors k) (replaced ps)
