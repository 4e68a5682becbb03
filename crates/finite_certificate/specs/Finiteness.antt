-- Powers of the variables that make the polynomials a finite module over the algebra of θ.
--
--   IsPower k n θ i p           p is an exponent e and a polynomial in variables and marks, each term of which has a mark and
--                               whose value is the power with the exponent e of variable i, from 0
--   IsPowerAt k n θ ps i        the i-th of ps, from 0, is such a power of variable i
--   FiniteBy k n θ ps           there is one for each of the n variables, and no more
--   IsFirstFailure k n θ ps i   i is the first place, from 1, at which ps has no such power
--   IsBelow es t                the exponent of each variable i in the key t is smaller than the i-th of es
--   Spanned k n θ es            each polynomial in n variables is the value of one in variables and marks whose keys are below es
--   powers_of S ps              the powers of the program, with their forms as vectors
--   AreLow S ps                 polynomials of the space that have no degree over the limit
--   IsLowPower S p              a power of the program with an exponent up to the limit, and a form that has no degree over it
--   HasForm S p                 the form of a power of the program is homogeneous
--   IsLowTerm S e               a term of the space with no degree over the limit
use Rattle.std.specs.Prelude.{◌≡◌, ◌<◌, ◌≤◌, ◌+◌, ℕ, List, All, map, length, slice_index_or}
use Rattle.alg_core.specs.Fields.{FieldOn}
use Rattle.alg_core.specs.Monomials.{exponent}
use Rattle.alg_core.specs.Keys.{Key, key}
use Rattle.alg_core.specs.Vectors.{Entry, Vect, zero_vector}
use Rattle.alg_core.specs.declared.term.Term.{Term}
use Rattle.alg_core.specs.Spaces.{SpaceOver, IsTerm}
use Rattle.alg_core.specs.SpaceGrading.{degree}
use Rattle.poly_module.specs.Parts.{Supp, IsPolynomial, InVariables}
use Rattle.poly_module.specs.Degrees.{IsHomogeneous}
use Rattle.poly_module.specs.Combinations.{mark_value}
use Rattle.poly_module.specs.Marks.{IsMixed}
use Rattle.poly_module.specs.SpaceVectors.{IsPoly, IsUpTo, vector_of}
use Rattle.finite_certificate.specs.declared.power.Power.{Power}
use Rattle.finite_certificate.specs.Ideals.{variable_power}
use Rattle.finite_certificate.specs.MarkSpaces.{HasMark, degree_limit}

abbrev pub IsBelow : List ℕ → Key → Type 0
IsBelow es t = (i : ℕ) → i < length es → exponent t.1.0 i < slice_index_or es i 0

abbrev pub powers_of : {E : Type 0} (S : SpaceOver E) → List (Power E) → List (ℕ × Vect S.field)
powers_of S ps = map (λ p. (p.exponent, vector_of S (λ m. m) p.form)) ps

module _ {E : Type 0} (S : SpaceOver E) where
  abbrev pub AreLow : List (List (Term E (List ℕ))) → Type 0
  AreLow ps = All (λ p. IsPoly S (λ m. m) p × IsUpTo S degree_limit (vector_of S (λ m. m) p)) ps

  pub record IsLowPower (p : Power E) : Type 0 where
    pub exponent : p.exponent ≤ degree_limit
    pub poly : IsPoly S (λ m. m) p.form
    pub low : IsUpTo S degree_limit (vector_of S (λ m. m) p.form)

  abbrev pub HasForm : Power E → Type 0
  HasForm p = (d : ℕ) × IsHomogeneous S d (vector_of S (λ m. m) p.form)

  pub record IsLowTerm (e : Entry E) : Type 0 where
    pub is_term : IsTerm S e
    pub low : degree S (key e.0) ≤ degree_limit

module _ {E : Type 0} (k : FieldOn E) (n : ℕ) (θ : List (Vect k)) where
  -- the power of a variable is the value of a form in the marks
  pub record IsPower (i : ℕ) (p : ℕ × Vect k) : Type 0 where
    pub mixed : IsMixed k n (length θ) p.1
    pub marks : Supp k (HasMark n) p.1
    pub value : mark_value k n θ p.1 ≡ variable_power k i p.0

  -- at the place i of the list, from 0
  abbrev pub IsPowerAt : List (ℕ × Vect k) → ℕ → Type 0
  IsPowerAt ps i = IsPower i (slice_index_or ps i (0, zero_vector k))

  pub record FiniteBy (ps : List (ℕ × Vect k)) : Type 0 where
    pub count : length ps ≡ n
    pub powers : (i : ℕ) → i < n → IsPowerAt ps i

  pub record IsFirstFailure (ps : List (ℕ × Vect k)) (i : ℕ) : Type 0 where
    pub place : ℕ
    pub from_one : place + 1 ≡ i
    pub within : i ≤ n
    pub fails : ¬ IsPowerAt ps place
    pub before : (j : ℕ) → j < place → IsPowerAt ps j

  abbrev pub Spanned : List ℕ → Type 0
  Spanned es = (f : Vect k) → IsPolynomial k f → InVariables k n f
      → (u : Vect k) × IsMixed k n (length θ) u × Supp k (IsBelow es) u × (mark_value k n θ u ≡ f)
