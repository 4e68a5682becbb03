-- Polynomials in given polynomials. θ are primary invariants, Q irreducible generators.
--
--   IsWord k m u              u is a polynomial in the first m variables, which are marks: one for each of m given polynomials
--   IsPolynomialIn k gs f     f is the value of such a polynomial, where the marks have the values gs
--   InAlgebra k θ Q f         f is a polynomial in the members of θ and of Q
--   IsAlgebraEchelon S gs d ls   the lines ls are triangular, and a form of degree d lies in their span exactly where it is a
--                             polynomial in gs
use Rattle.std.specs.Prelude.{◌≡◌, ℕ, List, ◌++◌, length}
use Rattle.alg_core.specs.Fields.{FieldOn}
use Rattle.alg_core.specs.Spaces.{SpaceOver}
use Rattle.alg_core.specs.Vectors.{Vect}
use Rattle.poly_module.specs.Echelons.{Spans}
use Rattle.poly_module.specs.Forms.{IsForm}
use Rattle.poly_module.specs.Parts.{IsPolynomial, InVariables}
use Rattle.poly_module.specs.Substitutions.{substitute}
use Rattle.secondary_gens.specs.Eliminations.{Line, IsEchelonOf}
use Rattle.secondary_gens.specs.Forms.{unit_weights}

module _ {E : Type 0} (k : FieldOn E) where
  -- a polynomial in the first m variables
  pub record IsWord (m : ℕ) (u : Vect k) : Type 0 where
    pub polynomial : IsPolynomial k u
    pub variables : InVariables k m u

  -- the value of one
  abbrev pub IsPolynomialIn : List (Vect k) → Vect k → Type 0
  IsPolynomialIn gs f = (u : Vect k) × IsWord (length gs) u × (substitute k gs u ≡ f)

  -- in θ and Q
  abbrev pub InAlgebra : List (Vect k) → List (Vect k) → Vect k → Type 0
  InAlgebra θ Q f = IsPolynomialIn (θ ++ Q) f

module _ {E : Type 0} (S : SpaceOver E) where
  -- by elimination in one degree
  pub record IsAlgebraEchelon (gs : List (Vect S.field)) (d : ℕ) (ls : List (Line S.field)) : Type 0 where
    pub values : List (Vect S.field)
    pub echelon : IsEchelonOf S.field values ls
    pub inside : (f : Vect S.field) → Spans S.field values f → IsPolynomialIn S.field gs f
    pub whole : (f : Vect S.field) → IsForm S.field (unit_weights S) d f → IsPolynomialIn S.field gs f → Spans S.field values f
